-- The six Bernstein coefficients of curve minus line on one intersection of a waypoint interval with a segment: document 01, "The certified
-- figure". "Products go left to right, sums start at 0 and rise."
use Rattle.std.specs.Prelude.{ℕ, zero, suc, ◌+◌, ◌-◌, Float}
use Rattle.fraction.specs.Binomial.{choose}
use Rattle.figure.specs.Operations.{Operations}

-- the numbers that an intersection is computed from
pub record Intersection : Type 0 where
  -- the segment [a, b] and its coefficients p_k
  pub start : Float
  pub end : Float
  pub coefficient : ℕ → Float
  -- [left, right]
  pub left : Float
  pub right : Float
  -- the waypoint interval: s_i, s_(i+1), y_i, y_(i+1)
  pub from : Float
  pub to : Float
  pub first : Float
  pub second : Float

module _ {A : Type 0} (o : Operations A) where
  -- f first + .. , `count` terms: "sums start at 0 and rise"
  unfoldable pub total : ℕ → ℕ → (ℕ → A) → A
  total first zero f = o.whole 0
  total first (suc count) f = o.plus (total first count f) (f (first + count))

  -- u^k: "Powers multiply up from 1"
  unfoldable pub raised : A → ℕ → A
  raised u zero = o.whole 1
  raised u (suc k) = o.times (raised u k) u

  -- "power j = (sum over k from j to 5 of C(k,j)·p_k·U^(k-j))·W^j"
  unfoldable pub power : (ℕ → A) → A → A → ℕ → A
  unfolding total raised
  power p u w j = o.times (total j (6 - j) (λ k. o.times (o.times (o.whole (choose k j)) (p k)) (raised u (k - j)))) (raised w j)

  -- power 0 without c, power 1 without r, and the others
  abbrev pub without : A → A → (ℕ → A) → ℕ → A
  without c r q zero = o.minus (q zero) c
  without c r q (suc zero) = o.minus (q (suc zero)) r
  without c r q (suc (suc j)) = q (suc (suc j))

  -- "Bernstein k = sum over j ≤ k of power j·C(k,j)/C(5,j)"
  unfoldable pub bernstein : (ℕ → A) → ℕ → A
  unfolding total
  bernstein q k = total 0 (suc k) (λ j. o.over (o.times (q j) (o.whole (choose k j))) (o.whole (choose 5 j)))

  module _ (x : Intersection) where
    -- "U = (left - a)/(b - a), W = (right - left)/(b - a)"
    abbrev pub offset : A
    offset = o.over (o.minus (o.number x.left) (o.number x.start)) (o.minus (o.number x.end) (o.number x.start))

    abbrev pub scale : A
    scale = o.over (o.minus (o.number x.right) (o.number x.left)) (o.minus (o.number x.end) (o.number x.start))

    -- "D = y_(i+1) - y_i, L = s_(i+1) - s_i. Power 0 loses y_i + ((left - s_i)/L)·D"
    abbrev pub line_at_left : A
    line_at_left =
        o.plus (o.number x.first)
        (o.times (o.over (o.minus (o.number x.left) (o.number x.from)) (o.minus (o.number x.to) (o.number x.from)))
        (o.minus (o.number x.second) (o.number x.first)))

    -- "power 1 loses ((right - left)/L)·D"
    abbrev pub line_rise : A
    line_rise =
        o.times (o.over (o.minus (o.number x.right) (o.number x.left)) (o.minus (o.number x.to) (o.number x.from)))
        (o.minus (o.number x.second) (o.number x.first))

    -- the powers of curve minus line
    abbrev pub difference_power : ℕ → A
    difference_power = without line_at_left line_rise (power (λ k. o.number (x.coefficient k)) offset scale)

    -- and the Bernstein coefficient k
    abbrev pub difference_bernstein : ℕ → A
    difference_bernstein = bernstein difference_power
