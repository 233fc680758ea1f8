-- One axis on one piece, which is what a segment and a waypoint interval have in common: the steps of the source's `audit` over any
-- arithmetic.
-- The local parameter on the segment is u + w y, with y from 0 to 1 on the piece.
use Rattle.std.specs.Prelude.{ℕ, ◌+◌, ◌-◌, List, [], ◌∷◌, get_or}
use Rattle.arith.specs.Operations.{Arith}
use Rattle.arith.specs.Loop.{each}
use Rattle.bspline.specs.Choose.{choose_of}

-- `*value += choose(k, j) * coefficient * u.powi((k - j) as i32)`
unfoldable pub add_term : {A : Type 0} → Arith A → (A → ℕ → A) → List A → A → ℕ → ℕ → A → A
add_term o powi p u j k v = o.plus v (o.times (o.times (choose_of o k j) (get_or p k o.outside)) (powi u (k - j)))

-- power j of the segment's polynomial p, by y: the sum of these terms, from 0, and `*value *= w.powi(j as i32)`
unfoldable pub piece_power : {A : Type 0} → Arith A → (A → ℕ → A) → List A → A → A → ℕ → A
piece_power o powi p u w j = o.times (each (add_term o powi p u j) j 6 o.zero) (powi w j)

-- all six
unfoldable pub piece_powers : {A : Type 0} → Arith A → (A → ℕ → A) → List A → A → A → List A
piece_powers o powi p u w =
    piece_power o powi p u w 0
    ∷ piece_power o powi p u w 1
    ∷ piece_power o powi p u w 2
    ∷ piece_power o powi p u w 3
    ∷ piece_power o powi p u w 4
    ∷ piece_power o powi p u w 5
    ∷ []

-- the six powers less the line a + b y
unfoldable pub error_of : {A : Type 0} → Arith A → (A → ℕ → A) → List A → A → A → A → A → List A
error_of o powi p u w a b =
    o.minus (piece_power o powi p u w 0) a
    ∷ o.minus (piece_power o powi p u w 1) b
    ∷ piece_power o powi p u w 2
    ∷ piece_power o powi p u w 3
    ∷ piece_power o powi p u w 4
    ∷ piece_power o powi p u w 5
    ∷ []

-- `v += value * choose(k, j) / choose(P, j)`
unfoldable pub add_share : {A : Type 0} → Arith A → List A → ℕ → ℕ → A → A
add_share o p k j v = o.plus v (o.over (o.times (get_or p j o.outside) (choose_of o k j)) (choose_of o 5 j))

-- Bernstein coefficient k of the six powers p
unfoldable pub bernstein_of : {A : Type 0} → Arith A → List A → ℕ → A
bernstein_of o p k = each (add_share o p k) 0 (k + 1) o.zero

-- all six
unfoldable pub bernstein_coefficients : {A : Type 0} → Arith A → List A → List A
bernstein_coefficients o p =
    bernstein_of o p 0 ∷ bernstein_of o p 1 ∷ bernstein_of o p 2 ∷ bernstein_of o p 3 ∷ bernstein_of o p 4 ∷ bernstein_of o p 5 ∷ []

-- where a piece lies: u and w on the segment; what part of the waypoint interval lies before it, and what part it is
pub record PieceOver (A : Type 0) : Type 0 where
  pub u : A
  pub w : A
  pub before : A
  pub part : A

-- the piece from left to right, in the segment from a to b and the waypoint interval from s₀ to s₁: `u`, `w` and the two quotients of the
-- line
unfoldable pub piece_from : {A : Type 0} → Arith A → A → A → A → A → A → A → PieceOver A
piece_from o a b s₀ s₁ left right =
    record {
      u = o.over (o.minus left a) (o.minus b a);
      w = o.over (o.minus right left) (o.minus b a);
      before = o.over (o.minus left s₀) (o.minus s₁ s₀);
      part = o.over (o.minus right left) (o.minus s₁ s₀);
    }

-- the Bernstein coefficients of a segment's six powers p less the line from `start` to `end` over the interval
unfoldable pub error_form : {A : Type 0} → Arith A → (A → ℕ → A) → List A → A → A → PieceOver A → List A
error_form o powi p start end q =
    let delta = o.minus end start in
    bernstein_coefficients o
    (error_of o powi p q.u q.w (o.plus start (o.times q.before delta)) (o.times q.part delta))

-- the Bernstein coefficients of the segment's polynomial on a piece, without the reference line (document 02, request 9)
unfoldable pub curve_form : {A : Type 0} → Arith A → (A → ℕ → A) → List A → A → A → List A
curve_form o powi p u w = bernstein_coefficients o (piece_powers o powi p u w)
