-- Segments and intervals that share more than a point: left is below right. Every segment shares more than a point with some interval, and
-- every interval with some segment.
use mathlib.Core.Bool.{Bool, cond, false, not, true}
use mathlib.Core.Logic.{inl, inr}
use mathlib.Core.Path.{◌∙◌, ◌≡◌, subst, sym}
use Prim.Native.Nat.{ℕ, zero, suc, ◌+◌, ◌-◌, ◌<◌}
use native.Mathlib.Omega.{arith}
use lib.Dec.{T}
use lib.Ieee.{Float, lt}
use Rattle.fraction.specs.Pair.{highest, lowest}
use Rattle.fraction.specs.Rational.{◌<q◌, ◌≤q◌, ℚ}
use Rattle.fraction.specs.Value.{value}
use Rattle.fraction.proofs.Lowest.{highest_is, lowest_is}
use Rattle.fraction.proofs.Rational.{<q-≤q-trans, never, ≤q-or-<}
use Rattle.fraction.proofs.Value.{value_le_of_not_lt}
use Rattle.figure.specs.Distance.{Rises}
use Rattle.figure.specs.Figure.{Axis, intersection}
use Rattle.figure.proofs.Rising.{first_is, last_is, rises_finite, rises_strictly, rises_to}

-- what holds of both holds of the one chosen
either : (P : Float → Type 0) (b : Bool) (x y : Float) → P x → P y → P (cond b x y)
either P true x y h k = h
either P false x y h k = k

pub highest_has : (P : Float → Type 0) (x y : Float) → P x → P y → P (highest x y)
unfolding highest
highest_has P x y h k = either P (lt x y) y x k h

pub lowest_has : (P : Float → Type 0) (x y : Float) → P x → P y → P (lowest x y)
unfolding lowest
lowest_has P x y h k = either P (lt y x) y x k h

module _ (x : Axis) (breaks : Rises x.segments x.break) (parameters : Rises x.intervals x.parameter) where
  module _ (m i : ℕ) (m< : m < x.segments) (i< : i < x.intervals) (p : value (x.break m) <q value (x.parameter (i + 1)))
      (q : value (x.parameter i) <q value (x.break (m + 1))) where
    -- the larger of the two starts is below the smaller of the two ends
    pub overlap_values : value (highest (x.break m) (x.parameter i)) <q value (lowest (x.break (m + 1)) (x.parameter (i + 1)))
    overlap_values =
        highest_has (λ z. value z <q value (lowest (x.break (m + 1)) (x.parameter (i + 1)))) (x.break m) (x.parameter i)
        (lowest_has (λ z. value (x.break m) <q value z) (x.break (m + 1)) (x.parameter (i + 1))
        (rises_strictly x.segments x.break breaks m m<) p)
        (lowest_has (λ z. value (x.parameter i) <q value z) (x.break (m + 1)) (x.parameter (i + 1)) q
        (rises_strictly x.intervals x.parameter parameters i i<))

    -- so the figure's definition counts their intersection
    pub overlap : T (lt (intersection x i m).left (intersection x i m).right)
    unfolding intersection
    overlap =
        let l = highest (x.break m) (x.parameter i) in
        let r = lowest (x.break (m + 1)) (x.parameter (i + 1)) in
        let L = (highest_is (x.break m) (x.parameter i) (rises_finite x.segments x.break breaks m (omega arith))
        (rises_finite x.intervals x.parameter parameters i (omega arith))).is_finite in
        let H = (lowest_is (x.break (m + 1)) (x.parameter (i + 1)) (rises_finite x.segments x.break breaks (m + 1) (omega arith))
        (rises_finite x.intervals x.parameter parameters (i + 1) (omega arith))).is_finite in
        go (lt l r) (value_le_of_not_lt r l H L)
      where
        go : (b : Bool) → (T (not b) → value (lowest (x.break (m + 1)) (x.parameter (i + 1))) ≤q value
            (highest (x.break m) (x.parameter i))) → T b
        go true f = tt
        go false f = never (value (highest (x.break m) (x.parameter i))) (value (lowest (x.break (m + 1)) (x.parameter (i + 1))))
            overlap_values (f tt)

-- the place of t in a list: at or above the number there, and below the next
pub record Place (x : ℕ → Float) (count : ℕ) (t : ℚ) : Type 0 where
  pub place : ℕ
  pub inside : place < count
  pub above : value (x place) ≤q t
  pub below : t <q value (x (place + 1))

pub find : (x : ℕ → Float) (t : ℚ) → value (x 0) ≤q t → (n : ℕ) → t <q value (x n) → Place x n t
find x t h zero l = absurd (never t (value (x 0)) l h)
find x t h (suc n) l = elim (≤q-or-< (value (x n)) t) [
  | inl k ↦ let e : suc n ≡ n + 1 = omega arith in record {
    place = n;
    inside = omega arith;
    above = k;
    below = subst
        (λ (j : ℕ). t <q value (x j)) e l;
  }
  | inr k ↦ let w = find x t h n k in record { place = w.place; inside = omega arith; above = w.above; below = w.below }
]

-- where number i of one list that rises from 0 to 1 lies in another
pub located : (m : ℕ) (a : ℕ → Float) (n : ℕ) (s : ℕ → Float) → Rises m a → Rises n s → (i : ℕ) → i < m → Place s n (value (a i))
located m a n s A S i l =
    find s (value (a i)) (subst (λ (z : ℚ). z ≤q value (a i)) (first_is m a A ∙ sym (first_is n s S))
    (rises_to m a A 0 i i (omega arith) (omega arith))) n
    (subst (λ (z : ℚ). value (a i) <q z) (last_is m a A ∙ sym (last_is n s S)) (<q-≤q-trans (value (a i)) (value (a (i + 1))) (value (a m))
    (rises_strictly m a A i l) (rises_to m a A (i + 1) (m - (i + 1)) m (omega arith) (omega arith))))
