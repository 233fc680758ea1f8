-- The order of fractions, and knots that never fall.
use mathlib.Core.Path.{◌≡◌}
use Prim.Native.Nat.{ℕ, zero, suc, ◌+◌, ◌-◌, ◌≤◌, ◌<◌}
use native.Mathlib.Omega.{arith}
use native.Mathlib.Nat.{le_antisymm}
use std.Quotient.{eq/, /_set, /_elim_prop₂}
use mathlib.Core.HLevel.{Π_prop}
use lib.Dec.{T_not}
use Rattle.fraction.specs.Integer.{equal_by_parts}
use Rattle.fraction.proofs.Rational.{≤q-refl, ≤q-trans, ≤q-means-≤f, <q-≤q-trans, ≤q-<q-trans}
use Rattle.fraction.specs.Rational.{ℚ, at_mostq, ◌≤q◌, ◌<q◌}
use Rattle.book.specs.Basis.{Nondecreasing}

-- x ≤ y and y ≤ x: they are equal
pub antisymmetric : (x y : ℚ) → x ≤q y → y ≤q x → x ≡ y
antisymmetric =
    /_elim_prop₂ (λ x y. x ≤q y → y ≤q x → x ≡ y) (λ x y. Π_prop (λ _. Π_prop (λ _. /_set x y)))
    (λ a b h g. eq/ a b (equal_by_parts _ _ (le_antisymm (≤q-means-≤f a b h) (≤q-means-≤f b a g))))

-- not x ≤ y and y < x
pub not_both : (x y : ℚ) → x ≤q y → y <q x → ⊥
not_both x y h g = T_not (at_mostq x y) g h

module _ (t : ℕ → ℚ) (n : ℕ) (sorted : Nondecreasing n t) where
  climb : (i d : ℕ) → i + d < n → t i ≤q t (i + d)
  climb i zero g = let e : i + 0 ≡ i = omega arith in rw e (≤q-refl (t i))
  climb i (suc d) g =
      let e : i + suc d ≡ i + d + 1 = omega arith in
      rw e (≤q-trans (t i) (t (i + d)) (t (i + d + 1)) (climb i d (omega arith)) (sorted (i + d) (omega arith)))

  -- any two knots, not only neighbours
  pub rises : (i j : ℕ) → i ≤ j → j < n → t i ≤q t j
  rises i j l g = let e : i + (j - i) ≡ j = omega arith in rw e at (climb i (j - i) (omega arith))

  -- a stretch of knots that holds a span wider than 0 is wider than 0
  pub wider : (s i j : ℕ) → i ≤ s → s < j → j < n → t s <q t (s + 1) → t i <q t j
  wider s i j l m g w = ≤q-<q-trans (t i) (t s) (t j) (rises i s l (omega arith)) (<q-≤q-trans (t s) (t (s + 1)) (t j) w
      (rises (s + 1) j (omega arith) g))
