-- The inverse of a fraction, and quotients by a fraction above 0.
use mathlib.Core.Bool.{not}
use mathlib.Core.HLevel.{Π_prop}
use mathlib.Core.List.{[], ◌∷◌}
use mathlib.Core.Path.{◌≡◌, ap, subst}
use std.Quotient.{/_elim_prop, /_set, eq/}
use Prim.Native.Nat.{◌*◌, ◌+◌, ◌<◌, ◌≤◌, suc, zero, ℕ}
use native.Mathlib.Omega.{arith}
use lib.Dec.{T, T_prop, nleb→lt}
use lib.IntN.{negsuc, neg_ℤ, pos, ℤ}
use Rattle.fraction.specs.Fraction.{◌≈◌, ◌≤f◌, fraction_at_most, inverse_fraction, multiply_fractions, whole_fraction}
use Rattle.fraction.specs.Integer.{negative_part, parts_neg, positive_part}
use Rattle.fraction.specs.Order.{le_one}
use Rattle.fraction.specs.Rational.{Above, ◌*q◌, ◌/q◌, ◌≤q◌, at_mostq, inverse, wholeq, ℚ}
use Rattle.fraction.specs.RationalRing.{rational_ring}
use Rattle.fraction.specs.Ring.{◌⊗◌, combine, combine2, con, opposite, v0, v1, v2, v3}
use Rattle.fraction.specs.WellDefined.{fraction_at_most_law, fraction_test}
use Rattle.fraction.proofs.Rational.{rational_order}

inv_at : (x : ℤ) (d : ℕ) (D : 0 < d) → T (not (fraction_at_most (record { numerator = x; denominator = d; positive = D })
    (whole_fraction (pos 0)))) → multiply_fractions (record { numerator = x; denominator = d; positive = D }) (inverse_fraction x d) ≈
    whole_fraction (pos 1)
inv_at (pos zero) d D t = absurd (bad (nleb→lt _ _ t))
  where
    bad : 0 * d + 0 < 0 * 1 + 0 → ⊥
    bad h = omega arith
inv_at (pos (suc n)) d D t = ap pos go
  where
    go : suc n * d * 1 ≡ 1 * (d * suc n)
    go = omega arith
inv_at (negsuc n) d D t = absurd (bad (nleb→lt _ _ t))
  where
    bad : 0 * d + negative_part (neg_ℤ (pos (suc n * 1))) < positive_part (neg_ℤ (pos (suc n * 1))) + 0 → ⊥
    bad h = omega (arith, (parts_neg (pos (suc n * 1))).0)

-- y * (1 / y) is 1, for a y above 0
pub inverse_is : (y : ℚ) → Above y → y *q inverse y ≡ wholeq (pos 1)
unfolding inverse ◌*q◌ at_mostq
inverse_is = /_elim_prop (λ y. Above y → y *q inverse y ≡ wholeq (pos 1)) (λ y. Π_prop (λ _. /_set _ _))
    (λ a t. eq/ (multiply_fractions a (inverse_fraction a.numerator a.denominator)) (whole_fraction (pos 1))
    (inv_at a.numerator a.denominator a.positive t))

inv_nn_at : (x : ℤ) (d : ℕ) (D : 0 < d) → whole_fraction (pos 0) ≤f record { numerator = x; denominator = d; positive = D }
    → whole_fraction (pos 0) ≤f inverse_fraction x d
inv_nn_at (pos zero) d D h = omega arith
inv_nn_at (pos (suc n)) d D h = omega arith
inv_nn_at (negsuc n) d D h = absurd (bad h)
  where
    bad : 0 * d + negative_part (neg_ℤ (pos (suc n * 1))) ≤ positive_part (neg_ℤ (pos (suc n * 1))) + 0 → ⊥
    bad h = omega (arith, (parts_neg (pos (suc n * 1))).0, (parts_neg (pos (suc n * 1))).1)

-- 0 ≤ y gives 0 ≤ 1 / y
pub inverse_nonnegative : (y : ℚ) → wholeq (pos 0) ≤q y → wholeq (pos 0) ≤q inverse y
unfolding inverse at_mostq
inverse_nonnegative = /_elim_prop (λ y. wholeq (pos 0) ≤q y → wholeq (pos 0) ≤q inverse y)
    (λ y. Π_prop (λ _. T_prop (at_mostq (wholeq (pos 0)) (inverse y)))) (λ a h. fraction_test (whole_fraction (pos 0))
    (inverse_fraction a.numerator a.denominator) (inv_nn_at a.numerator a.denominator a.positive
    (fraction_at_most_law (whole_fraction (pos 0)) a h)))

-- c ≤ y, with inverses i and j that are not negative, gives j ≤ i
pub inverse_antitone : (c y i j : ℚ) → c *q i ≡ wholeq (pos 1) → y *q j ≡ wholeq (pos 1) → wholeq (pos 0) ≤q i → wholeq (pos 0) ≤q j
    → c ≤q y → j ≤q i
inverse_antitone c y i j e f I K h =
    subst (λ (z : ℚ). z ≤q i) (combine rational_ring (c ∷ y ∷ i ∷ j ∷ []) (v0 ⊗ v2 ⊗ v3) v3 v3 (v0 ⊗ v2) (con (pos 1)) tt e)
    (subst (λ (z : ℚ). c *q i *q j ≤q z) (combine rational_ring (c ∷ y ∷ i ∷ j ∷ []) (v1 ⊗ v3 ⊗ v2) v2 v2 (v1 ⊗ v3) (con (pos 1)) tt f)
    (le_one rational_ring ◌≤q◌ rational_order (c ∷ y ∷ i ∷ j ∷ []) (v0 ⊗ v2 ⊗ v3) (v1 ⊗ v3 ⊗ v2) (v2 ⊗ v3) v0 v1 tt
    (rational_order.nonnegative_mul i j I K) h))

-- z * y is x, for a y above 0: then z is x / y
pub quotient_is : (x y z : ℚ) → Above y → z *q y ≡ x → z ≡ x /q y
quotient_is x y z h e =
    combine2 rational_ring (x ∷ y ∷ z ∷ inverse y ∷ []) v2 (v0 ⊗ v3) (opposite v2) (v1 ⊗ v3) (con (pos 1)) v3 (v2 ⊗ v1) v0 tt
    (inverse_is y h) e
