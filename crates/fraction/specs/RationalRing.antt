-- LAWS, but for the four operations in `rational_ring`, which are those of ℚ (Rational); pass over the rest.
-- ℚ as a commutative ring. Sums and polynomials take their operations from this record, which asks for the laws: so the laws stand here.
use Rattle.std.specs.Prelude.{[], ◌∷◌, ◌≡◌, refl, ◌*ℤ◌, ◌+ℤ◌, negsuc, pos, ℤ}
use std.Quotient.{/_elim_prop, /_elim_prop₂, /_elim_prop₃, /_set, eq/}
use Rattle.fraction.specs.Fraction.{Fraction, ◌≈◌, add_fractions, multiply_fractions, negate_fraction, whole_fraction}
use Rattle.fraction.specs.Integer.{integer_ring}
use Rattle.fraction.specs.Rational.{◌*q◌, ◌+q◌, negq, wholeq, ℚ}
use Rattle.fraction.specs.Ring.{CommutativeRing, ◌⊕◌, ◌⊗◌, con, opposite, solve, v0, v1, v2, v3, v4, v5}
use Rattle.fraction.specs.WellDefined.{add_fractions_comm, multiply_fractions_comm}

add_fractions_assoc : (a b c : Fraction) → add_fractions (add_fractions a b) c ≈ add_fractions a (add_fractions b c)
add_fractions_assoc a b c =
    solve integer_ring (a.numerator ∷ b.numerator ∷ c.numerator ∷ pos a.denominator ∷ pos b.denominator ∷ pos c.denominator ∷ [])
    (((v0 ⊗ v4 ⊕ v1 ⊗ v3) ⊗ v5 ⊕ v2 ⊗ (v3 ⊗ v4)) ⊗ (v3 ⊗ (v4 ⊗ v5))) ((v0 ⊗ (v4 ⊗ v5) ⊕ (v1 ⊗ v5 ⊕ v2 ⊗ v4) ⊗ v3) ⊗ (v3 ⊗ v4 ⊗ v5)) tt

multiply_fractions_add : (a b c : Fraction) → multiply_fractions a (add_fractions b c) ≈ add_fractions (multiply_fractions a b)
    (multiply_fractions a c)
multiply_fractions_add a b c =
    solve integer_ring (a.numerator ∷ b.numerator ∷ c.numerator ∷ pos a.denominator ∷ pos b.denominator ∷ pos c.denominator ∷ [])
    (v0 ⊗ (v1 ⊗ v5 ⊕ v2 ⊗ v4) ⊗ (v3 ⊗ v4 ⊗ (v3 ⊗ v5))) ((v0 ⊗ v1 ⊗ (v3 ⊗ v5) ⊕ v0 ⊗ v2 ⊗ (v3 ⊗ v4)) ⊗ (v3 ⊗ (v4 ⊗ v5))) tt

pub +q-assoc : (a b c : ℚ) → (a +q b) +q c ≡ a +q (b +q c)
unfolding ◌+q◌
+q-assoc = /_elim_prop₃ (λ x y z. (x +q y) +q z ≡ x +q (y +q z)) (λ x y z. /_set _ _) (λ a b c. eq/ (add_fractions (add_fractions a b) c)
    (add_fractions a (add_fractions b c)) (add_fractions_assoc a b c))

pub +q-comm : (a b : ℚ) → a +q b ≡ b +q a
unfolding ◌+q◌
+q-comm = /_elim_prop₂ (λ x y. x +q y ≡ y +q x) (λ x y. /_set _ _) (λ a b. eq/ (add_fractions a b) (add_fractions b a)
    (add_fractions_comm a b))

pub +q-zero : (a : ℚ) → a +q wholeq (pos 0) ≡ a
unfolding ◌+q◌
+q-zero = /_elim_prop (λ x. x +q wholeq (pos 0) ≡ x) (λ x. /_set _ _) (λ a. eq/ (add_fractions a (whole_fraction (pos 0))) a
    (solve integer_ring (a.numerator ∷ pos a.denominator ∷ []) ((v0 ⊗ con (pos 1) ⊕ con (pos 0) ⊗ v1) ⊗ v1) (v0 ⊗ (v1 ⊗ con (pos 1)))
    tt))

pub *q-assoc : (a b c : ℚ) → (a *q b) *q c ≡ a *q (b *q c)
unfolding ◌*q◌
*q-assoc = /_elim_prop₃ (λ x y z. (x *q y) *q z ≡ x *q (y *q z)) (λ x y z. /_set _ _)
    (λ a b c. eq/ (multiply_fractions (multiply_fractions a b) c) (multiply_fractions a (multiply_fractions b c))
    (solve integer_ring (a.numerator ∷ b.numerator ∷ c.numerator ∷ pos a.denominator ∷ pos b.denominator ∷ pos c.denominator ∷
    [])
    (v0 ⊗ v1 ⊗ v2 ⊗ (v3 ⊗ (v4 ⊗ v5))) (v0 ⊗ (v1 ⊗ v2) ⊗ (v3 ⊗ v4 ⊗ v5)) tt))

pub *q-comm : (a b : ℚ) → a *q b ≡ b *q a
unfolding ◌*q◌
*q-comm = /_elim_prop₂ (λ x y. x *q y ≡ y *q x) (λ x y. /_set _ _) (λ a b. eq/ (multiply_fractions a b) (multiply_fractions b a)
    (multiply_fractions_comm a b))

pub *q-one : (a : ℚ) → a *q wholeq (pos 1) ≡ a
unfolding ◌*q◌
*q-one = /_elim_prop (λ x. x *q wholeq (pos 1) ≡ x) (λ x. /_set _ _) (λ a. eq/ (multiply_fractions a (whole_fraction (pos 1))) a
    (solve integer_ring (a.numerator ∷ pos a.denominator ∷ []) ((v0 ⊗ con (pos 1)) ⊗ v1) (v0 ⊗ (v1 ⊗ con (pos 1))) tt))

pub *q-zero : (a : ℚ) → a *q wholeq (pos 0) ≡ wholeq (pos 0)
unfolding ◌*q◌
*q-zero = /_elim_prop (λ x. x *q wholeq (pos 0) ≡ wholeq (pos 0)) (λ x. /_set _ _) (λ a. eq/ (multiply_fractions a (whole_fraction (pos 0)))
    (whole_fraction (pos 0)) (solve integer_ring (a.numerator ∷ pos a.denominator ∷ []) ((v0 ⊗ con (pos 0)) ⊗ con (pos 1))
    (con (pos 0) ⊗ (v1 ⊗ con (pos 1))) tt))

pub *q-add : (a b c : ℚ) → a *q (b +q c) ≡ a *q b +q a *q c
unfolding ◌*q◌ ◌+q◌
*q-add = /_elim_prop₃ (λ x y z. x *q (y +q z) ≡ x *q y +q x *q z) (λ x y z. /_set _ _)
    (λ a b c. eq/ (multiply_fractions a (add_fractions b c)) (add_fractions (multiply_fractions a b) (multiply_fractions a c))
    (multiply_fractions_add a b c))

pub negq_is : (a : ℚ) → negq a ≡ wholeq (negsuc 0) *q a
unfolding ◌*q◌ negq
negq_is = /_elim_prop (λ x. negq x ≡ wholeq (negsuc 0) *q x) (λ x. /_set _ _) (λ a. eq/ (negate_fraction a)
    (multiply_fractions (whole_fraction (negsuc 0)) a) (solve integer_ring (a.numerator ∷ pos a.denominator ∷ [])
    (opposite v0 ⊗ (con (pos 1) ⊗ v1)) (con (negsuc 0) ⊗ v0 ⊗ v1) tt))

pub wholeq_add : (x y : ℤ) → wholeq (x +ℤ y) ≡ wholeq x +q wholeq y
unfolding ◌+q◌
wholeq_add x y = eq/ (whole_fraction (x +ℤ y)) (add_fractions (whole_fraction x) (whole_fraction y))
    (solve integer_ring (x ∷ y ∷ []) ((v0 ⊕ v1) ⊗ con (pos 1)) ((v0 ⊗ con (pos 1) ⊕ v1 ⊗ con (pos 1)) ⊗ con (pos 1)) tt)

pub wholeq_mul : (x y : ℤ) → wholeq (x *ℤ y) ≡ wholeq x *q wholeq y
unfolding ◌*q◌
wholeq_mul x y = eq/ (whole_fraction (x *ℤ y)) (multiply_fractions (whole_fraction x) (whole_fraction y)) refl

-- the operations of ℚ, with the laws of a commutative ring
abbrev pub rational_ring : CommutativeRing ℚ
rational_ring = record {
  add = ◌+q◌;
  mul = ◌*q◌;
  neg = negq;
  of = wholeq;
  add_assoc = +q-assoc;
  add_comm = +q-comm;
  add_zero = +q-zero;
  mul_assoc = *q-assoc;
  mul_comm = *q-comm;
  mul_one = *q-one;
  mul_zero = *q-zero;
  mul_add = *q-add;
  neg_is = negq_is;
  of_add = wholeq_add;
  of_mul = wholeq_mul;
}
