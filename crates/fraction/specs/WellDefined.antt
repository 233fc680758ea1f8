-- LAWS: nothing here need be believed; pass over it.
-- The laws that make the operations and the order on ℚ well defined: equal fractions have equal sums, products, inverses and orders.
-- They stand here, and not in proofs/, since the definitions of Rational need them.
use Rattle.std.specs.Prelude.{Bool, false, true, [], ◌∷◌, ◌≡◌, refl, ◌*◌, ◌+◌, ◌<◌, suc, zero, ℕ, T, ◌*ℤ◌, negsuc, neg_ℤ, pos, ℤ}
use Rattle.std.proofs.Common.{◌∙◌, ap, subst, sym, le_of_mul-le-mul_right, arith, leb→le, le→leb}
use Rattle.std.proofs.Math.Nat.{eq_of_mul-eq-mul_right}
use Rattle.fraction.specs.Fraction.{Fraction, ◌≈◌, ◌≤f◌, add_fractions, fraction_at_most, inverse_fraction, multiply_fractions, negate_fraction}
use Rattle.fraction.specs.Integer.{◌≤z◌, equal_by_parts, integer_order, integer_ring, negative_part, parts_mul, parts_neg, positive_part}
use Rattle.fraction.specs.Order.{le_two}
use Rattle.fraction.specs.Ring.{◌⊕◌, ◌⊗◌, combine, con, opposite, solve, v0, v1, v2, v3, v4, v5}

-- a common factor above 0 can be cancelled
pub cancel : (x y : ℤ) (k : ℕ) → 0 < k → x *ℤ pos k ≡ y *ℤ pos k → x ≡ y
cancel x y k h e =
    equal_by_parts x y
    (eq_of_mul-eq-mul_right k h (positive_part x + negative_part y) (positive_part y + negative_part x)
    (omega (arith, parts_mul x (pos k), parts_mul y (pos k), ap positive_part e, ap negative_part e)))

pub cancel_le : (x y : ℤ) (k : ℕ) → 0 < k → x *ℤ pos k ≤z y *ℤ pos k → x ≤z y
cancel_le x y k h e = le_of_mul-le-mul_right {k = k} (omega (arith, parts_mul x (pos k), parts_mul y (pos k))) h

-- equality by cross products is transitive
pub ≈-trans : (a b c : Fraction) → a ≈ b → b ≈ c → a ≈ c
≈-trans a b c h k =
    cancel (a.numerator *ℤ pos c.denominator) (c.numerator *ℤ pos a.denominator) b.denominator b.positive
    (combine integer_ring (a.numerator ∷ b.numerator ∷ c.numerator ∷ pos a.denominator ∷ pos b.denominator ∷ pos c.denominator ∷
    [])
    (v0 ⊗ v5 ⊗ v4) (v1 ⊗ v3 ⊗ v5) v5 (v0 ⊗ v4) (v1 ⊗ v3) tt h
    ∙ combine integer_ring (a.numerator ∷ b.numerator ∷ c.numerator ∷ pos a.denominator ∷ pos b.denominator ∷ pos c.denominator ∷
    [])
    (v1 ⊗ v3 ⊗ v5) (v2 ⊗ v3 ⊗ v4) v3 (v1 ⊗ v5) (v2 ⊗ v4) tt k)

-- sums and products of equal fractions are equal
pub add_respects_left : (a a' b : Fraction) → a ≈ a' → add_fractions a b ≈ add_fractions a' b
add_respects_left a a' b h =
    combine integer_ring (a.numerator ∷ a'.numerator ∷ b.numerator ∷ pos a.denominator ∷ pos a'.denominator ∷ pos b.denominator ∷
    [])
    ((v0 ⊗ v5 ⊕ v2 ⊗ v3) ⊗ (v4 ⊗ v5)) ((v1 ⊗ v5 ⊕ v2 ⊗ v4) ⊗ (v3 ⊗ v5)) (v5 ⊗ v5) (v0 ⊗ v4) (v1 ⊗ v3) tt h

pub mul_respects_left : (a a' b : Fraction) → a ≈ a' → multiply_fractions a b ≈ multiply_fractions a' b
mul_respects_left a a' b h =
    combine integer_ring (a.numerator ∷ a'.numerator ∷ b.numerator ∷ pos a.denominator ∷ pos a'.denominator ∷ pos b.denominator ∷
    [])
    (v0 ⊗ v2 ⊗ (v4 ⊗ v5)) (v1 ⊗ v2 ⊗ (v3 ⊗ v5)) (v2 ⊗ v5) (v0 ⊗ v4) (v1 ⊗ v3) tt h

pub add_fractions_comm : (a b : Fraction) → add_fractions a b ≈ add_fractions b a
add_fractions_comm a b = solve integer_ring (a.numerator ∷ b.numerator ∷ pos a.denominator ∷ pos b.denominator ∷ [])
    ((v0 ⊗ v3 ⊕ v1 ⊗ v2) ⊗ (v3 ⊗ v2)) ((v1 ⊗ v2 ⊕ v0 ⊗ v3) ⊗ (v2 ⊗ v3)) tt

-- a natural number is not negative
pub natural_nonnegative : (n : ℕ) → pos 0 ≤z pos n
natural_nonnegative n = omega arith

-- the order by cross products is transitive
pub ≤f-trans : (a b c : Fraction) → a ≤f b → b ≤f c → a ≤f c
≤f-trans a b c h k =
    cancel_le (a.numerator *ℤ pos c.denominator) (c.numerator *ℤ pos a.denominator) b.denominator b.positive
    (le_two integer_ring ◌≤z◌ integer_order (a.numerator ∷ b.numerator ∷ c.numerator ∷ pos a.denominator ∷ pos b.denominator ∷ pos
    c.denominator ∷ [])
    (v0 ⊗ v5 ⊗ v4) (v2 ⊗ v3 ⊗ v4) v5 (v0 ⊗ v4) (v1 ⊗ v3) v3 (v1 ⊗ v5) (v2 ⊗ v4) tt (natural_nonnegative c.denominator) h
    (natural_nonnegative a.denominator) k)

pub add_respects_right : (a b b' : Fraction) → b ≈ b' → add_fractions a b ≈ add_fractions a b'
add_respects_right a b b' h = ≈-trans (add_fractions a b) (add_fractions b a) (add_fractions a b') (add_fractions_comm a b)
    (≈-trans (add_fractions b a) (add_fractions b' a) (add_fractions a b') (add_respects_left b b' a h) (add_fractions_comm b' a))

pub multiply_fractions_comm : (a b : Fraction) → multiply_fractions a b ≈ multiply_fractions b a
multiply_fractions_comm a b = solve integer_ring (a.numerator ∷ b.numerator ∷ pos a.denominator ∷ pos b.denominator ∷ [])
    (v0 ⊗ v1 ⊗ (v3 ⊗ v2)) (v1 ⊗ v0 ⊗ (v2 ⊗ v3)) tt

pub mul_respects_right : (a b b' : Fraction) → b ≈ b' → multiply_fractions a b ≈ multiply_fractions a b'
mul_respects_right a b b' h = ≈-trans (multiply_fractions a b) (multiply_fractions b a) (multiply_fractions a b') (multiply_fractions_comm a b)
    (≈-trans (multiply_fractions b a) (multiply_fractions b' a) (multiply_fractions a b') (mul_respects_left b b' a h)
    (multiply_fractions_comm b' a))

-- negatives of equal fractions are equal
pub neg_respects : (a a' : Fraction) → a ≈ a' → negate_fraction a ≈ negate_fraction a'
neg_respects a a' h = combine integer_ring (a.numerator ∷ a'.numerator ∷ pos a.denominator ∷ pos a'.denominator ∷ [])
    (opposite v0 ⊗ v3) (opposite v1 ⊗ v2) (con (negsuc 0)) (v0 ⊗ v3) (v1 ⊗ v2) tt h

-- the test says what the order says
pub fraction_at_most_law : (a b : Fraction) → T (fraction_at_most a b) → a ≤f b
fraction_at_most_law a b t = leb→le _ _ t

pub fraction_test : (a b : Fraction) → a ≤f b → T (fraction_at_most a b)
fraction_test a b h = le→leb _ _ h

-- two tests that imply each other are equal
pub same_tests : (x y : Bool) → (T x → T y) → (T y → T x) → x ≡ y
same_tests true true f g = refl
same_tests true false f g = absurd (f tt)
same_tests false true f g = absurd (g tt)
same_tests false false f g = refl

-- equal fractions are in order
pub ≤f-of-≈ : (a b : Fraction) → a ≈ b → a ≤f b
≤f-of-≈ a b h = subst (λ (z : ℤ). a.numerator *ℤ pos b.denominator ≤z z) h
    (integer_order.le_refl (a.numerator *ℤ pos b.denominator))

-- equal fractions have the same order
pub le_respects_left : (a a' b : Fraction) → a ≈ a' → fraction_at_most a b ≡ fraction_at_most a' b
le_respects_left a a' b h = same_tests (fraction_at_most a b) (fraction_at_most a' b)
    (λ t. fraction_test a' b (≤f-trans a' a b (≤f-of-≈ a' a (sym h)) (fraction_at_most_law a b t)))
    (λ t. fraction_test a b (≤f-trans a a' b (≤f-of-≈ a a' h) (fraction_at_most_law a' b t)))

pub le_respects_right : (a b b' : Fraction) → b ≈ b' → fraction_at_most a b ≡ fraction_at_most a b'
le_respects_right a b b' h = same_tests (fraction_at_most a b) (fraction_at_most a b')
    (λ t. fraction_test a b' (≤f-trans a b b' (fraction_at_most_law a b t) (≤f-of-≈ b b' h)))
    (λ t. fraction_test a b (≤f-trans a b' b (fraction_at_most_law a b' t) (≤f-of-≈ b' b (sym h))))

-- -a times b is -(a * b)
pub negative_mul : (a b : ℕ) → neg_ℤ (pos a) *ℤ pos b ≡ neg_ℤ (pos (a * b))
negative_mul a b = equal_by_parts (neg_ℤ (pos a) *ℤ pos b) (neg_ℤ (pos (a * b)))
    (omega (
      arith,
      parts_mul (neg_ℤ (pos a)) (pos b),
      ap (λ (z : ℕ). z * b) (parts_neg (pos a)).0,
      ap (λ (z : ℕ). z * b)
          (parts_neg (pos a)).1,
      (parts_neg (pos (a * b))).0,
      (parts_neg (pos (a * b))).1,
    ))

-- inverses of equal fractions are equal
pub inverse_respects : (x : ℤ) (d : ℕ) (D : 0 < d) (y : ℤ) (e : ℕ) (W : 0 < e) → x *ℤ pos e ≡ y *ℤ pos d
    → inverse_fraction x d ≈ inverse_fraction y e
inverse_respects (pos zero) d D (pos zero) e W h = refl
inverse_respects (pos zero) d D (pos (suc n)) e W h = absurd (bad (ap positive_part h))
  where
    bad : 0 * e ≡ suc n * d → ⊥
    bad k = omega arith
inverse_respects (pos zero) d D (negsuc n) e W h = absurd (bad (ap negative_part h) (parts_neg (pos (suc n * d))).1)
  where
    bad : 0 ≡ negative_part (neg_ℤ (pos (suc n * d))) → negative_part (neg_ℤ (pos (suc n * d))) ≡ suc n * d → ⊥
    bad k l = omega arith
inverse_respects (pos (suc m)) d D (pos zero) e W h = absurd (bad (ap positive_part h))
  where
    bad : suc m * e ≡ 0 * d → ⊥
    bad k = omega arith
inverse_respects (pos (suc m)) d D (pos (suc n)) e W h = ap pos (go (ap positive_part h))
  where
    go : suc m * e ≡ suc n * d → d * suc n ≡ e * suc m
    go k = omega arith
inverse_respects (pos (suc m)) d D (negsuc n) e W h = absurd (bad (ap positive_part h) (parts_neg (pos (suc n * d))).0)
  where
    bad : suc m * e ≡ positive_part (neg_ℤ (pos (suc n * d))) → positive_part (neg_ℤ (pos (suc n * d))) ≡ 0 → ⊥
    bad k l = omega arith
inverse_respects (negsuc m) d D (pos zero) e W h = absurd (bad (ap negative_part h) (parts_neg (pos (suc m * e))).1)
  where
    bad : negative_part (neg_ℤ (pos (suc m * e))) ≡ 0 → negative_part (neg_ℤ (pos (suc m * e))) ≡ suc m * e → ⊥
    bad k l = omega arith
inverse_respects (negsuc m) d D (pos (suc n)) e W h = absurd (bad (ap positive_part h) (parts_neg (pos (suc m * e))).0)
  where
    bad : positive_part (neg_ℤ (pos (suc m * e))) ≡ suc n * d → positive_part (neg_ℤ (pos (suc m * e))) ≡ 0 → ⊥
    bad k l = omega arith
inverse_respects (negsuc m) d D (negsuc n) e W h = negative_mul d (suc n) ∙ ap (λ (z : ℕ). neg_ℤ (pos z)) (go (ap negative_part h)
    (parts_neg (pos (suc m * e))).1 (parts_neg (pos (suc n * d))).1) ∙ sym (negative_mul e (suc m))
  where
    go : negative_part (neg_ℤ (pos (suc m * e))) ≡ negative_part (neg_ℤ (pos (suc n * d))) → negative_part (neg_ℤ (pos (suc m * e))) ≡ suc m * e
        → negative_part (neg_ℤ (pos (suc n * d))) ≡ suc n * d → d * suc n ≡ e * suc m
    go k l r = omega arith
