-- Laws of the Bernstein polynomials: de Casteljau's recursion gives the sum of c i * B_{i,n}(u); powers to Bernstein coefficients;
-- and coefficients within m keep the polynomial within m on 0 to 1.
use mathlib.Core.List.{List, [], ◌∷◌}
use mathlib.Core.Path.{◌∙◌, ◌≡◌, ap, fun_ext, refl, subst, sym}
use std.Quotient.{cls, eq/}
use Prim.Native.Nat.{◌*◌, ◌+◌, ◌<◌, ◌≤◌, suc, suc-le-suc, zero, zero-le, ℕ}
use native.Mathlib.Nat.{le_refl, le-suc, le_trans}
use native.Mathlib.Omega.{arith}
use lib.Arith.{lt→nleb}
use lib.IntN.{pos}
use Rattle.fraction.specs.Bernstein.{bernstein, bernstein_coefficient, bernstein_form, complement, de_casteljau}
use Rattle.fraction.specs.Binomial.{choose}
use Rattle.fraction.specs.Fraction.{multiply_fractions, whole_fraction}
use Rattle.fraction.specs.Integer.{integer_ring}
use Rattle.fraction.specs.Order.{OrderedRing, le_two, nonnegative_difference}
use Rattle.fraction.specs.Polynomial.{horner, polynomial}
use Rattle.fraction.specs.Rational.{Above, ◌*q◌, ◌/q◌, ◌≤q◌, at_mostq, inverse, negq, wholeq, ℚ, 𝟘, 𝟙}
use Rattle.fraction.specs.RationalRing.{rational_ring}
use Rattle.fraction.specs.Ring.{CommutativeRing, Expression, ◌⊕◌, ◌⊖◌, ◌⊗◌, combine, con, solve, v0, v1, v2, v3, v4, v5, v6, v7, v8, v9}
use Rattle.fraction.specs.Sum.{power, sum}
use Rattle.fraction.proofs.Binomial.{choose_above, choose_absorb, choose_positive}
use Rattle.fraction.proofs.Inverse.{quotient_is}
use Rattle.fraction.proofs.Polynomial.{horner_is_sum, monus, monus_is, monus_step}
use Rattle.fraction.proofs.Rational.{rational_order}
use Rattle.fraction.proofs.Sum.{sum_add, sum_equal, sum_last, sum_scale}

abbrev I1 : Expression
I1 = con (pos 1)

module _ {A : Type 0} (R : CommutativeRing A) where
  de_casteljau_constant : (n : ℕ) (k u : A) → de_casteljau R n (λ _. k) u ≡ k
  de_casteljau_constant zero k u = refl
  de_casteljau_constant (suc n) k u =
      ap (λ (z : A). R.add (R.mul (R.add (R.of (pos 1)) (R.neg u)) z) (R.mul u z)) (de_casteljau_constant n k u)
      ∙ solve R (k ∷ u ∷ []) ((I1 ⊖ v1) ⊗ v0 ⊕ v1 ⊗ v0) v0 tt

  -- it is linear in the coefficients
  de_casteljau_linear : (n : ℕ) (r : A) (a b : ℕ → A) (u : A) → de_casteljau R n (λ i. R.add (a i) (R.mul r (b i))) u
      ≡ R.add (de_casteljau R n a u) (R.mul r (de_casteljau R n b u))
  de_casteljau_linear zero r a b u = refl
  de_casteljau_linear (suc n) r a b u =
      ap (λ (z : A). R.add (R.mul (R.add (R.of (pos 1)) (R.neg u)) z)
      (R.mul u (de_casteljau R n (λ i. R.add (a (suc i)) (R.mul r (b (suc i)))) u))) (de_casteljau_linear n r a b u)
      ∙ ap (λ (z : A). R.add (R.mul (R.add (R.of (pos 1)) (R.neg u)) (R.add (de_casteljau R n a u) (R.mul r (de_casteljau R n b u))))
      (R.mul u z)) (de_casteljau_linear n r (λ i. a (suc i)) (λ i. b (suc i)) u)
      ∙ solve R (u ∷ r ∷ de_casteljau R n a u ∷ de_casteljau R n b u ∷ de_casteljau R n (λ i. a (suc i)) u ∷ de_casteljau R n (λ i. b (suc i)) u
      ∷ [])
      ((I1 ⊖ v0) ⊗ (v2 ⊕ v1 ⊗ v3) ⊕ v0 ⊗ (v4 ⊕ v1 ⊗ v5)) ((I1 ⊖ v0) ⊗ v2 ⊕ v0 ⊗ v4 ⊕ v1 ⊗ ((I1 ⊖ v0) ⊗ v3 ⊕ v0 ⊗ v5)) tt

  -- i * c (i - 1)
  abbrev weighted : (ℕ → A) → ℕ → A
  weighted c zero = R.of (pos 0)
  weighted c (suc i) = R.mul (R.of (pos (suc i))) (c i)

  suc_is : (n : ℕ) → R.of (pos (suc n)) ≡ R.add (R.of (pos n)) (R.of (pos 1))
  suc_is n = ap (λ (k : ℕ). R.of (pos k)) (up n) ∙ R.of_add (pos n) (pos 1)
    where
      up : (n : ℕ) → suc n ≡ n + 1
      up n = omega arith

  weighted_shift : (c : ℕ → A) (i : ℕ) → weighted c (suc i) ≡ R.add (weighted (λ j. c (suc j)) i) (R.mul (R.of (pos 1)) (c i))
  weighted_shift c zero = solve R (c zero ∷ []) (I1 ⊗ v0) (con (pos 0) ⊕ I1 ⊗ v0) tt
  weighted_shift c (suc i) = ap (λ (z : A). R.mul z (c (suc i))) (suc_is (suc i)) ∙ solve R (c (suc i) ∷ R.of (pos (suc i)) ∷
      []) ((v1 ⊕ I1) ⊗ v0) (v1 ⊗ v0 ⊕ I1 ⊗ v0) tt

  de_casteljau_weighted : (n : ℕ) (c : ℕ → A) (u : A) → de_casteljau R (suc n) (weighted c) u
      ≡ R.mul (R.of (pos (suc n))) (R.mul u (de_casteljau R n c u))
  de_casteljau_weighted zero c u = solve R (c zero ∷ u ∷ []) ((I1 ⊖ v1) ⊗ con (pos 0) ⊕ v1 ⊗ (I1 ⊗ v0)) (I1 ⊗ (v1 ⊗ v0)) tt
  de_casteljau_weighted (suc n) c u =
      let c' : ℕ → A = λ i. c (suc i) in
      let k = R.of (pos (suc n)) in
      let x = de_casteljau R n c u in
      let y = de_casteljau R n c' u in
      ap (λ (z : A). R.add (R.mul (R.add (R.of (pos 1)) (R.neg u)) z) (R.mul u (de_casteljau R (suc n) (λ i. weighted c (suc i)) u)))
      (de_casteljau_weighted n c u)
      ∙ ap (λ (f : ℕ → A). R.add (R.mul (R.add (R.of (pos 1)) (R.neg u)) (R.mul k (R.mul u x)))
      (R.mul u (de_casteljau R (suc n) f u))) (fun_ext (weighted_shift c))
      ∙ ap (λ (z : A). R.add (R.mul (R.add (R.of (pos 1)) (R.neg u)) (R.mul k (R.mul u x))) (R.mul u z))
      (de_casteljau_linear (suc n) (R.of (pos 1)) (weighted c') c u)
      ∙ ap (λ (z : A). R.add (R.mul (R.add (R.of (pos 1)) (R.neg u)) (R.mul k (R.mul u x)))
      (R.mul u (R.add z (R.mul (R.of (pos 1)) (de_casteljau R (suc n) c u))))) (de_casteljau_weighted n c' u)
      ∙ solve R (u ∷ k ∷ x ∷ y ∷ []) ((I1 ⊖ v0) ⊗ (v1 ⊗ (v0 ⊗ v2)) ⊕ v0 ⊗ (v1 ⊗ (v0 ⊗ v3) ⊕ I1 ⊗ ((I1 ⊖ v0) ⊗ v2 ⊕ v0 ⊗ v3)))
      ((v1 ⊕ I1) ⊗ (v0 ⊗ ((I1 ⊖ v0) ⊗ v2 ⊕ v0 ⊗ v3))) tt
      ∙ ap (λ (z : A). R.mul z (R.mul u (de_casteljau R (suc n) c u))) (sym (suc_is (suc n)))

  -- ---- de Casteljau's recursion and eq. 1.8
  abbrev form : ℕ → (ℕ → A) → A → A → A
  form n c u v = sum R n (λ i. R.mul (c i) (R.mul (R.mul (R.of (pos (choose n i))) (power R u i)) (power R v (monus n i))))

  -- the part of degree n + 1 that the coefficients of degree n make
  abbrev part : ℕ → (ℕ → A) → A → A → ℕ → A
  part n c u v i = R.mul (c i) (R.mul (R.mul (R.of (pos (choose n i))) (power R u i)) (power R v (monus (suc n) i)))

  part_is : (n : ℕ) (c : ℕ → A) (u v : A) → sum R (suc n) (part n c u v) ≡ R.mul v (form n c u v)
  part_is n c u v =
      sum_last R n (part n c u v)
      ∙ ap (λ (z : ℕ). R.add (sum R n (part n c u v))
      (R.mul (c (suc n)) (R.mul (R.mul (R.of (pos z)) (power R u (suc n))) (power R v (monus n n)))))
      (choose_above n (suc n) (le_refl (suc n)))
      ∙ solve R (sum R n (part n c u v) ∷ c (suc n) ∷ power R u (suc n) ∷ power R v (monus n n) ∷ []) (v0 ⊕ v1 ⊗ (con (pos 0) ⊗ v2 ⊗ v3)) v0
      tt
      ∙ sum_equal R n (part n c u v) (λ i. R.mul v
      (R.mul (c i) (R.mul (R.mul (R.of (pos (choose n i))) (power R u i)) (power R v (monus n i)))))
      (λ i l. ap (λ (e : ℕ). R.mul (c i) (R.mul (R.mul (R.of (pos (choose n i))) (power R u i)) (power R v e)))
      (monus_step (suc n) i (suc-le-suc l))
      ∙ solve R (c i ∷ R.of (pos (choose n i)) ∷ power R u i ∷ v ∷ power R v (monus n i) ∷ []) (v0 ⊗ (v1 ⊗ v2 ⊗ (v3 ⊗ v4)))
      (v3 ⊗ (v0 ⊗ (v1 ⊗ v2 ⊗ v4))) tt)
      ∙ sum_scale R n v (λ i. R.mul (c i) (R.mul (R.mul (R.of (pos (choose n i))) (power R u i)) (power R v (monus n i))))

  form_suc : (n : ℕ) (c : ℕ → A) (u v : A) → form (suc n) c u v ≡ R.add (R.mul v (form n c u v)) (R.mul u (form n (λ i. c (suc i)) u v))
  form_suc n c u v =
      let d : ℕ → A = λ i. c (suc i) in
      let t : ℕ → A = λ i. R.mul (d i) (R.mul (R.mul (R.of (pos (choose n i))) (power R u i)) (power R v (monus n i))) in
      ap (λ (f : ℕ → A). R.add (part n c u v zero) (sum R n f)) (fun_ext (λ i.
      ap (λ (z : A). R.mul (d i) (R.mul (R.mul z (power R u (suc i))) (power R v (monus n i))))
      (R.of_add (pos (choose n i)) (pos (choose n (suc i))))
      ∙ solve R (d i ∷ R.of (pos (choose n i)) ∷ R.of (pos (choose n (suc i))) ∷ u ∷ power R u i ∷ power R v (monus n i) ∷ [])
      (v0 ⊗ ((v1 ⊕ v2) ⊗ (v3 ⊗ v4) ⊗ v5)) (v3 ⊗ (v0 ⊗ (v1 ⊗ v4 ⊗ v5)) ⊕ v0 ⊗ (v2 ⊗ (v3 ⊗ v4) ⊗ v5)) tt))
      ∙ ap (λ (z : A). R.add (part n c u v zero) z) (sum_add R n (λ i. R.mul u (t i)) (λ i. part n c u v (suc i)) ∙ ap
      (λ (z : A). R.add z (sum R n (λ i. part n c u v (suc i)))) (sum_scale R n u t))
      ∙ solve R (part n c u v zero ∷ R.mul u (sum R n t) ∷ sum R n (λ i. part n c u v (suc i)) ∷ []) (v0 ⊕ (v1 ⊕ v2)) (v0 ⊕ v2 ⊕ v1) tt
      ∙ ap (λ (z : A). R.add z (R.mul u (sum R n t))) (part_is n c u v)

  cut_form : (n : ℕ) (c : ℕ → A) (u : A) → de_casteljau R n c u ≡ form n c u (complement R u)
  cut_form zero c u = solve R (c zero ∷ []) v0 (v0 ⊗ (I1 ⊗ I1 ⊗ I1)) tt
  cut_form (suc n) c u =
      ap (λ (z : A). R.add (R.mul (complement R u) z) (R.mul u (de_casteljau R n (λ i. c (suc i)) u))) (cut_form n c u)
      ∙ ap (λ (z : A). R.add (R.mul (complement R u) (form n c u (complement R u))) (R.mul u z)) (cut_form n (λ i. c (suc i)) u)
      ∙ sym (form_suc n c u (complement R u))

  -- de Casteljau's recursion gives the sum of c i * B_{i,n}(u)
  pub de_casteljau_law : (n : ℕ) (c : ℕ → A) (u : A) → de_casteljau R n c u ≡ bernstein_form R n c u
  unfolding bernstein
  de_casteljau_law n c u =
      cut_form n c u
      ∙ ap (λ (e : ℕ → ℕ). sum R n (λ i. R.mul (c i) (R.mul (R.mul (R.of (pos (choose n i))) (power R u i))
      (power R (complement R u) (e i))))) (fun_ext (λ i. monus_is n i))

  -- ---- powers to Bernstein coefficients
  module _ (inv : ℕ → A) (inv-is : (n : ℕ) → R.mul (inv n) (R.of (pos (suc n))) ≡ R.of (pos 1)) where
    -- the Bernstein coefficients, of degree n, of the polynomial with the powers' coefficients p
    abbrev nested_coefficient : ℕ → (ℕ → A) → ℕ → A
    nested_coefficient zero p i = p zero
    nested_coefficient (suc n) p i = R.add (p zero) (R.mul (inv n) (weighted (nested_coefficient n (λ j. p (suc j))) i))

    nested_is_horner : (n : ℕ) (p : ℕ → A) (u : A) → de_casteljau R n (nested_coefficient n p) u ≡ horner R n p u
    nested_is_horner zero p u = refl
    nested_is_horner (suc n) p u =
        let q : ℕ → A = λ j. p (suc j) in
        de_casteljau_linear (suc n) (inv n) (λ _. p zero) (weighted (nested_coefficient n q)) u
        ∙ ap (λ (z : A). R.add z (R.mul (inv n) (de_casteljau R (suc n) (weighted (nested_coefficient n q)) u)))
        (de_casteljau_constant (suc n) (p zero) u)
        ∙ ap (λ (z : A). R.add (p zero) (R.mul (inv n) z)) (de_casteljau_weighted n (nested_coefficient n q) u)
        ∙ combine R (p zero ∷ inv n ∷ R.of (pos (suc n)) ∷ u ∷ de_casteljau R n (nested_coefficient n q) u ∷ []) (v0 ⊕ v1 ⊗ (v2 ⊗ (v3 ⊗ v4)))
        (v0 ⊕ v3 ⊗ v4) (v3 ⊗ v4) (v1 ⊗ v2) I1 tt (inv-is n)
        ∙ ap (λ (z : A). R.add (p zero) (R.mul u z)) (nested_is_horner n q u)

    -- C(i, k) / C(n, k)
    abbrev binomial_ratio : ℕ → ℕ → ℕ → A
    binomial_ratio n i zero = R.of (pos 1)
    binomial_ratio zero i (suc k) = R.of (pos 0)
    binomial_ratio (suc n) zero (suc k) = R.of (pos 0)
    binomial_ratio (suc n) (suc i) (suc k) = R.mul (R.mul (inv n) (R.of (pos (suc i)))) (binomial_ratio n i k)

    none : (n : ℕ) (p : ℕ → A) → sum R n (λ k. R.mul (R.of (pos 0)) (p k)) ≡ R.of (pos 0)
    none n p = sum_scale R n (R.of (pos 0)) p ∙ solve R (sum R n p ∷ []) (con (pos 0) ⊗ v0) (con (pos 0)) tt

    coefficient_is_sum : (n : ℕ) (p : ℕ → A) (i : ℕ) → nested_coefficient n p i ≡ sum R n (λ k. R.mul (binomial_ratio n i k) (p k))
    coefficient_is_sum zero p i = solve R (p zero ∷ []) v0 (con (pos 1) ⊗ v0) tt
    coefficient_is_sum (suc n) p zero =
        ap (λ (z : A). R.add (p zero) (R.mul (inv n) z)) (sym (none n (λ k. p (suc k))))
        ∙ ap (λ (z : A). R.add (p zero) (R.mul (inv n) z)) (none n (λ k. p (suc k)))
        ∙ solve R (p zero ∷ inv n ∷ []) (v0 ⊕ v1 ⊗ con (pos 0)) (con (pos 1) ⊗ v0 ⊕ con (pos 0)) tt
        ∙ ap (λ (z : A). R.add (R.mul (R.of (pos 1)) (p zero)) z) (sym (none n (λ k. p (suc k))))
    coefficient_is_sum (suc n) p (suc i) =
        let q : ℕ → A = λ k. p (suc k) in
        let m = R.mul (inv n) (R.of (pos (suc i))) in
        ap (λ (z : A). R.add (p zero) (R.mul (inv n) (R.mul (R.of (pos (suc i))) z))) (coefficient_is_sum n q i)
        ∙ solve R (p zero ∷ inv n ∷ R.of (pos (suc i)) ∷ sum R n (λ k. R.mul (binomial_ratio n i k) (q k)) ∷ []) (v0 ⊕ v1 ⊗ (v2 ⊗ v3))
        (con (pos 1) ⊗ v0 ⊕ v1 ⊗ v2 ⊗ v3) tt
        ∙ ap (λ (z : A). R.add (R.mul (R.of (pos 1)) (p zero)) z) (sym (sum_scale R n m (λ k. R.mul (binomial_ratio n i k) (q k))))
        ∙ ap (λ (f : ℕ → A). R.add (R.mul (R.of (pos 1)) (p zero)) (sum R n f))
        (fun_ext (λ k. sym (R.mul_assoc m (binomial_ratio n i k) (q k))))

    -- times C(n, k) it is C(i, k)
    binomial_ratio_is : (n i k : ℕ) → k ≤ n → R.mul (binomial_ratio n i k) (R.of (pos (choose n k))) ≡ R.of (pos (choose i k))
    binomial_ratio_is n i zero h = R.mul_one (R.of (pos 1))
    binomial_ratio_is zero i (suc k) h = absurd (bad h)
      where
        bad : suc k ≤ 0 → ⊥
        bad x = omega arith
    binomial_ratio_is (suc n) zero (suc k) h = solve R (R.of (pos (choose n k + choose n (suc k))) ∷ []) (con (pos 0) ⊗ v0) (con (pos 0))
        tt
    binomial_ratio_is (suc n) (suc i) (suc k) h =
        let ρ : List A = inv n ∷ R.of (pos (suc i)) ∷ binomial_ratio n i k ∷ R.of (pos (choose (suc n) (suc k))) ∷ R.of (pos (suc n)) ∷
        R.of (pos (suc k)) ∷ R.of (pos (choose n k)) ∷ R.of (pos (choose i k)) ∷ R.of (pos (choose (suc i) (suc k))) ∷ inv k ∷ [] in
        let one = con (pos 1) in
        let abs : (n k : ℕ) → R.mul (R.of (pos (suc k))) (R.of (pos (choose (suc n) (suc k))))
        ≡ R.mul (R.of (pos (suc n))) (R.of (pos (choose n k)))
        = λ n k. sym (R.of_mul (pos (suc k)) (pos (choose (suc n) (suc k)))) ∙ ap (λ (z : ℕ). R.of (pos z)) (choose_absorb n k)
        ∙ R.of_mul (pos (suc n)) (pos (choose n k)) in
        combine R ρ (v0 ⊗ v1 ⊗ v2 ⊗ v3) (v9 ⊗ v5 ⊗ v0 ⊗ v1 ⊗ v2 ⊗ v3) (v0 ⊗ v1 ⊗ v2 ⊗ v3) one (v9 ⊗ v5) tt (sym (inv-is k))
        ∙ combine R ρ (v9 ⊗ v5 ⊗ v0 ⊗ v1 ⊗ v2 ⊗ v3) (v9 ⊗ v0 ⊗ v1 ⊗ v2 ⊗ v4 ⊗ v6) (v9 ⊗ v0 ⊗ v1 ⊗ v2) (v5 ⊗ v3) (v4 ⊗ v6) tt (abs n k)
        ∙ combine R ρ (v9 ⊗ v0 ⊗ v1 ⊗ v2 ⊗ v4 ⊗ v6) (v9 ⊗ v1 ⊗ v2 ⊗ v6) (v9 ⊗ v1 ⊗ v2 ⊗ v6) (v0 ⊗ v4) one tt (inv-is n)
        ∙ combine R ρ (v9 ⊗ v1 ⊗ v2 ⊗ v6) (v9 ⊗ v1 ⊗ v7) (v9 ⊗ v1) (v2 ⊗ v6) v7 tt (binomial_ratio_is n i k (less h))
        ∙ combine R ρ (v9 ⊗ v1 ⊗ v7) (v9 ⊗ v5 ⊗ v8) v9 (v1 ⊗ v7) (v5 ⊗ v8) tt (sym (abs i k))
        ∙ combine R ρ (v9 ⊗ v5 ⊗ v8) v8 v8 (v9 ⊗ v5) one tt (inv-is k)
      where
        less : suc k ≤ suc n → k ≤ n
        less l = omega arith

module _ {A : Type 0} (R : CommutativeRing A) (le : A → A → Type 0) (L : OrderedRing R le) where
  -- every coefficient is at most m: so is the value for every u from 0 to 1
  pub de_casteljau_le : (n : ℕ) (c : ℕ → A) (m u : A) → ((i : ℕ) → i ≤ n → le (c i) m) → le (R.of (pos 0)) u → le u (R.of (pos 1))
      → le (de_casteljau R n c u) m
  de_casteljau_le zero c m u h u0 u1 = h zero zero-le
  de_casteljau_le (suc n) c m u h u0 u1 =
      let x = de_casteljau_le n c m u (λ i l. h i (le_trans l (le-suc n))) u0 u1 in
      let y = de_casteljau_le n (λ i. c (suc i)) m u (λ i l. h (suc i) (suc-le-suc l)) u0 u1 in
      le_two R le L (m ∷ u ∷ de_casteljau R n c u ∷ de_casteljau R n (λ i. c (suc i)) u ∷ []) ((I1 ⊖ v1) ⊗ v2 ⊕ v1 ⊗ v3) v0 (I1 ⊖ v1) v2 v0 v1
      v3 v0 tt (nonnegative_difference R le L u (R.of (pos 1)) u1) x u0 y

  -- and at least m, where they all are
  pub de_casteljau_ge : (n : ℕ) (c : ℕ → A) (m u : A) → ((i : ℕ) → i ≤ n → le m (c i)) → le (R.of (pos 0)) u → le u (R.of (pos 1))
      → le m (de_casteljau R n c u)
  de_casteljau_ge zero c m u h u0 u1 = h zero zero-le
  de_casteljau_ge (suc n) c m u h u0 u1 =
      let x = de_casteljau_ge n c m u (λ i l. h i (le_trans l (le-suc n))) u0 u1 in
      let y = de_casteljau_ge n (λ i. c (suc i)) m u (λ i l. h (suc i) (suc-le-suc l)) u0 u1 in
      le_two R le L (m ∷ u ∷ de_casteljau R n c u ∷ de_casteljau R n (λ i. c (suc i)) u ∷ []) v0 ((con (pos 1) ⊖ v1) ⊗ v2 ⊕ v1 ⊗ v3)
      (con (pos 1) ⊖ v1) v0 v2 v1 v0 v3 tt (nonnegative_difference R le L u (R.of (pos 1)) u1) x u0 y

-- 1 / (n + 1)
abbrev reciprocal : ℕ → ℚ
reciprocal n = cls (record { numerator = pos 1; denominator = suc n; positive = omega arith })

reciprocal_is : (n : ℕ) → reciprocal n *q wholeq (pos (suc n)) ≡ wholeq (pos 1)
unfolding ◌*q◌
reciprocal_is n = eq/ (multiply_fractions (record { numerator = pos 1; denominator = suc n; positive = omega arith })
    (whole_fraction (pos (suc n)))) (whole_fraction (pos 1)) (solve integer_ring (pos (suc n) ∷ []) (con (pos 1) ⊗ v0 ⊗ con (pos 1))
    (con (pos 1) ⊗ (v0 ⊗ con (pos 1))) tt)

above : (k : ℕ) → 0 < k → Above (wholeq (pos k))
unfolding at_mostq
above k l = lt→nleb (k * 1 + 0) (0 * 1 + 0) (omega arith)

coefficient_is : (n : ℕ) (p : ℕ → ℚ) (i : ℕ) → bernstein_coefficient n p i ≡ nested_coefficient rational_ring reciprocal reciprocal_is n p i
coefficient_is n p i =
    sum_equal rational_ring n (λ j. p j *q wholeq (pos (choose i j)) /q wholeq (pos (choose n j)))
    (λ j. binomial_ratio rational_ring reciprocal reciprocal_is n i j *q p j)
    (λ j l. let r = binomial_ratio rational_ring reciprocal reciprocal_is n i j in
    solve rational_ring (p j ∷ wholeq (pos (choose i j)) ∷ inverse (wholeq (pos (choose n j))) ∷ []) (v0 ⊗ v1 ⊗ v2) (v1 ⊗ v2 ⊗ v0) tt
    ∙ ap (λ (z : ℚ). z *q p j) (sym (quotient_is (wholeq (pos (choose i j))) (wholeq (pos (choose n j))) r
    (above (choose n j) (choose_positive n j l)) (binomial_ratio_is rational_ring reciprocal reciprocal_is n i j l))))
    ∙ sym (coefficient_is_sum rational_ring reciprocal reciprocal_is n p i)

-- the polynomial with coefficients p is the sum of its Bernstein coefficients times B_{i,n}(u)
pub powers_to_bernstein : (n : ℕ) (p : ℕ → ℚ) (u : ℚ) → bernstein_form rational_ring n (bernstein_coefficient n p) u
    ≡ polynomial rational_ring n p u
powers_to_bernstein n p u =
    sym (de_casteljau_law rational_ring n (bernstein_coefficient n p) u)
    ∙ ap (λ (c : ℕ → ℚ). de_casteljau rational_ring n c u) (fun_ext (coefficient_is n p))
    ∙ nested_is_horner rational_ring reciprocal reciprocal_is n p u
    ∙ horner_is_sum rational_ring n p u

-- if all Bernstein coefficients of a polynomial lie from -m to m, so does its value everywhere from 0 to 1
pub within : (n : ℕ) (p : ℕ → ℚ) (m u : ℚ) → ((i : ℕ) → i ≤ n → (negq m ≤q bernstein_coefficient n p i) × (bernstein_coefficient n p i ≤q m))
    → 𝟘 ≤q u → u ≤q 𝟙
    → (negq m ≤q polynomial rational_ring n p u) × (polynomial rational_ring n p u ≤q m)
within n p m u h u0 u1 =
    let c = bernstein_coefficient n p in
    let e : de_casteljau rational_ring n c u ≡ polynomial rational_ring n p u = de_casteljau_law rational_ring n c u
    ∙ powers_to_bernstein n p u in (
      subst (λ (z : ℚ). negq m ≤q z) e (de_casteljau_ge rational_ring ◌≤q◌ rational_order n c (negq m) u (λ i l. (h i l).0) u0 u1),
      subst (λ (z : ℚ). z ≤q m) e (de_casteljau_le rational_ring ◌≤q◌ rational_order n c m u (λ i l. (h i l).1) u0 u1),
    )
