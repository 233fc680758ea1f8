-- Laws of polynomials: Horner's rule, and the re-expansion at a + w * u.
use mathlib.Core.List.{[], ◌∷◌}
use mathlib.Core.Path.{◌∙◌, ◌≡◌, ap, fun_ext, refl, sym}
use Prim.Native.Nat.{◌+◌, ◌-◌, ◌<◌, ◌≤◌, suc, suc-le-suc, zero, ℕ}
use native.Mathlib.Decide.{dec_lt}
use native.Mathlib.Nat.{le_of_suc-le-suc}
use native.Mathlib.Omega.{arith}
use lib.IntN.{pos}
use Rattle.fraction.specs.Binomial.{choose}
use Rattle.fraction.specs.Polynomial.{expanded_coefficient, horner, polynomial}
use Rattle.fraction.specs.Ring.{CommutativeRing, ◌⊕◌, ◌⊗◌, combine, con, solve, v0, v1, v2, v3, v4, v5, var}
use Rattle.fraction.specs.Sum.{power, sum}
use Rattle.fraction.proofs.Binomial.{choose_above}
use Rattle.fraction.proofs.Sum.{sum_add, sum_last, sum_scale, sum_zero}

-- j - k, by clauses that compute
abbrev pub monus : ℕ → ℕ → ℕ
monus j zero = j
monus zero (suc k) = zero
monus (suc j) (suc k) = monus j k

-- one less, for each step of k
pub monus_step : (j k : ℕ) → k < j → monus j k ≡ suc (monus j (suc k))
monus_step zero k h = absurd (bad h)
  where
    bad : suc k ≤ 0 → ⊥
    bad x = omega arith
monus_step (suc j) zero h = refl
monus_step (suc j) (suc k) h = monus_step j k (le_of_suc-le-suc h)

-- it is the difference, cut off at 0
pub monus_is : (j k : ℕ) → monus j k ≡ j - k
monus_is j zero = omega arith
monus_is zero (suc k) = omega arith
monus_is (suc j) (suc k) = monus_is j k ∙ shift
  where
    shift : j - k ≡ suc j - suc k
    shift = omega arith

module _ {A : Type 0} (R : CommutativeRing A) where
  -- Horner's rule gives the sum of p k * u ^ k
  pub horner_is_sum : (n : ℕ) (p : ℕ → A) (u : A) → horner R n p u ≡ polynomial R n p u
  horner_is_sum zero p u = sym (R.mul_one (p zero))
  horner_is_sum (suc n) p u =
      ap (λ (z : A). R.add (p zero) (R.mul u z)) (horner_is_sum n (λ i. p (suc i)) u)
      ∙ ap (λ (z : A). R.add (p zero) z) (sym (sum_scale R n u (λ k. R.mul (p (suc k)) (power R u k))))
      ∙ ap (λ (z : A). R.add z (sum R n (λ k. R.mul u (R.mul (p (suc k)) (power R u k))))) (sym (R.mul_one (p zero)))
      ∙ ap (λ (f : ℕ → A). R.add (R.mul (p zero) (R.of (pos 1))) (sum R n f))
      (fun_ext (λ k. solve R (u ∷ p (suc k) ∷ power R u k ∷ []) (v0 ⊗ (v1 ⊗ v2)) (v1 ⊗ (v0 ⊗ v2)) tt))

  -- the coefficient of u ^ k
  abbrev coef : ℕ → (ℕ → A) → A → A → ℕ → A
  coef n p a w k = sum R n (λ j. R.mul (R.of (pos (choose j k))) (R.mul (p j) (R.mul (power R a (monus j k)) (power R w k))))

  zero_mul : (x : A) → R.mul (R.of (pos 0)) x ≡ R.of (pos 0)
  zero_mul x = solve R (x ∷ []) (con (pos 0) ⊗ v0) (con (pos 0)) tt

  coef_top : (n : ℕ) (p : ℕ → A) (a w : A) → coef n p a w (suc n) ≡ R.of (pos 0)
  coef_top n p a w =
      sum_zero R n (λ j. R.mul (R.of (pos (choose j (suc n)))) (R.mul (p j) (R.mul (power R a (monus j (suc n))) (power R w (suc n)))))
      (λ j l. ap (λ (z : ℕ). R.mul (R.of (pos z)) (R.mul (p j) (R.mul (power R a (monus j (suc n))) (power R w (suc n)))))
      (choose_above j (suc n) (suc-le-suc l)) ∙ zero_mul (R.mul (p j) (R.mul (power R a (monus j (suc n))) (power R w (suc n)))))

  pow_step : (a : A) (j k : ℕ) → R.mul (R.of (pos (choose j (suc k)))) (power R a (monus j k))
      ≡ R.mul (R.of (pos (choose j (suc k)))) (R.mul a (power R a (monus j (suc k))))
  pow_step a j k = elim (dec_lt k j) [
    | yes l ↦ ap (λ (z : ℕ). R.mul (R.of (pos (choose j (suc k)))) (power R a z)) (monus_step j k l)
    | no g ↦
        ap (λ (z : ℕ). R.mul (R.of (pos z)) (power R a (monus j k))) (choose_above j (suc k) (big g)) ∙ zero_mul (power R a (monus j k))
        ∙ sym (ap (λ (z : ℕ). R.mul (R.of (pos z)) (R.mul a (power R a (monus j (suc k))))) (choose_above j (suc k) (big g))
        ∙ zero_mul (R.mul a (power R a (monus j (suc k)))))
  ]
    where
      big : ¬ (k < j) → j < suc k
      big g = omega arith

  coef_zero : (n : ℕ) (p : ℕ → A) (a w : A) → coef (suc n) p a w zero ≡ R.add (p zero) (R.mul a (coef n (λ j. p (suc j)) a w zero))
  coef_zero n p a w =
      ap (λ (f : ℕ → A). R.add (R.mul (R.of (pos 1)) (R.mul (p zero) (R.mul (R.of (pos 1)) (R.of (pos 1))))) (sum R n f))
      (fun_ext (λ j. solve R (a ∷ p (suc j) ∷ power R a j ∷ []) (con (pos 1) ⊗ (v1 ⊗ (v0 ⊗ v2 ⊗ con (pos 1))))
      (v0 ⊗ (con (pos 1) ⊗ (v1 ⊗ (v2 ⊗ con (pos 1))))) tt))
      ∙ ap (λ (z : A). R.add (R.mul (R.of (pos 1)) (R.mul (p zero) (R.mul (R.of (pos 1)) (R.of (pos 1))))) z)
      (sum_scale R n a (λ j. R.mul (R.of (pos 1)) (R.mul (p (suc j)) (R.mul (power R a j) (R.of (pos 1))))))
      ∙ solve R (p zero ∷ R.mul a (coef n (λ j. p (suc j)) a w zero) ∷ []) (con (pos 1) ⊗ (v0 ⊗ (con (pos 1) ⊗ con (pos 1))) ⊕ v1)
      (v0 ⊕ v1) tt

  coef_suc : (n : ℕ) (p : ℕ → A) (a w : A) (k : ℕ) → coef (suc n) p a w (suc k) ≡ R.add (R.mul w (coef n (λ j. p (suc j)) a w k)) (R.mul
      a (coef n (λ j. p (suc j)) a w (suc k)))
  coef_suc n p a w k =
      let q : ℕ → A = λ j. p (suc j) in
      ap (λ (z : A). R.add z (sum R n (λ j. R.mul (R.of (pos (choose j k + choose j (suc k))))
      (R.mul (q j) (R.mul (power R a (monus j k)) (R.mul w (power R w k)))))))
      (zero_mul (R.mul (p zero) (R.mul (R.of (pos 1)) (R.mul w (power R w k)))))
      ∙ solve R (sum R n (λ j. R.mul (R.of (pos (choose j k + choose j (suc k))))
      (R.mul (q j) (R.mul (power R a (monus j k)) (R.mul w (power R w k))))) ∷ []) (con (pos 0) ⊕ v0) v0 tt
      ∙ ap (sum R n) (fun_ext (each q))
      ∙ sum_add R n (λ j. R.mul w (R.mul (R.of (pos (choose j k))) (R.mul (q j) (R.mul (power R a (monus j k)) (power R w k)))))
      (λ j. R.mul a (R.mul (R.of (pos (choose j (suc k))))
      (R.mul (q j) (R.mul (power R a (monus j (suc k))) (R.mul w (power R w k))))))
      ∙ ap (λ (z : A). R.add z (sum R n (λ j. R.mul a (R.mul (R.of (pos (choose j (suc k))))
      (R.mul (q j) (R.mul (power R a (monus j (suc k))) (R.mul w (power R w k))))))))
      (sum_scale R n w (λ j. R.mul (R.of (pos (choose j k))) (R.mul (q j) (R.mul (power R a (monus j k)) (power R w k)))))
      ∙ ap (λ (z : A). R.add (R.mul w (coef n q a w k)) z)
      (sum_scale R n a (λ j. R.mul (R.of (pos (choose j (suc k))))
      (R.mul (q j) (R.mul (power R a (monus j (suc k))) (R.mul w (power R w k))))))
    where
      each : (q : ℕ → A) (j : ℕ) → R.mul (R.of (pos (choose j k + choose j (suc k))))
          (R.mul (q j) (R.mul (power R a (monus j k)) (R.mul w (power R w k))))
          ≡ R.add (R.mul w (R.mul (R.of (pos (choose j k))) (R.mul (q j) (R.mul (power R a (monus j k)) (power R w k)))))
          (R.mul a (R.mul (R.of (pos (choose j (suc k))))
          (R.mul (q j) (R.mul (power R a (monus j (suc k))) (R.mul w (power R w k))))))
      each q j =
          ap (λ (z : A). R.mul z (R.mul (q j) (R.mul (power R a (monus j k)) (R.mul w (power R w k)))))
          (R.of_add (pos (choose j k)) (pos (choose j (suc k))))
          ∙ combine R (R.of (pos (choose j k)) ∷ R.of (pos (choose j (suc k))) ∷ q j ∷ power R a (monus j k) ∷ w ∷ power R w k ∷ a ∷ power
          R a (monus j (suc k)) ∷ [])
          ((v0 ⊕ v1) ⊗ (v2 ⊗ (v3 ⊗ (v4 ⊗ v5)))) (v4 ⊗ (v0 ⊗ (v2 ⊗ (v3 ⊗ v5))) ⊕ var 6 ⊗ (v1 ⊗ (v2 ⊗ (var 7 ⊗ (v4 ⊗ v5))))) (v2 ⊗ v4 ⊗ v5)
          (v1 ⊗ v3) (v1 ⊗ (var 6 ⊗ var 7)) tt (pow_step a j k)

  nested_expand : (n : ℕ) (p : ℕ → A) (a w u : A) → horner R n p (R.add a (R.mul w u)) ≡ sum R n (λ k. R.mul (coef n p a w k)
      (power R u k))
  nested_expand zero p a w u = solve R (p zero ∷ []) v0 (con (pos 1) ⊗ (v0 ⊗ (con (pos 1) ⊗ con (pos 1))) ⊗ con (pos 1)) tt
  nested_expand (suc n) p a w u =
      let q : ℕ → A = λ j. p (suc j) in
      let t : ℕ → A = λ k. coef n q a w k in
      let S = sum R n (λ k. R.mul (t k) (power R u k)) in
      let Y = sum R n (λ k. R.mul (t (suc k)) (power R u (suc k))) in
      let link : R.add (R.mul (t zero) (R.of (pos 1))) Y ≡ S =
      sum_last R n (λ k. R.mul (t k) (power R u k)) ∙ ap (λ (z : A). R.add S (R.mul z (power R u (suc n)))) (coef_top n q a w)
      ∙ solve R (S ∷ power R u (suc n) ∷ []) (v0 ⊕ con (pos 0) ⊗ v1) v0 tt in
      ap (λ (z : A). R.add (p zero) (R.mul (R.add a (R.mul w u)) z)) (nested_expand n q a w u)
      ∙ combine R (p zero ∷ a ∷ w ∷ u ∷ S ∷ t zero ∷ Y ∷ []) (v0 ⊕ (v1 ⊕ v2 ⊗ v3) ⊗ v4) ((v0 ⊕ v1 ⊗ v5) ⊗ con (pos 1) ⊕
      (v2 ⊗ v3 ⊗ v4 ⊕ v1 ⊗ var 6)) v1 v4 (v5 ⊗ con (pos 1) ⊕ var 6) tt (sym link)
      ∙ ap (λ (z : A). R.add (R.mul z (R.of (pos 1))) (R.add (R.mul (R.mul w u) S) (R.mul a Y))) (sym (coef_zero n p a w))
      ∙ ap (λ (z : A). R.add (R.mul (coef (suc n) p a w zero) (R.of (pos 1))) z)
      (sym (ap (sum R n) (fun_ext (λ k. ap (λ (z : A). R.mul z (R.mul u (power R u k))) (coef_suc n p a w k)
      ∙ solve R (w ∷ t k ∷ a ∷ t (suc k) ∷ u ∷ power R u k ∷ []) ((v0 ⊗ v1 ⊕ v2 ⊗ v3) ⊗ (v4 ⊗ v5))
      (v0 ⊗ v4 ⊗ (v1 ⊗ v5) ⊕ v2 ⊗ (v3 ⊗ (v4 ⊗ v5))) tt))
      ∙ sum_add R n (λ k. R.mul (R.mul w u) (R.mul (t k) (power R u k))) (λ k. R.mul a (R.mul (t (suc k)) (power R u (suc k))))
      ∙ ap (λ (z : A). R.add z (sum R n (λ k. R.mul a (R.mul (t (suc k)) (power R u (suc k))))))
      (sum_scale R n (R.mul w u) (λ k. R.mul (t k) (power R u k)))
      ∙ ap (λ (z : A). R.add (R.mul (R.mul w u) S) z) (sum_scale R n a (λ k. R.mul (t (suc k)) (power R u (suc k))))))

  -- a polynomial at a + w * u is the polynomial of u with the coefficients `expanded_coefficient`, for any degree
  pub expand : (n : ℕ) (p : ℕ → A) (a w u : A) → polynomial R n p (R.add a (R.mul w u)) ≡ polynomial R n (expanded_coefficient R n p a w) u
  expand n p a w u =
      sym (horner_is_sum n p (R.add a (R.mul w u))) ∙ nested_expand n p a w u
      ∙ ap (λ (e : ℕ → ℕ → ℕ). sum R n (λ k. R.mul
      (sum R n (λ j. R.mul (R.of (pos (choose j k))) (R.mul (p j) (R.mul (power R a (e j k)) (power R w k))))) (power R u k)))
      (fun_ext (λ j. fun_ext (λ k. monus_is j k)))
