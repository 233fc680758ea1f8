-- The halves, coefficient by coefficient: of the Bernstein coefficients of a polynomial, the left half are those of the polynomial on
-- [0, 1/2], at u/2, and the right half those of the polynomial on [1/2, 1], at 1/2 + u/2. It follows from `left_is` and `right_is`, since
-- six coefficients are determined by the polynomial's values, as those at 0, 1, 2, -1, 3, -2.
use mathlib.Core.List.{List, [], ◌∷◌}
use mathlib.Core.Path.{◌∙◌, ◌≡◌, ap, fun_ext, sym}
use Prim.Native.Nat.{ℕ, zero, suc, ◌≤◌}
use native.Mathlib.Omega.{arith}
use lib.Dec.{T}
use lib.IntN.{negsuc, pos, ℤ}
use Rattle.fraction.specs.Bernstein.{bernstein_coefficient}
use Rattle.fraction.specs.Polynomial.{expanded_coefficient, polynomial}
use Rattle.fraction.specs.Rational.{Above, ◌*q◌, ◌+q◌, at_mostq, inverse, wholeq, ℚ, 𝟘}
use Rattle.fraction.specs.RationalRing.{rational_ring}
use Rattle.fraction.specs.Ring.{Expression, ◌⊕◌, ◌⊖◌, ◌⊗◌, check, combine2, con, lookup, solve, v0, v1, v2, var}
use Rattle.fraction.proofs.Bernstein.{de_casteljau_law, powers_to_bernstein}
use Rattle.fraction.proofs.Inverse.{inverse_is}
use Rattle.fraction.proofs.Polynomial.{expand}
use Rattle.figure.specs.Halving.{left_half, right_half}
use Rattle.figure.proofs.Enclosure.{exact}
use Rattle.figure.proofs.Halves.{cut, half, left_is, right_is}

-- ---- six coefficients are determined by the values
-- de Casteljau's recursion as an expression
abbrev cutting : ℕ → (ℕ → Expression) → Expression → Expression
cutting zero c u = c zero
cutting (suc n) c u = (con (pos 1) ⊖ u) ⊗ cutting n c u ⊕ u ⊗ cutting n (λ i. c (suc i)) u

-- a combination of the values at the six places
abbrev combined : ℤ → ℤ → ℤ → ℤ → ℤ → ℤ → (ℚ → ℚ) → ℚ
combined a b c d e f g =
    wholeq a *q g (wholeq (pos 0)) +q (wholeq b *q g (wholeq (pos 1)) +q (wholeq c *q g (wholeq (pos 2)) +q
    (wholeq d *q g (wholeq (negsuc 0)) +q (wholeq e *q g (wholeq (pos 3)) +q wholeq f *q g (wholeq (negsuc 1))))))

abbrev combination : ℤ → ℤ → ℤ → ℤ → ℤ → ℤ → Expression
combination a b c d e f =
    let g : ℤ → Expression = λ z. cutting 5 (λ i. var i) (con z) in
    con a ⊗ g (pos 0) ⊕ (con b ⊗ g (pos 1) ⊕ (con c ⊗ g (pos 2) ⊕ (con d ⊗ g (negsuc 0) ⊕ (con e ⊗ g (pos 3) ⊕ con f ⊗ g (negsuc 1)))))

abbrev six : (ℕ → ℚ) → List ℚ
six c = c 0 ∷ c 1 ∷ c 2 ∷ c 3 ∷ c 4 ∷ c 5 ∷ []

above : Above (wholeq (pos 1200))
unfolding at_mostq
above = tt

module _ (c d : ℕ → ℚ) (h : (u : ℚ) → cut 5 c u ≡ cut 5 d u) where
  -- coefficient k, if 1200 times it is such a combination
  by_values : (k : ℕ) (p q r s t u : ℤ) → T (check (con (pos 1200) ⊗ var k) (combination p q r s t u)) → lookup rational_ring (six c) k
      ≡ lookup rational_ring (six d) k
  by_values k p q r s t u e =
      let w = con (pos 1200) ⊗ var k in
      let v = combination p q r s t u in
      combine2 rational_ring (lookup rational_ring (six c) k ∷ lookup rational_ring (six d) k ∷ inverse (wholeq (pos 1200)) ∷ []) v0 v1 v2
      (con (pos 1200) ⊗ v0) (con (pos 1200) ⊗ v1) (v1 ⊖ v0) (con (pos 1200) ⊗ v2) (con (pos 1)) tt
      (solve rational_ring (six c) w v e ∙ ap (combined p q r s t u) (fun_ext h) ∙ sym (solve rational_ring (six d) w v e))
      (inverse_is (wholeq (pos 1200)) above)

  determined : (k : ℕ) → k ≤ 5 → c k ≡ d k
  determined zero l = by_values 0 (pos 1200) (pos 0) (pos 0) (pos 0) (pos 0) (pos 0) tt
  determined (suc zero) l = by_values 1 (pos 1120) (pos 240) (negsuc 59) (negsuc 119) (pos 8) (pos 12) tt
  determined (suc (suc zero)) l = by_values 2 (pos 890) (pos 560) (negsuc 124) (negsuc 159) (pos 16) (pos 19) tt
  determined (suc (suc (suc zero))) l = by_values 3 (pos 560) (pos 890) (negsuc 159) (negsuc 124) (pos 19) (pos 16) tt
  determined (suc (suc (suc (suc zero)))) l = by_values 4 (pos 240) (pos 1120) (negsuc 119) (negsuc 59) (pos 12) (pos 8) tt
  determined (suc (suc (suc (suc (suc zero))))) l = by_values 5 (pos 0) (pos 1200) (pos 0) (pos 0) (pos 0) (pos 0) tt
  determined (suc (suc (suc (suc (suc (suc k)))))) l = absurd (omega arith)

-- ---- the halves
-- a polynomial by its Bernstein coefficients
by_cut : (p : ℕ → ℚ) (u : ℚ) → cut 5 (bernstein_coefficient 5 p) u ≡ polynomial rational_ring 5 p u
by_cut p u = de_casteljau_law rational_ring 5 (bernstein_coefficient 5 p) u ∙ powers_to_bernstein 5 p u

pub left_coefficients : (p : ℕ → ℚ) (k : ℕ) → k ≤ 5 → left_half exact (bernstein_coefficient 5 p) k ≡ bernstein_coefficient 5
    (expanded_coefficient rational_ring 5 p 𝟘 half) k
left_coefficients p =
    determined (left_half exact (bernstein_coefficient 5 p)) (bernstein_coefficient 5 (expanded_coefficient rational_ring 5 p 𝟘 half))
    (λ u. left_is (bernstein_coefficient 5 p) u ∙ by_cut p (u *q half)
    ∙ ap (polynomial rational_ring 5 p) (solve rational_ring (u ∷ half ∷ []) (v0 ⊗ v1) (con (pos 0) ⊕ v1 ⊗ v0) tt)
    ∙ expand rational_ring 5 p 𝟘 half u ∙ sym (by_cut (expanded_coefficient rational_ring 5 p 𝟘 half) u))

pub right_coefficients : (p : ℕ → ℚ) (k : ℕ) → k ≤ 5 → right_half exact (bernstein_coefficient 5 p) k ≡ bernstein_coefficient 5
    (expanded_coefficient rational_ring 5 p half half) k
right_coefficients p =
    determined (right_half exact (bernstein_coefficient 5 p)) (bernstein_coefficient 5 (expanded_coefficient rational_ring 5 p half half))
    (λ u. right_is (bernstein_coefficient 5 p) u ∙ by_cut p (half +q u *q half)
    ∙ ap (polynomial rational_ring 5 p) (solve rational_ring (u ∷ half ∷ []) (v1 ⊕ v0 ⊗ v1) (v1 ⊕ v1 ⊗ v0) tt)
    ∙ expand rational_ring 5 p half half u ∙ sym (by_cut (expanded_coefficient rational_ring 5 p half half) u))
