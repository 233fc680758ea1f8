-- Over exact fractions the return lane's coefficients are those of the lane at 1 - x.
use mathlib.Core.Path.{◌≡◌, refl, sym, ap, ◌∙◌}
use mathlib.Core.List.{[], ◌∷◌}
use Prim.Native.Nat.{ℕ, zero, suc, ◌-◌, ◌<◌}
use native.Mathlib.Omega.{arith}
use lib.IntN.{pos, negsuc}
use Rattle.arith.specs.Loop.{each}
use Rattle.fraction.specs.Binomial.{choose}
use Rattle.fraction.specs.Polynomial.{expanded_coefficient, polynomial}
use Rattle.fraction.specs.Rational.{ℚ, wholeq, ◌+q◌, ◌-q◌, ◌*q◌, ◌/q◌, inverse, Above, 𝟘, 𝟙}
use Rattle.fraction.specs.RationalRing.{rational_ring}
use Rattle.fraction.specs.Ring.{◌⊕◌, ◌⊖◌, ◌⊗◌, combine, con, solve, v0, v1, v2, v3, v4, v5}
use Rattle.fraction.specs.Sum.{power, sum}
use Rattle.fraction.proofs.Binomial.{choose_above}
use Rattle.fraction.proofs.Inverse.{inverse_is}
use Rattle.fraction.proofs.Polynomial.{expand}
use Rattle.fraction.proofs.Sum.{sum_equal, sum_scale}
use Rattle.book.specs.Audit.{line_at}
use Rattle.book.specs.Fractions.{fractions}
use Rattle.book.proofs.Audit.{loop_sum}
use Rattle.book.proofs.Binomials.{choose_is}
use Rattle.return_lane.specs.Segment.{sign, add_term, return_coefficient}

-- -1
abbrev minus_one : ℚ
minus_one = wholeq (negsuc 0)

sign_is : (k : ℕ) → sign fractions k ≡ power rational_ring minus_one k
sign_is zero = refl
sign_is (suc k) =
    ap (λ (z : ℚ). 𝟘 -q z) (sign_is k)
    ∙ solve rational_ring (power rational_ring minus_one k ∷ []) (con (pos 0) ⊖ v0) (con (negsuc 0) ⊗ v0) tt

power_of_one : (k : ℕ) → power rational_ring 𝟙 k ≡ 𝟙
power_of_one zero = refl
power_of_one (suc k) =
    ap (λ (z : ℚ). 𝟙 *q z) (power_of_one k) ∙ solve rational_ring [] (con (pos 1) ⊗ con (pos 1)) (con (pos 1)) tt

-- from 1 - b to 1 - a it is as far as from a to b
turned : (a b : ℚ) → (𝟙 -q a) -q (𝟙 -q b) ≡ b -q a
turned a b = solve rational_ring (a ∷ b ∷ []) ((con (pos 1) ⊖ v0) ⊖ (con (pos 1) ⊖ v1)) (v1 ⊖ v0) tt

-- The line through two waypoints in reverse, at t, is the line at 1 - t.
pub return_line : (s₀ s₁ y₀ y₁ t : ℚ) → Above (s₁ -q s₀)
    → line_at (𝟙 -q s₁) (𝟙 -q s₀) y₁ y₀ t ≡ line_at s₀ s₁ y₀ y₁ (𝟙 -q t)
return_line s₀ s₁ y₀ y₁ t long =
    ap (λ (z : ℚ). y₁ +q (t -q (𝟙 -q s₁)) /q z *q (y₀ -q y₁)) (turned s₀ s₁)
    ∙ combine rational_ring (s₀ ∷ s₁ ∷ y₀ ∷ y₁ ∷ t ∷ inverse (s₁ -q s₀) ∷ [])
    (v3 ⊕ (v4 ⊖ (con (pos 1) ⊖ v1)) ⊗ v5 ⊗ (v2 ⊖ v3)) (v2 ⊕ (con (pos 1) ⊖ v4 ⊖ v0) ⊗ v5 ⊗ (v3 ⊖ v2))
    (v2 ⊖ v3) ((v1 ⊖ v0) ⊗ v5) (con (pos 1)) tt (inverse_is (s₁ -q s₀) long)

module _ (p : ℕ → ℚ) where
  -- C(j,k)·p_j
  abbrev term : ℕ → ℕ → ℚ
  term k j = wholeq (pos (choose j k)) *q p j

  sum_is : (k : ℕ) → k < 6 → each (add_term fractions p k) k 6 𝟘 ≡ sum rational_ring 5 (term k)
  sum_is k h =
      loop_sum (term k) (add_term fractions p k) k 6 5 (omega arith) (omega arith) (λ j v l g. rw (choose_is j k g l))
      (λ j l. rw (choose_above j k l) (solve rational_ring (p j ∷ []) (con (pos 0) ⊗ v0) (con (pos 0)) tt))
      (λ j l g. absurd (omega arith))

  coefficient_is : (k : ℕ) → k < 6 → return_coefficient fractions p k ≡ expanded_coefficient rational_ring 5 p 𝟙 minus_one k
  unfolding return_coefficient
  coefficient_is k h =
      let s = power rational_ring minus_one k in
      (λ i. sign_is k i *q sum_is k h i) ∙ sym (sum_scale rational_ring 5 s (term k))
      ∙ sum_equal rational_ring 5 (λ j. s *q term k j)
      (λ j. wholeq (pos (choose j k)) *q (p j *q (power rational_ring 𝟙 (j - k) *q s)))
      (λ j l. solve rational_ring (wholeq (pos (choose j k)) ∷ p j ∷ s ∷ []) (v2 ⊗ (v0 ⊗ v1)) (v0 ⊗ (v1 ⊗ (con (pos 1) ⊗ v2))) tt
      ∙ ap (λ (z : ℚ). wholeq (pos (choose j k)) *q (p j *q (z *q s))) (sym (power_of_one (j - k))))

  -- For every polynomial: the new six coefficients are those of p(1 - x).
  pub return_polynomial : (x : ℚ) → polynomial rational_ring 5 (return_coefficient fractions p) x ≡ polynomial rational_ring 5 p (𝟙 -q x)
  return_polynomial x =
      sum_equal rational_ring 5 (λ k. return_coefficient fractions p k *q power rational_ring x k)
      (λ k. expanded_coefficient rational_ring 5 p 𝟙 minus_one k *q power rational_ring x k)
      (λ k l. ap (λ (z : ℚ). z *q power rational_ring x k) (coefficient_is k (omega arith)))
      ∙ sym (expand rational_ring 5 p 𝟙 minus_one x)
      ∙ ap (polynomial rational_ring 5 p)
      (solve rational_ring (x ∷ []) (con (pos 1) ⊕ con (negsuc 0) ⊗ v0) (con (pos 1) ⊖ v0) tt)

  -- Driven back the lane at t is the lane at 1 - t: the segment from a to b becomes the one from 1 - b to 1 - a. Nothing is rounded.
  pub return_value : (a b t : ℚ) → Above (b -q a)
      → polynomial rational_ring 5 (return_coefficient fractions p) ((t -q (𝟙 -q b)) /q ((𝟙 -q a) -q (𝟙 -q b)))
      ≡ polynomial rational_ring 5 p (((𝟙 -q t) -q a) /q (b -q a))
  return_value a b t wide =
      ap (λ (z : ℚ). polynomial rational_ring 5 (return_coefficient fractions p) ((t -q (𝟙 -q b)) /q z)) (turned a b)
      ∙ return_polynomial ((t -q (𝟙 -q b)) /q (b -q a))
      ∙ ap (polynomial rational_ring 5 p)
      (combine rational_ring (a ∷ b ∷ t ∷ inverse (b -q a) ∷ []) (con (pos 1) ⊖ (v2 ⊖ (con (pos 1) ⊖ v1)) ⊗ v3)
      ((con (pos 1) ⊖ v2 ⊖ v0) ⊗ v3) (con (negsuc 0)) ((v1 ⊖ v0) ⊗ v3) (con (pos 1)) tt (inverse_is (b -q a) wide))

  -- The certificate's user: against points in reverse, whose parameters are 1 minus the old ones, the lane driven back lies at t as far
  -- from its line as the lane does at 1 - t. So on exact numbers a figure of the way out holds of the way back; since the coefficients that
  -- are stored are rounded, a return lane is certified anew.
  pub return_distance : (a b s₀ s₁ y₀ y₁ t : ℚ) → Above (b -q a) → Above (s₁ -q s₀)
      → polynomial rational_ring 5 (return_coefficient fractions p) ((t -q (𝟙 -q b)) /q ((𝟙 -q a) -q (𝟙 -q b)))
      -q line_at (𝟙 -q s₁) (𝟙 -q s₀) y₁ y₀ t
      ≡ polynomial rational_ring 5 p (((𝟙 -q t) -q a) /q (b -q a)) -q line_at s₀ s₁ y₀ y₁ (𝟙 -q t)
  return_distance a b s₀ s₁ y₀ y₁ t wide long = λ i. return_value a b t wide i -q return_line s₀ s₁ y₀ y₁ t long i
