-- Laws of finite sums over a commutative ring.
use mathlib.Core.List.{[], ◌∷◌}
use mathlib.Core.Path.{◌∙◌, ◌≡◌, ap, refl, sym}
use Prim.Native.Nat.{◌≤◌, suc, suc-le-suc, zero, zero-le, ℕ}
use lib.IntN.{pos}
use Rattle.fraction.specs.Ring.{CommutativeRing, ◌⊕◌, solve, v0, v1, v2, v3}
use Rattle.fraction.specs.Sum.{sum}

module _ {A : Type 0} (R : CommutativeRing A) where
  -- equal terms have equal sums
  pub sum_equal : (n : ℕ) (f g : ℕ → A) → ((i : ℕ) → i ≤ n → f i ≡ g i) → sum R n f ≡ sum R n g
  sum_equal zero f g h = h zero zero-le
  sum_equal (suc n) f g h =
      ap (λ (z : A). R.add z (sum R n (λ i. f (suc i)))) (h zero zero-le)
      ∙ ap (λ (z : A). R.add (g zero) z) (sum_equal n (λ i. f (suc i)) (λ i. g (suc i)) (λ i l. h (suc i) (suc-le-suc l)))

  -- a common factor
  pub sum_scale : (n : ℕ) (k : A) (f : ℕ → A) → sum R n (λ i. R.mul k (f i)) ≡ R.mul k (sum R n f)
  sum_scale zero k f = refl
  sum_scale (suc n) k f = ap (λ (z : A). R.add (R.mul k (f zero)) z) (sum_scale n k (λ i. f (suc i)))
      ∙ sym (R.mul_add k (f zero) (sum R n (λ i. f (suc i))))

  -- a sum of sums
  pub sum_add : (n : ℕ) (f g : ℕ → A) → sum R n (λ i. R.add (f i) (g i)) ≡ R.add (sum R n f) (sum R n g)
  sum_add zero f g = refl
  sum_add (suc n) f g =
      ap (λ (z : A). R.add (R.add (f zero) (g zero)) z) (sum_add n (λ i. f (suc i)) (λ i. g (suc i)))
      ∙ solve R (f zero ∷ g zero ∷ sum R n (λ i. f (suc i)) ∷ sum R n (λ i. g (suc i)) ∷ []) (v0 ⊕ v1 ⊕ (v2 ⊕ v3)) (v0 ⊕ v2 ⊕ (v1 ⊕ v3)) tt

  -- the last term apart
  pub sum_last : (n : ℕ) (f : ℕ → A) → sum R (suc n) f ≡ R.add (sum R n f) (f (suc n))
  sum_last zero f = refl
  sum_last (suc n) f = ap (λ (z : A). R.add (f zero) z) (sum_last n (λ i. f (suc i))) ∙ sym (R.add_assoc (f zero)
      (sum R n (λ i. f (suc i))) (f (suc (suc n))))

  -- terms that are all 0
  pub sum_zero : (n : ℕ) (f : ℕ → A) → ((j : ℕ) → j ≤ n → f j ≡ R.of (pos 0)) → sum R n f ≡ R.of (pos 0)
  sum_zero zero f h = h zero zero-le
  sum_zero (suc n) f h =
      ap (λ (z : A). R.add z (sum R n (λ i. f (suc i)))) (h zero zero-le)
      ∙ ap (λ (z : A). R.add (R.of (pos 0)) z) (sum_zero n (λ i. f (suc i)) (λ j l. h (suc j) (suc-le-suc l)))
      ∙ R.add_zero (R.of (pos 0))
