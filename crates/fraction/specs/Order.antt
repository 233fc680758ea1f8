-- LAWS: nothing here need be believed; pass over it.
-- Orders in a commutative ring, proved by multiplying out. Example, over an ordered ring: from h : a ≤ b and k : 0 ≤ c, that a * c ≤ b * c,
-- by le-one R le L (a ∷ b ∷ c ∷ []) (v0 ⊗ v2) (v1 ⊗ v2) v2 v0 v1 tt k h The laws stand here, and not in proofs/, since the definition of
-- the order on ℚ (Rational) needs them.
use Rattle.std.specs.Prelude.{List, [], ◌∷◌, ℕ, T, pos}
use Rattle.std.proofs.Common.{subst, sym}
use Rattle.fraction.specs.Ring.{CommutativeRing, Expression, ◌⊕◌, ◌⊖◌, ◌⊗◌, check, con, evaluate, solve, var}

-- an order that sums keep, and in which 0 ≤ a and 0 ≤ b give 0 ≤ a * b
pub record OrderedRing {A : Type 0} (R : CommutativeRing A) (le : A → A → Type 0) : Type 0 where
  pub le_refl : (a : A) → le a a
  pub le_trans : (a b c : A) → le a b → le b c → le a c
  pub le_add : (a b c : A) → le a b → le (R.add a c) (R.add b c)
  pub nonnegative_of : (n : ℕ) → le (R.of (pos 0)) (R.of (pos n))
  pub nonnegative_mul : (a b : A) → le (R.of (pos 0)) a → le (R.of (pos 0)) b → le (R.of (pos 0)) (R.mul a b)

module _ {A : Type 0} (R : CommutativeRing A) (le : A → A → Type 0) (L : OrderedRing R le) where
  -- a ≤ b gives 0 ≤ b - a
  pub nonnegative_difference : (a b : A) → le a b → le (R.of (pos 0)) (R.add b (R.neg a))
  nonnegative_difference a b h = subst (λ (z : A). le z (R.add b (R.neg a))) (solve R (a ∷ []) (var 0 ⊖ var 0) (con (pos 0)) tt)
      (L.le_add a b (R.neg a) h)

  -- 0 ≤ b gives a ≤ a + b
  pub le_add_nonnegative : (a b : A) → le (R.of (pos 0)) b → le a (R.add a b)
  le_add_nonnegative a b h =
      subst (λ (z : A). le z (R.add a b)) (solve R (a ∷ []) (con (pos 0) ⊕ var 0) (var 0) tt)
      (subst (λ (z : A). le (R.add (R.of (pos 0)) a) z) (R.add_comm b a) (L.le_add (R.of (pos 0)) b a h))

  -- 0 ≤ a and 0 ≤ b give 0 ≤ a + b
  pub nonnegative_sum : (a b : A) → le (R.of (pos 0)) a → le (R.of (pos 0)) b → le (R.of (pos 0)) (R.add a b)
  nonnegative_sum a b h k = L.le_trans (R.of (pos 0)) a (R.add a b) h (le_add_nonnegative a b k)

module _ {A : Type 0} (R : CommutativeRing A) (le : A → A → Type 0) (L : OrderedRing R le) (ρ : List A) where
  -- l ≤ r, where r is l + e and 0 ≤ e
  pub le_by : (l r e : Expression) → T (check r (l ⊕ e)) → le (R.of (pos 0)) (evaluate R ρ e) → le (evaluate R ρ l) (evaluate R ρ r)
  le_by l r e t h = subst (λ (z : A). le (evaluate R ρ l) z) (sym (solve R ρ r (l ⊕ e) t))
      (le_add_nonnegative R le L (evaluate R ρ l) (evaluate R ρ e) h)

  -- l ≤ r, where r - l is k * (y - x), 0 ≤ k and x ≤ y
  pub le_one : (l r k x y : Expression) → T (check r (l ⊕ k ⊗ (y ⊖ x))) → le (R.of (pos 0)) (evaluate R ρ k)
      → le (evaluate R ρ x) (evaluate R ρ y) → le (evaluate R ρ l) (evaluate R ρ r)
  le_one l r k x y t K h = le_by l r (k ⊗ (y ⊖ x)) t (L.nonnegative_mul (evaluate R ρ k) (evaluate R ρ (y ⊖ x)) K
      (nonnegative_difference R le L (evaluate R ρ x) (evaluate R ρ y) h))

  -- the same from two inequalities. Example: from h : a ≤ b and g : c ≤ d, that a + c ≤ b + d, by
  -- le-two R le L (a ∷ b ∷ c ∷ d ∷ []) (v0 ⊕ v2) (v1 ⊕ v3) (con (pos 1)) v0 v1 (con (pos 1)) v2 v3 tt (L.nonnegative-of 1) h (L
  -- .nonnegative-of 1) g
  pub le_two : (l r k x y k' x' y' : Expression) → T (check r (l ⊕ (k ⊗ (y ⊖ x) ⊕ k' ⊗ (y' ⊖ x')))) → le (R.of (pos 0)) (evaluate R ρ k)
      → le (evaluate R ρ x) (evaluate R ρ y)
      → le (R.of (pos 0)) (evaluate R ρ k') → le (evaluate R ρ x') (evaluate R ρ y') → le (evaluate R ρ l) (evaluate R ρ r)
  le_two l r k x y k' x' y' t K h K' h' =
      le_by l r (k ⊗ (y ⊖ x) ⊕ k' ⊗ (y' ⊖ x')) t
      (nonnegative_sum R le L (evaluate R ρ (k ⊗ (y ⊖ x))) (evaluate R ρ (k' ⊗ (y' ⊖ x')))
      (L.nonnegative_mul (evaluate R ρ k) (evaluate R ρ (y ⊖ x)) K (nonnegative_difference R le L (evaluate R ρ x) (evaluate R ρ y) h))
      (L.nonnegative_mul (evaluate R ρ k') (evaluate R ρ (y' ⊖ x')) K' (nonnegative_difference R le L (evaluate R ρ x') (evaluate R ρ y')
      h')))

  -- l ≤ r, where r - l is (y - x) * (y' - x'), x ≤ y and x' ≤ y'. Example: -m ≤ x ≤ m gives x * x ≤ m * m, by
  --   le-prod R le L (x ∷ m ∷ []) (v0 ⊗ v0) (v1 ⊗ v1) (opposite v1) v0 v0 v1 tt l u
  pub le_prod : (l r x y x' y' : Expression) → T (check r (l ⊕ (y ⊖ x) ⊗ (y' ⊖ x'))) → le (evaluate R ρ x) (evaluate R ρ y)
      → le (evaluate R ρ x') (evaluate R ρ y') → le (evaluate R ρ l) (evaluate R ρ r)
  le_prod l r x y x' y' t h h' =
      le_by l r ((y ⊖ x) ⊗ (y' ⊖ x')) t (L.nonnegative_mul (evaluate R ρ (y ⊖ x)) (evaluate R ρ (y' ⊖ x'))
      (nonnegative_difference R le L (evaluate R ρ x) (evaluate R ρ y) h) (nonnegative_difference R le L (evaluate R ρ x') (evaluate R ρ y')
      h'))
