-- LAWS, but for the operations of the record `CommutativeRing`, over which sums and polynomials are defined; pass over the rest.
-- Identities of a commutative ring, decided by computation: both sides are multiplied out, and every coefficient of the difference must be
-- 0.
-- Example, over any ring R: (a + b) * (a - b) is a * a - b * b, by
--   solve R (a ∷ b ∷ []) ((v0 ⊕ v1) ⊗ (v0 ⊖ v1)) (v0 ⊗ v0 ⊖ v1 ⊗ v1) tt
-- The laws `solve` and `combine` stand here, and not in proofs/, since the definition of the operations on ℚ (Rational) needs them.
use Rattle.std.specs.Prelude.{Bool, ◌&&◌, false, true, List, [], ◌∷◌, ◌≡◌, refl, suc, zero, ℕ, T, eqb, ltb, ◌*ℤ◌, ◌+ℤ◌, negsuc, pos, ℤ}
use Rattle.std.proofs.Common.{◌∙◌, ap, sym, eqb→eq}

-- a commutative ring, with the element `of z` that an integer z stands for
pub record CommutativeRing (A : Type 0) : Type 0 where
  pub add : A → A → A
  pub mul : A → A → A
  pub neg : A → A
  pub of : ℤ → A
  pub add_assoc : (a b c : A) → add (add a b) c ≡ add a (add b c)
  pub add_comm : (a b : A) → add a b ≡ add b a
  pub add_zero : (a : A) → add a (of (pos 0)) ≡ a
  pub mul_assoc : (a b c : A) → mul (mul a b) c ≡ mul a (mul b c)
  pub mul_comm : (a b : A) → mul a b ≡ mul b a
  pub mul_one : (a : A) → mul a (of (pos 1)) ≡ a
  pub mul_zero : (a : A) → mul a (of (pos 0)) ≡ of (pos 0)
  pub mul_add : (a b c : A) → mul a (add b c) ≡ add (mul a b) (mul a c)
  pub neg_is : (a : A) → neg a ≡ mul (of (negsuc 0)) a
  pub of_add : (x y : ℤ) → of (x +ℤ y) ≡ add (of x) (of y)
  pub of_mul : (x y : ℤ) → of (x *ℤ y) ≡ mul (of x) (of y)

infixl 60 ◌⊕◌ ◌⊖◌
infixl 70 ◌⊗◌
-- an expression: variables by their number, integers, sums, differences, products
pub data Expression : Type 0 where
  var : ℕ → Expression
  con : ℤ → Expression
  ◌⊕◌ : Expression → Expression → Expression
  ◌⊖◌ : Expression → Expression → Expression
  ◌⊗◌ : Expression → Expression → Expression
  opposite : Expression → Expression

-- the first variables
abbrev pub v0 : Expression
v0 = var 0

abbrev pub v1 : Expression
v1 = var 1

abbrev pub v2 : Expression
v2 = var 2

abbrev pub v3 : Expression
v3 = var 3

abbrev pub v4 : Expression
v4 = var 4

abbrev pub v5 : Expression
v5 = var 5

abbrev pub v6 : Expression
v6 = var 6

abbrev pub v7 : Expression
v7 = var 7

abbrev pub v8 : Expression
v8 = var 8

abbrev pub v9 : Expression
v9 = var 9

-- a product of variables, as their sorted list
abbrev pub Monomial : Type 0
Monomial = List ℕ

-- an expression multiplied out: a sum of coefficients times monomials
pub data NormalForm : Type 0 where
  nil : NormalForm
  term : ℤ → Monomial → NormalForm → NormalForm

-- equal lists of variables
abbrev pub same_monomial : Monomial → Monomial → Bool
same_monomial [] [] = true
same_monomial [] (y ∷ n) = false
same_monomial (x ∷ m) [] = false
same_monomial (x ∷ m) (y ∷ n) = eqb x y && same_monomial m n

same_is : (m n : Monomial) → T (same_monomial m n) → m ≡ n
same_is [] [] t = refl
same_is [] (y ∷ n) t = absurd t
same_is (x ∷ m) [] t = absurd t
same_is (x ∷ m) (y ∷ n) t = go (eqb x y) (eqb→eq x y) (same_is m n) t
  where
    go : (b : Bool) → (T b → x ≡ y) → (T (same_monomial m n) → m ≡ n) → T (b && same_monomial m n) → (x ∷ m) ≡ (y ∷ n)
    go true f r u = ap (λ (z : ℕ). z ∷ m) (f tt) ∙ ap (λ (l : Monomial). y ∷ l) (r u)
    go false f r u = absurd u

-- a monomial times a variable
abbrev pub put_variable : ℕ → Monomial → Monomial
put_variable x [] = x ∷ []
put_variable x (y ∷ m) = elim (ltb y x) [ true ↦ y ∷ put_variable x m | false ↦ x ∷ y ∷ m ]

-- a product of monomials
abbrev pub join_monomials : Monomial → Monomial → Monomial
join_monomials [] n = n
join_monomials (x ∷ m) n = put_variable x (join_monomials m n)

-- c * m more
abbrev pub put_term : ℤ → Monomial → NormalForm → NormalForm
put_term c m nil = term c m nil
put_term c m (term d n p) = elim (same_monomial m n) [ true ↦ term (c +ℤ d) n p | false ↦ term d n (put_term c m p) ]

-- a sum of sums
abbrev pub add_forms : NormalForm → NormalForm → NormalForm
add_forms nil q = q
add_forms (term c m p) q = put_term c m (add_forms p q)

-- q and c * m times a sum
abbrev pub add_multiple : ℤ → Monomial → NormalForm → NormalForm → NormalForm
add_multiple c m nil q = q
add_multiple c m (term d n p) q = put_term (c *ℤ d) (join_monomials m n) (add_multiple c m p q)

-- a product of sums
abbrev pub multiply_forms : NormalForm → NormalForm → NormalForm
multiply_forms nil q = nil
multiply_forms (term c m p) q = add_multiple c m q (multiply_forms p q)

-- an expression, multiplied out
abbrev pub normal_form : Expression → NormalForm
normal_form (var k) = term (pos 1) (k ∷ []) nil
normal_form (con c) = term c [] nil
normal_form (a ⊕ b) = add_forms (normal_form a) (normal_form b)
normal_form (a ⊖ b) = add_multiple (negsuc 0) [] (normal_form b) (normal_form a)
normal_form (a ⊗ b) = multiply_forms (normal_form a) (normal_form b)
normal_form (opposite a) = add_multiple (negsuc 0) [] (normal_form a) nil

-- the integer 0
abbrev pub is_zero : ℤ → Bool
is_zero (pos n) = eqb n 0
is_zero (negsuc n) = false

-- only coefficients of 0
abbrev pub all_zero : NormalForm → Bool
all_zero nil = true
all_zero (term c m p) = is_zero c && all_zero p

-- whether a and b are equal when multiplied out
abbrev pub check : Expression → Expression → Bool
check a b = all_zero (normal_form (a ⊖ b))

module _ {A : Type 0} (R : CommutativeRing A) where
  -- the value of variable k, from a list
  abbrev pub lookup : List A → ℕ → A
  lookup [] k = R.of (pos 0)
  lookup (x ∷ l) zero = x
  lookup (x ∷ l) (suc k) = lookup l k

  -- the value of an expression, with the variables' values listed
  abbrev pub evaluate : List A → Expression → A
  evaluate ρ (var k) = lookup ρ k
  evaluate ρ (con c) = R.of c
  evaluate ρ (a ⊕ b) = R.add (evaluate ρ a) (evaluate ρ b)
  evaluate ρ (a ⊖ b) = R.add (evaluate ρ a) (R.neg (evaluate ρ b))
  evaluate ρ (a ⊗ b) = R.mul (evaluate ρ a) (evaluate ρ b)
  evaluate ρ (opposite a) = R.neg (evaluate ρ a)

module _ {A : Type 0} (R : CommutativeRing A) (ρ : List A) where
  abbrev evaluate_monomial : Monomial → A
  evaluate_monomial [] = R.of (pos 1)
  evaluate_monomial (x ∷ m) = R.mul (lookup R ρ x) (evaluate_monomial m)

  abbrev evaluate_form : NormalForm → A
  evaluate_form nil = R.of (pos 0)
  evaluate_form (term c m p) = R.add (R.mul (R.of c) (evaluate_monomial m)) (evaluate_form p)

  mul_left_comm : (a b c : A) → R.mul a (R.mul b c) ≡ R.mul b (R.mul a c)
  mul_left_comm a b c = sym (R.mul_assoc a b c) ∙ ap (λ (x : A). R.mul x c) (R.mul_comm a b) ∙ R.mul_assoc b a c

  add_left_comm : (a b c : A) → R.add a (R.add b c) ≡ R.add b (R.add a c)
  add_left_comm a b c = sym (R.add_assoc a b c) ∙ ap (λ (x : A). R.add x c) (R.add_comm a b) ∙ R.add_assoc b a c

  add_mul : (a b c : A) → R.mul (R.add a b) c ≡ R.add (R.mul a c) (R.mul b c)
  add_mul a b c = R.mul_comm (R.add a b) c ∙ R.mul_add c a b ∙ ap (λ (x : A). R.add x (R.mul c b)) (R.mul_comm c a)
      ∙ ap (λ (x : A). R.add (R.mul a c) x) (R.mul_comm c b)

  one_mul : (a : A) → R.mul (R.of (pos 1)) a ≡ a
  one_mul a = R.mul_comm (R.of (pos 1)) a ∙ R.mul_one a

  zero_mul : (a : A) → R.mul (R.of (pos 0)) a ≡ R.of (pos 0)
  zero_mul a = R.mul_comm (R.of (pos 0)) a ∙ R.mul_zero a

  zero_add : (a : A) → R.add (R.of (pos 0)) a ≡ a
  zero_add a = R.add_comm (R.of (pos 0)) a ∙ R.add_zero a

  put_ok : (x : ℕ) (m : Monomial) → evaluate_monomial (put_variable x m) ≡ R.mul (lookup R ρ x) (evaluate_monomial m)
  put_ok x [] = refl
  put_ok x (y ∷ m) = go (ltb y x) (put_ok x m)
    where
      go : (b : Bool) → evaluate_monomial (put_variable x m) ≡ R.mul (lookup R ρ x) (evaluate_monomial m)
          → evaluate_monomial (elim b [ true ↦ y ∷ put_variable x m | false ↦ x ∷ y ∷ m ]) ≡ R.mul (lookup R ρ x) (R.mul (lookup R ρ y)
          (evaluate_monomial m))
      go true ih = ap (λ (z : A). R.mul (lookup R ρ y) z) ih ∙ mul_left_comm (lookup R ρ y) (lookup R ρ x) (evaluate_monomial m)
      go false ih = refl

  join_ok : (m n : Monomial) → evaluate_monomial (join_monomials m n) ≡ R.mul (evaluate_monomial m) (evaluate_monomial n)
  join_ok [] n = sym (one_mul (evaluate_monomial n))
  join_ok (x ∷ m) n = put_ok x (join_monomials m n) ∙ ap (λ (z : A). R.mul (lookup R ρ x) z) (join_ok m n)
      ∙ sym (R.mul_assoc (lookup R ρ x) (evaluate_monomial m) (evaluate_monomial n))

  ins_ok : (c : ℤ) (m : Monomial) (p : NormalForm) → evaluate_form (put_term c m p) ≡ R.add (R.mul (R.of c)
      (evaluate_monomial m)) (evaluate_form p)
  ins_ok c m nil = refl
  ins_ok c m (term d n p) = go (same_monomial m n) (same_is m n) (ins_ok c m p)
    where
      go : (b : Bool) → (T b → m ≡ n) → evaluate_form (put_term c m p) ≡ R.add (R.mul (R.of c) (evaluate_monomial m)) (evaluate_form p)
          → evaluate_form (elim b [ true ↦ term (c +ℤ d) n p | false ↦ term d n (put_term c m p) ])
          ≡ R.add (R.mul (R.of c) (evaluate_monomial m)) (R.add (R.mul (R.of d) (evaluate_monomial n)) (evaluate_form p))
      go true f ih =
          ap (λ (z : A). R.add (R.mul z (evaluate_monomial n)) (evaluate_form p)) (R.of_add c d)
          ∙ ap (λ (z : A). R.add z (evaluate_form p)) (add_mul (R.of c) (R.of d) (evaluate_monomial n))
          ∙ R.add_assoc (R.mul (R.of c) (evaluate_monomial n)) (R.mul (R.of d) (evaluate_monomial n)) (evaluate_form p)
          ∙ ap (λ (k : Monomial). R.add (R.mul (R.of c) (evaluate_monomial k)) (R.add (R.mul (R.of d) (evaluate_monomial n))
          (evaluate_form p))) (sym (f tt))
      go false f ih = ap (λ (z : A). R.add (R.mul (R.of d) (evaluate_monomial n)) z) ih ∙ add_left_comm (R.mul (R.of d)
          (evaluate_monomial n)) (R.mul (R.of c) (evaluate_monomial m)) (evaluate_form p)

  plus_ok : (p q : NormalForm) → evaluate_form (add_forms p q) ≡ R.add (evaluate_form p) (evaluate_form q)
  plus_ok nil q = sym (zero_add (evaluate_form q))
  plus_ok (term c m p) q = ins_ok c m (add_forms p q) ∙ ap (λ (z : A). R.add (R.mul (R.of c) (evaluate_monomial m)) z) (plus_ok p q)
      ∙ sym (R.add_assoc (R.mul (R.of c) (evaluate_monomial m)) (evaluate_form p) (evaluate_form q))

  -- c m * d n
  pair_ok : (c : ℤ) (m : Monomial) (d : ℤ) (n : Monomial) → R.mul (R.of (c *ℤ d)) (evaluate_monomial (join_monomials m n))
      ≡ R.mul (R.mul (R.of c) (evaluate_monomial m)) (R.mul (R.of d) (evaluate_monomial n))
  pair_ok c m d n =
      ap (λ (z : A). R.mul z (evaluate_monomial (join_monomials m n))) (R.of_mul c d)
      ∙ ap (λ (z : A). R.mul (R.mul (R.of c) (R.of d)) z) (join_ok m n)
      ∙ R.mul_assoc (R.of c) (R.of d) (R.mul (evaluate_monomial m) (evaluate_monomial n))
      ∙ ap (λ (z : A). R.mul (R.of c) z) (mul_left_comm (R.of d) (evaluate_monomial m) (evaluate_monomial n))
      ∙ sym (R.mul_assoc (R.of c) (evaluate_monomial m) (R.mul (R.of d) (evaluate_monomial n)))

  scale_ok : (c : ℤ) (m : Monomial) (p q : NormalForm) → evaluate_form (add_multiple c m p q)
      ≡ R.add (R.mul (R.mul (R.of c) (evaluate_monomial m)) (evaluate_form p)) (evaluate_form q)
  scale_ok c m nil q = sym (ap (λ (z : A). R.add z (evaluate_form q)) (R.mul_zero (R.mul (R.of c) (evaluate_monomial m)))
      ∙ zero_add (evaluate_form q))
  scale_ok c m (term d n p) q =
      let k = R.mul (R.of c) (evaluate_monomial m) in
      let l = R.mul (R.of d) (evaluate_monomial n) in
      ins_ok (c *ℤ d) (join_monomials m n) (add_multiple c m p q)
      ∙ ap (λ (z : A). R.add z (evaluate_form (add_multiple c m p q))) (pair_ok c m d n)
      ∙ ap (λ (z : A). R.add (R.mul k l) z) (scale_ok c m p q)
      ∙ sym (R.add_assoc (R.mul k l) (R.mul k (evaluate_form p)) (evaluate_form q))
      ∙ ap (λ (z : A). R.add z (evaluate_form q)) (sym (R.mul_add k l (evaluate_form p)))

  times_ok : (p q : NormalForm) → evaluate_form (multiply_forms p q) ≡ R.mul (evaluate_form p) (evaluate_form q)
  times_ok nil q = sym (zero_mul (evaluate_form q))
  times_ok (term c m p) q =
      scale_ok c m q (multiply_forms p q)
      ∙ ap (λ (z : A). R.add (R.mul (R.mul (R.of c) (evaluate_monomial m)) (evaluate_form q)) z) (times_ok p q)
      ∙ sym (add_mul (R.mul (R.of c) (evaluate_monomial m)) (evaluate_form p) (evaluate_form q))

  minus_ok : (a b : A) → R.add (R.mul (R.mul (R.of (negsuc 0)) (R.of (pos 1))) b) a ≡ R.add a (R.neg b)
  minus_ok a b =
      ap (λ (z : A). R.add (R.mul z b) a) (R.mul_one (R.of (negsuc 0)))
      ∙ ap (λ (z : A). R.add z a) (sym (R.neg_is b))
      ∙ R.add_comm (R.neg b) a

  norm_ok : (e : Expression) → evaluate_form (normal_form e) ≡ evaluate R ρ e
  norm_ok (var k) = R.add_zero (R.mul (R.of (pos 1)) (R.mul (lookup R ρ k) (R.of (pos 1))))
      ∙ one_mul (R.mul (lookup R ρ k) (R.of (pos 1))) ∙ R.mul_one (lookup R ρ k)
  norm_ok (con c) = R.add_zero (R.mul (R.of c) (R.of (pos 1))) ∙ R.mul_one (R.of c)
  norm_ok (a ⊕ b) = plus_ok (normal_form a) (normal_form b) ∙ ap (λ (z : A). R.add z (evaluate_form (normal_form b))) (norm_ok a)
      ∙ ap (λ (z : A). R.add (evaluate R ρ a) z) (norm_ok b)
  norm_ok (a ⊖ b) = scale_ok (negsuc 0) [] (normal_form b) (normal_form a) ∙ minus_ok (evaluate_form (normal_form a)) (evaluate_form
      (normal_form b)) ∙ ap (λ (z : A). R.add z (R.neg (evaluate_form (normal_form b)))) (norm_ok a)
      ∙ ap (λ (z : A). R.add (evaluate R ρ a) (R.neg z)) (norm_ok b)
  norm_ok (a ⊗ b) = times_ok (normal_form a) (normal_form b) ∙ ap (λ (z : A). R.mul z (evaluate_form (normal_form b))) (norm_ok a)
      ∙ ap (λ (z : A). R.mul (evaluate R ρ a) z) (norm_ok b)
  norm_ok (opposite a) = scale_ok (negsuc 0) [] (normal_form a) nil ∙ minus_ok (R.of (pos 0)) (evaluate_form (normal_form a))
      ∙ zero_add (R.neg (evaluate_form (normal_form a))) ∙ ap R.neg (norm_ok a)

  zeros_ok : (p : NormalForm) → T (all_zero p) → evaluate_form p ≡ R.of (pos 0)
  zeros_ok nil t = refl
  zeros_ok (term (pos n) m p) t = go (eqb n 0) (eqb→eq n 0) (zeros_ok p) t
    where
      go : (b : Bool) → (T b → n ≡ 0) → (T (all_zero p) → evaluate_form p ≡ R.of (pos 0)) → T (b && all_zero p)
          → R.add (R.mul (R.of (pos n)) (evaluate_monomial m)) (evaluate_form p) ≡ R.of (pos 0)
      go true f r u =
          ap (λ (k : ℕ). R.add (R.mul (R.of (pos k)) (evaluate_monomial m)) (evaluate_form p)) (f tt)
          ∙ ap (λ (z : A). R.add z (evaluate_form p)) (zero_mul (evaluate_monomial m)) ∙ zero_add (evaluate_form p) ∙ r u
      go false f r u = absurd u
  zeros_ok (term (negsuc n) m p) t = absurd t

  add_neg : (b : A) → R.add (R.neg b) b ≡ R.of (pos 0)
  add_neg b =
      ap (λ (z : A). R.add z b) (R.neg_is b)
      ∙ ap (λ (z : A). R.add (R.mul (R.of (negsuc 0)) b) z) (sym (one_mul b))
      ∙ sym (add_mul (R.of (negsuc 0)) (R.of (pos 1)) b)
      ∙ ap (λ (z : A). R.mul z b) (sym (R.of_add (negsuc 0) (pos 1)))
      ∙ zero_mul b

  -- two expressions that are equal when multiplied out have equal values
  pub solve : (a b : Expression) → T (check a b) → evaluate R ρ a ≡ evaluate R ρ b
  solve a b t =
      let h : R.add (evaluate R ρ a) (R.neg (evaluate R ρ b)) ≡ R.of (pos 0) = sym (norm_ok (a ⊖ b)) ∙ zeros_ok (normal_form (a ⊖ b)) t in
      sym (R.add_zero (evaluate R ρ a))
      ∙ ap (λ (z : A). R.add (evaluate R ρ a) z) (sym (add_neg (evaluate R ρ b)))
      ∙ sym (R.add_assoc (evaluate R ρ a) (R.neg (evaluate R ρ b)) (evaluate R ρ b))
      ∙ ap (λ (z : A). R.add z (evaluate R ρ b)) h
      ∙ zero_add (evaluate R ρ b)

  -- r + k * (x - y) is r, where x ≡ y
  vanishes : (r k x y : A) → x ≡ y → R.add r (R.mul k (R.add x (R.neg y))) ≡ r
  vanishes r k x y h =
      ap (λ (z : A). R.add r (R.mul k (R.add z (R.neg y)))) h
      ∙ ap (λ (z : A). R.add r (R.mul k z)) (R.add_comm y (R.neg y) ∙ add_neg y)
      ∙ ap (λ (z : A). R.add r z) (R.mul_zero k)
      ∙ R.add_zero r

  -- l ≡ r from one equation x ≡ y, where l - r is k * (x - y). Example: from e : a ≡ b, that a * c is b * c, by
  --   combine R (a ∷ b ∷ c ∷ []) (v0 ⊗ v2) (v1 ⊗ v2) v2 v0 v1 tt e
  pub combine : (l r k x y : Expression) → T (check l (r ⊕ k ⊗ (x ⊖ y))) → evaluate R ρ x ≡ evaluate R ρ y → evaluate R ρ l ≡ evaluate R ρ r
  combine l r k x y t h = solve l (r ⊕ k ⊗ (x ⊖ y)) t ∙ vanishes (evaluate R ρ r) (evaluate R ρ k) (evaluate R ρ x) (evaluate R ρ y) h

  -- the same from two equations, and from three
  pub combine2 : (l r k x y k' x' y' : Expression) → T (check l (r ⊕ k ⊗ (x ⊖ y) ⊕ k' ⊗ (x' ⊖ y'))) → evaluate R ρ x ≡ evaluate R ρ y
      → evaluate R ρ x' ≡ evaluate R ρ y' → evaluate R ρ l ≡ evaluate R ρ r
  combine2 l r k x y k' x' y' t h h' =
      combine l (r ⊕ k ⊗ (x ⊖ y)) k' x' y' t h' ∙ vanishes (evaluate R ρ r) (evaluate R ρ k) (evaluate R ρ x) (evaluate R ρ y) h

  pub combine3 : (l r k x y k' x' y' k'' x'' y'' : Expression) → T (check l (r ⊕ k ⊗ (x ⊖ y) ⊕ k' ⊗ (x' ⊖ y') ⊕ k'' ⊗ (x'' ⊖ y'')))
      → evaluate R ρ x ≡ evaluate R ρ y → evaluate R ρ x' ≡ evaluate R ρ y' → evaluate R ρ x'' ≡ evaluate R ρ y'' → evaluate R ρ l
      ≡ evaluate R ρ r
  combine3 l r k x y k' x' y' k'' x'' y'' t h h' h'' =
      combine l (r ⊕ k ⊗ (x ⊖ y) ⊕ k' ⊗ (x' ⊖ y')) k'' x'' y'' t h''
      ∙ vanishes (evaluate R ρ (r ⊕ k ⊗ (x ⊖ y))) (evaluate R ρ k') (evaluate R ρ x') (evaluate R ρ y') h'
      ∙ vanishes (evaluate R ρ r) (evaluate R ρ k) (evaluate R ρ x) (evaluate R ρ y) h
