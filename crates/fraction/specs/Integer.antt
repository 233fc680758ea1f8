-- LAWS, but for `positive_part`, `negative_part`, `◌≤ℤ◌` and `signed`, which a reader must believe; pass over the rest.
-- ℤ as an ordered commutative ring. An integer is its positive part less its negative part, of which one is 0, and each law is one of ℕ.
-- The laws stand here, and not in proofs/, since the definition of the operations and the order on ℚ (Rational) needs them.
use Rattle.std.specs.Prelude.{Bool, cond, false, not, true, ◌≡◌, refl, ◌*◌, ◌+◌, ◌-◌, ◌<◌, ◌≤◌, suc, zero, ℕ, T, ltb, ◌*ℤ◌, ◌+ℤ◌, negsuc, neg_ℤ, pos, ℤ}
use Rattle.std.proofs.Common.{ap, arith, ltb→lt, nltb→le}
use Rattle.std.proofs.Math.IntN.{*ℤ_comm, *ℤ-one, *ℤ-zero, +ℤ_assoc, +ℤ_comm, +ℤ_idr, one, sub_ℕ}
use Rattle.fraction.specs.Order.{OrderedRing}
use Rattle.fraction.specs.Ring.{CommutativeRing}

-- z where 0 ≤ z, else 0
abbrev pub positive_part : ℤ → ℕ
positive_part (pos n) = n
positive_part (negsuc n) = 0

-- -z where z ≤ 0, else 0
abbrev pub negative_part : ℤ → ℕ
negative_part (pos n) = 0
negative_part (negsuc n) = suc n

-- equal integers, with nothing subtracted
pub equal_by_parts : (z w : ℤ) → positive_part z + negative_part w ≡ positive_part w + negative_part z → z ≡ w
equal_by_parts (pos m) (pos n) h = ap pos (omega arith)
equal_by_parts (pos m) (negsuc n) h = absurd (bad h)
  where
    bad : m + suc n ≡ 0 + 0 → ⊥
    bad k = omega arith
equal_by_parts (negsuc m) (pos n) h = absurd (bad h)
  where
    bad : 0 + 0 ≡ n + suc m → ⊥
    bad k = omega arith
equal_by_parts (negsuc m) (negsuc n) h = ap negsuc (omega arith)

-- the parts of a - b, of -z, of a sum and of a product
pub parts_sub : (a b : ℕ) → positive_part (sub_ℕ a b) + b ≡ a + negative_part (sub_ℕ a b)
parts_sub a b = go (ltb a b) (ltb→lt a b) (nltb→le a b)
  where
    go : (c : Bool) → (T c → a < b) → (T (not c) → b ≤ a) → positive_part (cond c (negsuc (b - suc a)) (pos (a - b))) + b
        ≡ a + negative_part (cond c (negsuc (b - suc a)) (pos (a - b)))
    go true f g = omega (arith, f tt)
    go false f g = omega (arith, g tt)

pub parts_neg : (z : ℤ) → (positive_part (neg_ℤ z) ≡ negative_part z) × (negative_part (neg_ℤ z) ≡ positive_part z)
parts_neg (pos zero) = (refl, refl)
parts_neg (pos (suc n)) = (refl, refl)
parts_neg (negsuc n) = (refl, refl)

pub parts_add : (z w : ℤ) → positive_part (z +ℤ w) + (negative_part z + negative_part w) ≡ positive_part z + positive_part w + negative_part (z +ℤ
    w)
parts_add (pos a) (pos b) = omega arith
parts_add (pos a) (negsuc b) = omega (arith, parts_sub a (suc b))
parts_add (negsuc a) (pos b) = omega (arith, parts_sub b (suc a))
parts_add (negsuc a) (negsuc b) = omega arith

pub parts_mul : (z w : ℤ) → positive_part (z *ℤ w) + (positive_part z * negative_part w + negative_part z * positive_part w)
    ≡ positive_part z * positive_part w + negative_part z * negative_part w + negative_part (z *ℤ w)
parts_mul (pos a) (pos b) = omega arith
parts_mul (pos a) (negsuc b) = omega (arith, (parts_neg (pos (a * suc b))).0, (parts_neg (pos (a * suc b))).1)
parts_mul (negsuc a) (pos b) = omega (arith, (parts_neg (pos (suc a * b))).0, (parts_neg (pos (suc a * b))).1)
parts_mul (negsuc a) (negsuc b) = omega arith

-- a ≤ b, with nothing subtracted
infix 4 ◌≤z◌
abbrev pub ◌≤z◌ : ℤ → ℤ → Type 0
a ≤z b = positive_part a + negative_part b ≤ positive_part b + negative_part a

-- n, with a sign: -n where s is true
abbrev pub signed : Bool → ℕ → ℤ
signed false n = pos n
signed true n = neg_ℤ (pos n)

module _ (a b c : ℤ) where
  -- the laws of a ring that the library does not have
  pub *ℤ-add : a *ℤ (b +ℤ c) ≡ a *ℤ b +ℤ a *ℤ c
  *ℤ-add = equal_by_parts (a *ℤ (b +ℤ c)) (a *ℤ b +ℤ a *ℤ c)
      (omega (
        arith,
        parts_mul a (b +ℤ c),
        parts_add (a *ℤ b) (a *ℤ c),
        parts_mul a b,
        parts_mul a c,
        ap (λ (x : ℕ). positive_part a * x)
            (parts_add b c),
        ap (λ (x : ℕ). negative_part a * x) (parts_add b c),
      ))

  pub *ℤ-assoc : a *ℤ b *ℤ c ≡ a *ℤ (b *ℤ c)
  *ℤ-assoc = equal_by_parts (a *ℤ b *ℤ c) (a *ℤ (b *ℤ c))
      (omega (
        arith,
        parts_mul (a *ℤ b) c,
        parts_mul a (b *ℤ c),
        ap (λ (x : ℕ). x * positive_part c) (parts_mul a b),
        ap
            (λ (x : ℕ). x * negative_part c) (parts_mul a b),
        ap (λ (x : ℕ). positive_part a * x) (parts_mul b c),
        ap
            (λ (x : ℕ). negative_part a * x) (parts_mul b c),
      ))

pub *ℤ-identity : (m : ℤ) → m *ℤ pos 1 ≡ m
unfolding one
*ℤ-identity m = *ℤ-one m

pub negℤ_is : (a : ℤ) → neg_ℤ a ≡ negsuc 0 *ℤ a
negℤ_is a = equal_by_parts (neg_ℤ a) (negsuc 0 *ℤ a) (omega (arith, parts_mul (negsuc 0) a, (parts_neg a).0, (parts_neg a).1))

-- the integers as a commutative ring
abbrev pub integer_ring : CommutativeRing ℤ
integer_ring = record {
  add = ◌+ℤ◌;
  mul = ◌*ℤ◌;
  neg = neg_ℤ;
  of = λ z. z;
  add_assoc = +ℤ_assoc;
  add_comm = +ℤ_comm;
  add_zero = +ℤ_idr;
  mul_assoc = *ℤ-assoc;
  mul_comm = *ℤ_comm;
  mul_one = *ℤ-identity;
  mul_zero = *ℤ-zero;
  mul_add = *ℤ-add;
  neg_is = negℤ_is;
  of_add = λ x y. refl;
  of_mul = λ x y. refl;
}

≤ℤ-mul : (a b : ℤ) → pos 0 ≤z a → pos 0 ≤z b → pos 0 ≤z a *ℤ b
≤ℤ-mul (pos a) (pos b) h k = omega arith
≤ℤ-mul (pos a) (negsuc b) h k = absurd (bad k)
  where
    bad : 0 + suc b ≤ 0 + 0 → ⊥
    bad x = omega arith
≤ℤ-mul (negsuc a) b h k = absurd (bad h)
  where
    bad : 0 + suc a ≤ 0 + 0 → ⊥
    bad x = omega arith

-- the integers as an ordered ring
pub integer_order : OrderedRing integer_ring ◌≤z◌
integer_order = record {
  le_refl = λ a. omega arith;
  le_trans = λ a b c h k. omega arith;
  le_add = λ a b c h. omega (arith, parts_add a c, parts_add b c);
  nonnegative_of = λ n. omega arith;
  nonnegative_mul = ≤ℤ-mul;
}
