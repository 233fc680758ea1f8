-- Squares and their order, and that `isqrt` is the whole part of a root.
use mathlib.Core.Path.{◌≡◌, refl, ap, ◌∙◌, subst}
use mathlib.Core.Bool.{Bool, true, false, not, cond}
use Prim.Native.Nat.{ℕ, zero, suc, ◌+◌, ◌*◌, ◌/◌, ◌^◌, ◌≤◌, ◌<◌, compare, Ordering}
use native.Mathlib.Nat.{le_of_eq, lt_of_lt_of_le, mul-le-mul}
use native.Mathlib.Decide.{dec_lt}
use native.Mathlib.Omega.{arith}
use lib.Dec.{T, leb, eqb, is_le, compare_is_eq, leb→le, nleb→lt, eqb→eq, eqb_refl}
use lib.Arith.{lt_of_le-ne}
use lib.Pow.{pow_mono, pow-add}
use lib.Ieee.{size}
use lib.Ieee.Digits.{size-lt}
use Rattle.float.specs.Root.{grow, floor_in, isqrt}

-- ---- the order of two squares is that of their sides
pub side_lt : (a b n : ℕ) → a * a ≤ n → n < b * b → a < b
side_lt a b n h g = elim (dec_lt a b) [ yes l ↦ l | no k ↦ absurd (clash (mul-le-mul (ge k) (ge k))) ]
  where
    ge : ¬ (a < b) → b ≤ a
    ge k = omega arith

    clash : b * b ≤ a * a → ⊥
    clash k = omega arith

-- ---- what `compare` says
-- o is how a compares with b
abbrev pub Cmp : Ordering → ℕ → ℕ → Type 0
Cmp Ordering.lt a b = a < b
Cmp Ordering.eq a b = a ≡ b
Cmp Ordering.gt a b = b < a

pub cmp : (a b : ℕ) → Cmp (compare a b) a b
cmp a b = go (compare a b) (leb→le a b) (nleb→lt a b) (eqb→eq a b) (λ (e : a ≡ b). subst (λ (x : ℕ). T (eqb a x)) e (eqb_refl a))
  where
    go : (o : Ordering) → (T (is_le o) → a ≤ b) → (T (not (is_le o)) → b < a) → (T (compare_is_eq o) → a ≡ b) → (a ≡ b → T (compare_is_eq o)) → Cmp o a b
    go Ordering.lt h k e n = lt_of_le-ne (h tt) n
    go Ordering.eq h k e n = e tt
    go Ordering.gt h k e n = k tt

pub cmp_is : (o : Ordering) (a b : ℕ) → Cmp o a b → compare a b ≡ o
cmp_is o a b h = go o (compare a b) h (cmp a b)
  where
    go : (o p : Ordering) → Cmp o a b → Cmp p a b → p ≡ o
    go Ordering.lt Ordering.lt h k = refl
    go Ordering.lt Ordering.eq h k = absurd (omega arith)
    go Ordering.lt Ordering.gt h k = absurd (omega arith)
    go Ordering.eq Ordering.lt h k = absurd (omega arith)
    go Ordering.eq Ordering.eq h k = refl
    go Ordering.eq Ordering.gt h k = absurd (omega arith)
    go Ordering.gt Ordering.lt h k = absurd (omega arith)
    go Ordering.gt Ordering.eq h k = absurd (omega arith)
    go Ordering.gt Ordering.gt h k = refl

-- ---- `isqrt`, a digit at a time
grow_law : (n m r : ℕ) → n / 4 ≡ m → r * r ≤ m → m < suc r * suc r → (grow n (2 * r) * grow n (2 * r) ≤ n)
    × (n < suc (grow n (2 * r)) * suc (grow n (2 * r)))
unfolding grow
grow_law n m r e lo hi = go (leb (suc (2 * r) * suc (2 * r)) n) (leb→le (suc (2 * r) * suc (2 * r)) n)
    (nleb→lt (suc (2 * r) * suc (2 * r)) n)
  where
    go : (b : Bool) → (T b → suc (2 * r) * suc (2 * r) ≤ n) → (T (not b) → n < suc (2 * r) * suc (2 * r))
        → ((2 * r + cond b 1 0) * (2 * r + cond b 1 0) ≤ n) × (n < suc (2 * r + cond b 1 0) * suc (2 * r + cond b 1 0))
    go true h k = (omega (arith, h tt), omega arith)
    go false h k = (omega arith, omega (arith, k tt))

floor_law : (k n : ℕ) → n < 2 ^ (2 * k) → (floor_in k n * floor_in k n ≤ n) × (n < suc (floor_in k n) * suc (floor_in k n))
unfolding floor_in
floor_law zero n h = (omega arith, omega arith)
floor_law (suc k) n h =
    let g = floor_law k (n / 4) (quarter (2 ^ (2 * k))
    (lt_of_lt_of_le h (le_of_eq (ap (λ (z : ℕ). 2 ^ z) (two k) ∙ pow-add 2 (2 * k) 2)))) in
    grow_law n (n / 4) (floor_in k (n / 4)) refl g.0 g.1
  where
    two : (k : ℕ) → 2 * suc k ≡ 2 * k + 2
    two k = omega arith

    quarter : (p : ℕ) → n < p * 4 → n / 4 < p
    quarter p h = omega arith

pub isqrt_le : (n : ℕ) → isqrt n * isqrt n ≤ n
unfolding isqrt
isqrt_le n = (floor_law (size n) n (lt_of_lt_of_le (size-lt n) (pow_mono (twice (size n))))).0
  where
    twice : (z : ℕ) → z ≤ 2 * z
    twice z = omega arith

pub isqrt_lt : (n : ℕ) → n < suc (isqrt n) * suc (isqrt n)
unfolding isqrt
isqrt_lt n = (floor_law (size n) n (lt_of_lt_of_le (size-lt n) (pow_mono (twice (size n))))).1
  where
    twice : (z : ℕ) → z ≤ 2 * z
    twice z = omega arith
