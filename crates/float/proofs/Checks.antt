-- The whole number nearest to a root: what confirms it, how it comes from the root's whole part, and that it gives the bits of the rounded
-- root, which it does since it lies between the middles.
use mathlib.Core.Path.{◌≡◌, sym, ap, ◌∙◌, subst}
use mathlib.Core.Logic.{inl, inr}
use Prim.Native.Nat.{ℕ, zero, suc, ◌+◌, ◌-◌, ◌*◌, ◌/◌, ◌%◌, ◌^◌, ◌≤◌, ◌<◌}
use native.Mathlib.Nat.{mul-le-mul_left, mul-le-mul_right, mul-lt-mul_of_pos_right, mul-pos, le_trans, le_of_eq, le-suc, eq-or-lt_of_le, add-suc}
use native.Mathlib.Omega.{arith}
use lib.Pow.{pow_pos}
use lib.IntN.{ℤ}
use lib.Ieee.{binary64, hid, ones}
use Rattle.fraction.specs.Magnitude.{magnitude}
use Rattle.fraction.proofs.Magnitude.{magnitude_at, magnitude_step, magnitude_lt}
use Rattle.float.specs.RootSteps.{Floor, Nearest, Scaling, root_bits, radicand}
use Rattle.float.proofs.Squares.{side_lt}
use Rattle.float.proofs.Middles.{IsRoot, only_root, nearest_root, under_floor, over_floor, magnitude_some, magnitude_small}
use Rattle.float.proofs.Scales.{halves}

-- what the code's check of k = a * 2 ^ 26 + b comes to
pub confirms : (m k a b : ℕ) → k ≡ a * 0x400_0000 + b → a * a ≤ m → 2 * (a * b) ≤ (m - a * a) * 0x400_0000 + a
    → b * b < ((m - a * a) * 0x400_0000 + a - 2 * (a * b)) * 0x400_0000 + b
    → ((m - a * a) * 0x400_0000 + a - 2 * (a * b)) * 0x400_0000 + b - b * b ≤ 2 * k → Nearest (m * 0x10_0000_0000_0000) k
confirms m k a b e p q r s =
    let w : k * k ≡ (a * 0x400_0000 + b) * (a * 0x400_0000 + b) = ap (λ (z : ℕ). z * z) e in
    record { low = omega arith; high = omega arith }

-- ---- from the whole part q: the nearest is q or q + 1
pub nearest_down : (n q rest : ℕ) → Floor n q rest → rest ≤ q → 0 < n → Nearest n q
nearest_down n zero rest r h p = absurd (omega (arith, r.is, r.less))
nearest_down n (suc q) rest r h p = record { low = omega (arith, r.is); high = omega (arith, r.is) }

pub nearest_up : (n q rest : ℕ) → Floor n q rest → q < rest → Nearest n (q + 1)
nearest_up n q rest r h = record { low = omega (arith, r.is, r.less); high = omega (arith, r.is, r.less) }

-- the number under the root: m * 2 ^ 52 or twice that
pub double_small : (m t : ℕ) → m < 0x20_0000_0000_0000 → t ≤ 1 → m * (1 + t) < 0x40_0000_0000_0000
double_small m t l h = omega (arith, mul-le-mul_left m h)

pub double_some : (m t : ℕ) → 0x10_0000_0000_0000 ≤ m → 0 < m * (1 + t) * 0x10_0000_0000_0000
double_some m t l = omega arith

-- ---- the squares of x - 1/2 and x + 1/2, times U
module _ (M U : ℕ) (P : 0 < U) where
  under_middle : (y : ℕ) → Nearest M (suc y) → (y * U + suc y * U) * (y * U + suc y * U) < 4 * (M * (U * U))
  under_middle y r =
      let l : (2 * y + 1) * (2 * y + 1) < 4 * M = omega (arith, r.low) in
      omega (arith, mul-lt-mul_of_pos_right l (mul-pos P P))

  over_middle : (x : ℕ) → Nearest M x → 4 * (M * (U * U)) < (x * U + suc x * U) * (x * U + suc x * U)
  over_middle x r =
      let l : 4 * M < (2 * x + 1) * (2 * x + 1) = omega (arith, r.high) in
      omega (arith, mul-lt-mul_of_pos_right l (mul-pos P P))

-- ---- M from h ^ 2 to below 4 * h ^ 2, and x nearest to its root: x units U are the nearest number to the root of M * U ^ 2
module _ (h M j x : ℕ) (H : 0 < h) (low : h * h ≤ M) (high : M < 2 * h * (2 * h)) (r : Nearest M x) where
  abbrev U : ℕ
  U = 2 ^ j

  from : h ≤ x
  from = omega (arith, side_lt (2 * h) (2 * x + 1) (4 * M) (omega arith) (omega (arith, r.high)))

  upto : x ≤ 2 * h
  upto = go x r
    where
      go : (x : ℕ) → Nearest M x → x ≤ 2 * h
      go zero r = omega arith
      go (suc y) r = omega (arith, side_lt (2 * y + 1) (4 * h) (4 * M) (omega (arith, r.low)) (omega arith))

  at : (z : ℕ) → h ≤ z → z ≤ 2 * h → magnitude h (j * h + z) ≡ z * U
  at z l g = magnitude_at h z j H (inl l) g

  is_root : IsRoot h (M * (U * U)) (j * h + x)
  is_root = record { lower = inl (below x from upto r); upper = inl above }
    where
      -- at x = h the number before is nearer than a unit
      below : (x : ℕ) → h ≤ x → x ≤ 2 * h → Nearest M x → (magnitude h (j * h + x - 1) + magnitude h (j * h + x)) *
          (magnitude h (j * h + x - 1) + magnitude h (j * h + x)) < 4 * (M * (U * U))
      below zero l g r = absurd (omega arith)
      below (suc y) l g r = elim (eq-or-lt_of_le l) [
        | inl e ↦ under_floor (magnitude h (j * h + suc y - 1)) (magnitude h (j * h + suc y)) (suc y * U) (M * (U * U)) before
            (le_of_eq (at (suc y) l g)) (first e)
        | inr k ↦ rw (ap (magnitude h) (back (j * h)) ∙ at y (fewer k) (le_trans (le-suc y) g), at (suc y) l g)
            (under_middle M U (pow_pos j) y r)
      ]
        where
          back : (a : ℕ) → a + suc y - 1 ≡ a + y
          back a = omega arith

          next : (a : ℕ) → suc (a + suc y - 1) + 0 ≡ a + suc y
          next a = omega arith

          fewer : h < suc y → h ≤ y
          fewer k = omega arith

          before : magnitude h (j * h + suc y - 1) < magnitude h (j * h + suc y)
          before = subst (λ (z : ℕ). magnitude h (j * h + suc y - 1) < magnitude h z) (next (j * h))
              (magnitude_lt h (j * h + suc y - 1) 0 H)

          first : h ≡ suc y → suc y * U * (suc y * U) ≤ M * (U * U)
          first e = rw (← e) (omega (arith, mul-le-mul_right (U * U) low))

      -- at x = 2 * h the number after is farther than a unit
      above : 4 * (M * (U * U)) < (magnitude h (j * h + x) + magnitude h (suc (j * h + x))) *
          (magnitude h (j * h + x) + magnitude h (suc (j * h + x)))
      above = elim (eq-or-lt_of_le upto) [
        | inl e ↦ over_floor (magnitude h (j * h + x)) (magnitude h (suc (j * h + x))) (M * (U * U)) (magnitude_step h (j * h + x) H)
            (last e)
        | inr l ↦ rw (at x from upto, ap (magnitude h) (sym (add-suc (j * h) x)) ∙ at (suc x) (le_trans from (le-suc x)) l)
            (over_middle M U (pow_pos j) x r)
      ]
        where
          last : x ≡ 2 * h → M * (U * U) < magnitude h (j * h + x) * magnitude h (j * h + x)
          last e = rw (at x from upto, e) (omega (arith, mul-lt-mul_of_pos_right high (mul-pos (pow_pos j) (pow_pos j))))

-- ---- the bits of the root of m * 2 ^ k, from the whole number x nearest to the root of its digits
module _ (b m : ℕ) (e : ℤ) (x : ℕ) (some : 0 < b) (small : b < ones binary64 * hid binary64) (n : Scaling b m e)
    (r : Nearest (m * (1 + n.exponent.k % 2) * 0x10_0000_0000_0000) x) where
  abbrev h : ℕ
  h = 0x10_0000_0000_0000

  abbrev k : ℕ
  k = n.exponent.k

  abbrev M : ℕ
  M = m * (1 + k % 2) * h

  M_low : h * h ≤ M
  M_low = go (k % 2) n.low
    where
      go : (t : ℕ) → h ≤ m → h * h ≤ m * (1 + t) * h
      go t l =
          let e : h ≤ m * (1 + t) = le_trans l (omega arith) in
          mul-le-mul_right h e

  M_high : M < 2 * h * (2 * h)
  M_high = go (k % 2) (omega arith) n.high
    where
      go : (t : ℕ) → t < 2 → m < 2 * h → m * (1 + t) * h < 2 * h * (2 * h)
      go zero l g = omega arith
      go (suc zero) l g = omega arith
      go (suc (suc t)) l g = absurd (omega arith)

  radicand_is : radicand b ≡ M * (2 ^ (k / 2 - 26) * 2 ^ (k / 2 - 26))
  radicand_is = sym n.is ∙ ap (λ (z : ℕ). m * z) (halves k (omega (arith, n.exponent.from))) ∙ flat m (1 + k % 2) (2 ^ (k / 2 - 26) * 2 ^ (k / 2 - 26))
    where
      flat : (m t x : ℕ) → m * (t * h * x) ≡ m * t * h * x
      flat m t x = omega arith

  pub root_upto : x ≤ 0x20_0000_0000_0000
  root_upto = upto h M (k / 2 - 26) x (omega arith) M_low M_high r

  pub root_place : (k / 2 - 26) * h + x ≡ root_bits binary64 b
  unfolding root_bits radicand
  root_place =
      only_root h (radicand b) ((k / 2 - 26) * h + x) (root_bits binary64 b) (omega arith)
      (subst (λ (z : ℕ). IsRoot h z ((k / 2 - 26) * h + x)) (sym radicand_is) (is_root h M (k / 2 - 26) x (omega arith) M_low M_high r))
      (nearest_root binary64 (magnitude h b) (magnitude_some binary64 b some) (magnitude_small binary64 b small))
