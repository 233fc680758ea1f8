-- A finite number above 0 as m * 2 ^ k, from its bits.
use mathlib.Core.Path.{◌≡◌, refl, sym, ap, ◌∙◌, subst}
use Prim.Native.Nat.{ℕ, zero, suc, ◌+◌, ◌-◌, ◌*◌, ◌/◌, ◌%◌, ◌^◌, ◌≤◌, ◌<◌}
use native.Mathlib.Nat.{le_trans, le_of_eq, lt_of_lt_of_le, mul-le-mul_right, mul_assoc, div-eq_of_lt, not-le_of_lt, lt_of_not-le}
use native.Mathlib.Omega.{arith}
use lib.Pow.{pow-add, pow_mono, shl_exact, shl_lt}
use lib.Count.{count_leading_zeros, leading_top}
use lib.IntN.{pos, negsuc, ◌-ℤ◌}
use Rattle.float.specs.RootSteps.{Scaling, radicand}
use Rattle.float.proofs.Exponents.{low_place, high_place}

-- ---- 2 ^ k, with k even or odd
pub halves : (k : ℕ) → 52 ≤ k → 2 ^ k ≡ (1 + k % 2) * 0x10_0000_0000_0000 * (2 ^ (k / 2 - 26) * 2 ^ (k / 2 - 26))
halves k h =
    ap (λ (z : ℕ). 2 ^ z) split ∙ pow-add 2 (k % 2) (52 + (j + j)) ∙ ap (λ (z : ℕ). z * 2 ^ (52 + (j + j))) (small (k % 2) (omega arith))
    ∙ ap (λ (z : ℕ). (1 + k % 2) * z) (pow-add 2 52 (j + j) ∙ ap (λ (z : ℕ). 2 ^ 52 * z) (pow-add 2 j j))
    ∙ sym (mul_assoc (1 + k % 2) 0x10_0000_0000_0000 (2 ^ j * 2 ^ j))
  where
    j : ℕ
    j = k / 2 - 26

    split : k ≡ k % 2 + (52 + (k / 2 - 26 + (k / 2 - 26)))
    split = omega arith

    small : (t : ℕ) → t < 2 → 2 ^ t ≡ 1 + t
    small zero h = refl
    small (suc zero) h = refl
    small (suc (suc t)) h = absurd (omega arith)

-- ---- the bits as m * 2 ^ k
abbrev pub lead : ℕ → ℕ
lead b = count_leading_zeros 64 b - 11

pub record Leading (b : ℕ) : Type 0 where
  pub j : ℕ
  pub is : lead b + j ≡ 52
  pub enough : 11 ≤ count_leading_zeros 64 b
  pub low : 2 ^ j ≤ b
  pub high : b < 2 ^ suc j

pub leading : (b : ℕ) → 0 < b → b < 0x10_0000_0000_0000 → Leading b
leading b p l =
    let t = leading_top 64 b p (omega arith) in
    let s : t.0 < 52 = lt_of_not-le (λ (g : 52 ≤ t.0). absurd (not-le_of_lt (lt_of_lt_of_le l (pow_mono g)) t.2)) in
    record { j = t.0; is = omega (arith, t.1); enough = omega (arith, t.1); low = t.2; high = t.3 }

low_value : (b : ℕ) → b < 0x10_0000_0000_0000 → (z : ℕ) → z ≤ 52 → b * 2 ^ z * 2 ^ (1074 - z) ≡ radicand b
unfolding radicand
low_value b l z h =
    mul_assoc b (2 ^ z) (2 ^ (1074 - z)) ∙ ap (λ (x : ℕ). b * x) (sym (pow-add 2 z (1074 - z)) ∙ ap (λ (x : ℕ). 2 ^ x) (back z h))
    ∙ ap (λ (x : ℕ). x * 2 ^ 1074) (sym (ap (λ (x : ℕ). (b - (x - 1) * 0x10_0000_0000_0000) * 2 ^ (x - 1)) (div-eq_of_lt l) ∙ one b))
  where
    back : (z : ℕ) → z ≤ 52 → z + (1074 - z) ≡ 1074
    back z h = omega arith

    one : (b : ℕ) → (b - 0) * 1 ≡ b
    one b = omega arith

high_value : (b x : ℕ) → b / 0x10_0000_0000_0000 ≡ suc x → b % 0x10_0000_0000_0000 + 0x10_0000_0000_0000 ≡ b - x * 0x10_0000_0000_0000
    → (b % 0x10_0000_0000_0000 + 0x10_0000_0000_0000) * 2 ^ (1073 + suc x) ≡ radicand b
unfolding radicand
high_value b x e h =
    ap (λ (z : ℕ). z * 2 ^ (1073 + suc x)) h ∙ ap (λ (z : ℕ). (b - x * 0x10_0000_0000_0000) * z)
    (ap (λ (z : ℕ). 2 ^ z) (flip x) ∙ pow-add 2 x 1074)
    ∙ sym (mul_assoc (b - x * 0x10_0000_0000_0000) (2 ^ x) (2 ^ 1074))
    ∙ ap (λ (z : ℕ). z * 2 ^ 1074) (sym (ap (λ (z : ℕ). (b - (z - 1) * 0x10_0000_0000_0000) * 2 ^ (z - 1)) e
    ∙ ap (λ (z : ℕ). (b - z * 0x10_0000_0000_0000) * 2 ^ z) (pr x)))
  where
    flip : (x : ℕ) → 1073 + suc x ≡ x + 1074
    flip x = omega arith

    pr : (x : ℕ) → suc x - 1 ≡ x
    pr x = omega arith

pub scale_low : (b : ℕ) → 0 < b → b < 0x10_0000_0000_0000 → Scaling b (b * 2 ^ lead b % 0x1_0000_0000_0000_0000) (negsuc 1021 -ℤ pos (lead b))
scale_low b p l = go (leading b p l)
  where
    go : Leading b → Scaling b (b * 2 ^ lead b % 0x1_0000_0000_0000_0000) (negsuc 1021 -ℤ pos (lead b))
    go d =
        let z = lead b in
        let e : b * 2 ^ z % 2 ^ 64 ≡ b * 2 ^ z = shl_exact (suc d.j) z 64 d.high (omega arith) in
        subst (λ (m : ℕ). Scaling b m (negsuc 1021 -ℤ pos z)) (sym e)
        (record {
          low = le_trans (le_of_eq (ap (λ (x : ℕ). 2 ^ x) (sym (flip z d.j d.is)) ∙ pow-add 2 d.j z))
              (mul-le-mul_right (2 ^ z) d.low);
          high = lt_of_lt_of_le (shl_lt (suc d.j) z d.high) (le_of_eq (ap (λ (x : ℕ). 2 ^ x) (flip' z d.j d.is)));
          exponent = record { k = 1074 - z; from = omega arith; upto = omega arith; is = low_place z (omega arith) };
          is = low_value b l z (omega arith);
        })
      where
        flip : (z j : ℕ) → z + j ≡ 52 → j + z ≡ 52
        flip z j e = omega arith

        flip' : (z j : ℕ) → z + j ≡ 52 → suc j + z ≡ 53
        flip' z j e = omega arith

pub scale_high : (b : ℕ) → (b / 0x10_0000_0000_0000 ≡ 0 → ⊥) → b < 2047 * 0x10_0000_0000_0000
    → Scaling b (b % 0x10_0000_0000_0000 + 0x10_0000_0000_0000) (pos (b / 0x10_0000_0000_0000) -ℤ pos 1023)
scale_high b n l = go (b / 0x10_0000_0000_0000) refl n
  where
    go : (x : ℕ) → b / 0x10_0000_0000_0000 ≡ x → (x ≡ 0 → ⊥) → Scaling b (b % 0x10_0000_0000_0000 + 0x10_0000_0000_0000) (pos x -ℤ pos 1023)
    go zero e n = absurd (n refl)
    go (suc x) e n =
        record {
          low = omega arith;
          high = omega arith;
          exponent = record { k = 1073 + suc x; from = omega arith; upto = omega arith; is = high_place (suc x) };
          is = high_value b x e (omega arith);
        }
