-- The bits of a number to the nearest whole number.
use mathlib.Core.Path.{◌≡◌, sym, ap, ◌∙◌, subst}
use Prim.Native.Nat.{ℕ, suc, ◌+◌, ◌*◌, ◌-◌, ◌/◌, ◌^◌, ◌≤◌, ◌<◌}
use native.Mathlib.Omega.{arith}
use native.Mathlib.Nat.{div-eq_of_lt, mul-div-mul_left, div-div-eq-div-mul, add-div_right, div-lt_iff_lt-mul}
use lib.Pow.{pow-add, pow_pos}
use Rattle.fraction.specs.Magnitude.{magnitude}
use Rattle.fraction.proofs.Magnitude.{magnitude_lt, magnitude_mono}
use Rattle.heights.specs.Places.{whole_place}

-- below 1/2
pub small : (b : ℕ) → b / 0x10_0000_0000_0000 < 1022 → 0 ≡ whole_place b
unfolding whole_place
small b h =
    let d = 1022 * 0x10_0000_0000_0000 - suc b in
    let e : suc b + d ≡ 1022 * 0x10_0000_0000_0000 = omega arith in
    let l : magnitude (2 ^ 52) b < 2 ^ 1073 =
    subst (λ (n : ℕ). magnitude (2 ^ 52) b < magnitude (2 ^ 52) n) e (magnitude_lt (2 ^ 52) b d (omega arith)) in
    sym (div-eq_of_lt (bound (magnitude (2 ^ 52) b) (2 ^ 1073) l))
  where
    bound : (m u : ℕ) → m < u → 2 * m + 2 * u < 2 * (2 * u)
    bound m u l = omega arith

-- (digits * p) / (2 * p * t) to the nearest whole, halves up
rounds : (d p t : ℕ) → 0 < p → 0 < t → (d / t + 1) / 2 ≡ (2 * (d * p) + 2 * (p * t)) / (2 * (2 * (p * t)))
rounds d p t hp ht =
    ap (λ (n : ℕ). n / 2) (sym (add-div_right d ht)) ∙ div-div-eq-div-mul (d + t) t 2
    ∙ sym (mul-div-mul_left {m = 2 * p} (d + t) (t * 2) (omega arith))
    ∙ ap (λ (n : ℕ). n / (2 * p * (t * 2))) {x = 2 * p * (d + t)} {y = 2 * (d * p) + 2 * (p * t)} (omega arith)
    ∙ ap (λ (n : ℕ). (2 * (d * p) + 2 * (p * t)) / n) {x = 2 * p * (t * 2)} {y = 2 * (2 * (p * t))} (omega arith)

-- from 1/2 on: digits * 2 ^ (exponent - 1), in units of 2 ^ -1074
pub large : (b e t : ℕ) → e ≡ b / 0x10_0000_0000_0000 → 1 ≤ e → e + t ≡ 1074
    → ((b - (e - 1) * 0x10_0000_0000_0000) / 2 ^ t + 1) / 2 ≡ whole_place b
unfolding whole_place
large b e t g he ht =
    let q : e - 1 + t ≡ 1073 = omega arith in
    let u : 2 ^ (e - 1) * 2 ^ t ≡ 2 ^ 1073 = sym (pow-add 2 (e - 1) t) ∙ ap (λ (n : ℕ). 2 ^ n) q in
    rounds (b - (e - 1) * 0x10_0000_0000_0000) (2 ^ (e - 1)) (2 ^ t) (pow_pos (e - 1)) (pow_pos t)
    ∙ ap (λ (n : ℕ). (2 * ((b - (e - 1) * 0x10_0000_0000_0000) * 2 ^ (e - 1)) + 2 * n) / (2 * (2 * n))) u
    ∙ ap (λ (e : ℕ). (2 * ((b - (e - 1) * 0x10_0000_0000_0000) * 2 ^ (e - 1)) + 2 ^ 1074) / (2 * 2 ^ 1074)) g

-- the bits of 2,000,000
pub place_over : (p : ℕ) → 0x413E_8480_0000_0000 < p → 2000000 * 2 ^ 1074 < magnitude (2 ^ 52) p
place_over p l =
    let e : suc 0x413E_8480_0000_0000 + (p - suc 0x413E_8480_0000_0000) ≡ p = omega arith in
    subst (λ (n : ℕ). 2000000 * 2 ^ 1074 < magnitude (2 ^ 52) n) e
    (magnitude_lt (2 ^ 52) 0x413E_8480_0000_0000 (p - suc 0x413E_8480_0000_0000) (omega arith))

pub place_under : (p : ℕ) → p ≤ 0x413E_8480_0000_0000 → magnitude (2 ^ 52) p ≤ 2000000 * 2 ^ 1074
place_under p l = magnitude_mono (2 ^ 52) p 0x413E_8480_0000_0000 (omega arith) l

-- the whole number of bits up to there
pub whole_under : (p : ℕ) → p ≤ 0x413E_8480_0000_0000 → whole_place p ≤ 2000000
unfolding whole_place
whole_under p l = bound (magnitude (2 ^ 52) p) (2 ^ 1074) (pow_pos 1074) (place_under p l)
  where
    bound : (m u : ℕ) → 0 < u → m ≤ 2000000 * u → (2 * m + u) / (2 * u) ≤ 2000000
    bound m u hu h =
        let l : (2 * m + u) / (2 * u) < 2000001 = (div-lt_iff_lt-mul {k = 2 * u} (omega arith)).1 (omega arith) in omega arith
