-- A float by its bits: whether it is turned away, and the nearest whole number to it.
use mathlib.Core.Path.{◌≡◌, refl, sym, ap, ◌∙◌, subst}
use mathlib.Core.Bool.{Bool, true, false, cond}
use Prim.Native.Nat.{ℕ, zero, suc, ◌+◌, ◌*◌, ◌/◌, ◌%◌, ◌^◌, ◌≤◌, ◌<◌}
use native.Mathlib.Omega.{arith}
use native.Mathlib.Nat.{
  div-eq_of_lt,
  mul-div-mul_right,
  mul-le-mul_right,
  mul-lt-mul_of_pos_right,
  lt_of_mul-lt-mul_right,
  le_of_mul-le-mul_right,
}
use lib.Dec.{T, ltb, leb}
use lib.IntN.{ℤ, pos, neg_ℤ}
use lib.Pow.{pow_pos}
use lib.Ieee.{Float, nan, inf, fin, binary64, up, down, fits, to_bits, of_bits, lt}
use lib.Ieee.Bits.{of_bits-to_bits}
use lib.Ieee.Exact.{HasValue}
use lib.Ieee.Fits.{down_pos}
use borrow.Author.Tests.{lt-ltb, le-ltb, le-leb, lt-leb}
use Rattle.fraction.specs.Integer.{signed}
use Rattle.fraction.specs.Magnitude.{magnitude}
use Rattle.fraction.proofs.Encoding.{of_bits_value}
use Rattle.fraction.proofs.Value.{Encoded, encoded}
use Rattle.heights.specs.Height.{nearest_whole}
use Rattle.heights.specs.Controls.{beyond, whole_of}
use Rattle.heights.specs.Places.{whole_place}
use Rattle.heights.proofs.Places.{place_over, place_under}

-- a / c is A / C: equal when rounded
cross : (a c A C : ℕ) → 0 < c → 0 < C → a * C ≡ A * c → (2 * a + c) / (2 * c) ≡ (2 * A + C) / (2 * C)
cross a c A C hc hC h =
    let e : (2 * a + c) * C ≡ (2 * A + C) * c = omega (arith, h) in
    sym (mul-div-mul_right (2 * a + c) (2 * c) hC) ∙ ap (λ (n : ℕ). n / (2 * c * C)) e
    ∙ ap (λ (n : ℕ). (2 * A + C) * c / n) {x = 2 * c * C} {y = 2 * C * c} (omega arith) ∙ mul-div-mul_right (2 * A + C) (2 * C) hc

-- the sign of 0 does not matter
sign_kept : (s : Bool) (n d : ℕ) → 0 < d → nearest_whole (signed s n) d ≡ signed s ((2 * n + d) / (2 * d))
sign_kept false n d h = refl
sign_kept true zero d h =
    let z : (2 * 0 + d) / (2 * d) ≡ 0 = div-eq_of_lt (omega arith) in ap pos z ∙ ap (λ (q : ℕ). neg_ℤ (pos q)) (sym z)
sign_kept true (suc n) d h = refl

-- a / c is A / u: above k or not
over : (a c A u k : ℕ) → 0 < c → a * u ≡ A * c → k * u < A → k * c < a
over a c A u k hc h l =
    let p = mul-lt-mul_of_pos_right l hc in
    lt_of_mul-lt-mul_right u {m = k * c} {n = a} (omega (arith, p, h))

under : (a c A u k : ℕ) → 0 < u → a * u ≡ A * c → A ≤ k * u → a ≤ k * c
under a c A u k hu h l =
    let p = mul-le-mul_right c l in
    le_of_mul-le-mul_right {m = a} {n = k * c} {k = u} (omega (arith, p, h)) hu

-- a pattern is a sign and a place
split : (s : Bool) (p b : ℕ) → b ≡ cond s 0x8000_0000_0000_0000 0 + p → p < 0x7ff0_0000_0000_0000
    → (b % 0x8000_0000_0000_0000 ≡ p) × (leb 0x8000_0000_0000_0000 b ≡ s)
split true p b e l = (omega arith, le-leb 0x8000_0000_0000_0000 b (omega arith))
split false p b e l = (omega arith, lt-leb 0x8000_0000_0000_0000 b (omega arith))

-- the test, by the number's parts
beyond_is : (s : Bool) (m : ℕ) (e : ℤ) (t : Bool) → ltb (2000000 * down e) (m * up e * 1) ≡ t → beyond (fin s m e) ≡ t
unfolding beyond lt of_bits
beyond_is s m e t h = h

module _ (s : Bool) (m : ℕ) (e : ℤ) (fx : T (fits binary64 (fin s m e))) where
  code : Encoded binary64 (fin s m e)
  code = encoded binary64 (fin s m e) fx tt

  -- the sign, and the magnitude by the place
  known : (s ≡ code.sign) × (m * up e * 2 ^ 1074 ≡ magnitude (2 ^ 52) code.place * down e)
  known =
      subst (λ (y : Float). HasValue y code.sign (magnitude (2 ^ 52) code.place) (2 ^ 1074))
      (ap (of_bits binary64) (sym code.bits) ∙ of_bits-to_bits binary64 (fin s m e) fx)
      (of_bits_value binary64 code.sign code.place code.below_infinity)

  parts : (to_bits binary64 (fin s m e) % 0x8000_0000_0000_0000 ≡ code.place)
      × (leb 0x8000_0000_0000_0000 (to_bits binary64 (fin s m e)) ≡ code.sign)
  parts = split code.sign code.place (to_bits binary64 (fin s m e)) code.bits code.below_infinity

  finite_far : 0x413E_8480_0000_0000 < to_bits binary64 (fin s m e) % 0x8000_0000_0000_0000 → beyond (fin s m e) ≡ true
  finite_far l =
      let o = over (m * up e) (down e) (magnitude (2 ^ 52) code.place) (2 ^ 1074) 2000000 (down_pos e) known.1
      (place_over code.place (rw parts.0 at l)) in
      beyond_is s m e true (lt-ltb (2000000 * down e) (m * up e * 1) (omega (arith, o)))

  finite_near : to_bits binary64 (fin s m e) % 0x8000_0000_0000_0000 ≤ 0x413E_8480_0000_0000 → beyond (fin s m e) ≡ false
  finite_near l =
      let o = under (m * up e) (down e) (magnitude (2 ^ 52) code.place) (2 ^ 1074) 2000000 (pow_pos 1074) known.1
      (place_under code.place (rw parts.0 at l)) in
      beyond_is s m e false (le-ltb (2000000 * down e) (m * up e * 1) (omega (arith, o)))

  finite_whole : whole_of (fin s m e)
      ≡ signed (leb 0x8000_0000_0000_0000 (to_bits binary64 (fin s m e))) (whole_place (to_bits binary64 (fin s m e) % 0x8000_0000_0000_0000))
  unfolding whole_place
  finite_whole =
      sign_kept s (m * up e) (down e) (down_pos e)
      ∙ ap (signed s) (cross (m * up e) (down e) (magnitude (2 ^ 52) code.place) (2 ^ 1074) (down_pos e) (pow_pos 1074) known.1
      ∙ ap whole_place (sym parts.0))
      ∙ ap (λ (b : Bool). signed b (whole_place (to_bits binary64 (fin s m e) % 0x8000_0000_0000_0000))) (known.0 ∙ sym parts.1)

-- the two answers, for every x
pub far : (x : Float) → T (fits binary64 x) → 0x413E_8480_0000_0000 < to_bits binary64 x % 0x8000_0000_0000_0000 → beyond x ≡ true
unfolding beyond
far nan fx l = refl
far (inf s) fx l = refl
far (fin s m e) fx l = finite_far s m e fx l

pub near : (x : Float) → T (fits binary64 x) → to_bits binary64 x % 0x8000_0000_0000_0000 ≤ 0x413E_8480_0000_0000
    → (beyond x ≡ false)
    × (whole_of x ≡ signed (leb 0x8000_0000_0000_0000 (to_bits binary64 x)) (whole_place (to_bits binary64 x % 0x8000_0000_0000_0000)))
unfolding to_bits
near nan fx l = absurd (omega arith)
near (inf true) fx l = absurd (omega arith)
near (inf false) fx l = absurd (omega arith)
near (fin s m e) fx l = (finite_near s m e fx l, finite_whole s m e fx)
