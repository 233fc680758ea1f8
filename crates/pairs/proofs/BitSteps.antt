-- The next number as one step of the bits: the step's sum is the next pattern, and what a test against an infinity tells of the bits.
use mathlib.Core.Bool.{Bool, cond, false, true, true≢false}
use mathlib.Core.Logic.{◌⊎◌, inl, inr}
use mathlib.Core.Path.{◌∙◌, ◌≡◌, ap, refl, sym}
use Prim.Native.Nat.{◌+◌, ◌-◌, ◌*◌, ◌/◌, ◌^◌, ◌<◌, ◌≤◌, ℕ}
use native.Mathlib.Decide.{dec_lt}
use native.Mathlib.Omega.{arith}
use lib.Dec.{T}
use lib.Ieee.{Float, binary64, div, fin, fits, inf, is_nan, lt, nan, neg, of_bits, to_bits}
use Rattle.fraction.specs.NextNumber.{down_bits, next_down, up_bits}
use Rattle.fraction.proofs.NextNumber.{down_when_negative, down_when_plus_zero, down_when_positive, next_down_infinity, next_down_nan}
use Rattle.fraction.proofs.NextNumber.{up_when_minus_zero, up_when_negative, up_when_positive}
use Rattle.fraction.proofs.Value.{Encoded, encoded}

-- z is b, but t for f
abbrev pub Put : ℕ → ℕ → ℕ → ℕ → Type 0
Put b f t z = (b ≡ f → z ≡ t) × ((b ≡ f → ⊥) → z ≡ b)

-- ---- the step down
pub down_room : (b z : ℕ) → Put b 0 0x8000_0000_0000_0000 z → b < 0xfff0_0000_0000_0000 → (1 ≤ z) × (z < 0xfff0_0000_0000_0000)
down_room b z p l = elim (dec_lt 0 b) [
  | yes g ↦ let e : z ≡ b = p.1 (λ h. omega arith) in (omega arith, omega arith)
  | no n ↦ let e : z ≡ 0x8000_0000_0000_0000 = p.0 (omega arith) in (omega arith, omega arith)
]

pub down_step : (b z : ℕ) → Put b 0 0x8000_0000_0000_0000 z → b < 0xfff0_0000_0000_0000 → z + 2 * (z / 2 ^ 63) - 1 ≡ down_bits binary64 b
down_step b z p l = elim (dec_lt 0 b) [
  | yes g ↦ let n : b ≡ 0 → ⊥ = λ h. omega arith in
      let e : z ≡ b = p.1 n in
      elim (dec_lt b 0x8000_0000_0000_0000) [
        | yes h ↦ let s : z + 2 * (z / 2 ^ 63) - 1 ≡ b - 1 = omega arith in s ∙ sym (down_when_positive binary64 b n h)
        | no h ↦ let s : z + 2 * (z / 2 ^ 63) - 1 ≡ b + 1 = omega arith in
            let m : 0x8000_0000_0000_0000 ≤ b = omega arith in
            s ∙ sym (down_when_negative binary64 b m l)
      ]
  | no n ↦ let o : b ≡ 0 = omega arith in
      let e : z ≡ 0x8000_0000_0000_0000 = p.0 o in
      let s : z + 2 * (z / 2 ^ 63) - 1 ≡ 0x8000_0000_0000_0001 = omega arith in
      s ∙ sym (down_when_plus_zero binary64 b o)
]

-- ---- the step up
-- the patterns that have one above them
abbrev pub Below : ℕ → Type 0
Below b = ((b < 0x7ff0_0000_0000_0000) ⊎ (0x8000_0000_0000_0000 ≤ b)) × (b ≤ 0xfff0_0000_0000_0000)

pub up_room : (b z : ℕ) → Put b 0x8000_0000_0000_0000 0 z → Below b → (z ≤ 0xfff0_0000_0000_0000) × (2 * (z / 2 ^ 63) ≤ z + 1)
up_room b z p l = elim (dec_lt 0x8000_0000_0000_0000 b) [
  | yes g ↦ let k = l.1 in let e : z ≡ b = p.1 (λ h. omega arith) in (omega arith, omega arith)
  | no n ↦ elim (dec_lt b 0x8000_0000_0000_0000) [
    | yes g ↦ let e : z ≡ b = p.1 (λ h. omega arith) in (omega arith, omega arith)
    | no m ↦ let e : z ≡ 0 = p.0 (omega arith) in (omega arith, omega arith)
  ]
]

pub up_step : (b z : ℕ) → Put b 0x8000_0000_0000_0000 0 z → Below b → z + 1 - 2 * (z / 2 ^ 63) ≡ up_bits binary64 b
up_step b z p l = elim (dec_lt 0x8000_0000_0000_0000 b) [
  | yes g ↦ let k = l.1 in
      let n : b ≡ 0x8000_0000_0000_0000 → ⊥ = λ h. omega arith in
      let e : z ≡ b = p.1 n in
      let s : z + 1 - 2 * (z / 2 ^ 63) ≡ b - 1 = omega arith in
      let m : 0x8000_0000_0000_0000 ≤ b = omega arith in
      s ∙ sym (up_when_negative binary64 b m n)
  | no n ↦ elim (dec_lt b 0x8000_0000_0000_0000) [
    | yes g ↦ let e : z ≡ b = p.1 (λ h. omega arith) in
        let s : z + 1 - 2 * (z / 2 ^ 63) ≡ b + 1 = omega arith in
        s ∙ sym (up_when_positive binary64 b (low l.0 g))
    | no m ↦ let o : b ≡ 0x8000_0000_0000_0000 = omega arith in
        let e : z ≡ 0 = p.0 o in
        let s : z + 1 - 2 * (z / 2 ^ 63) ≡ 1 = omega arith in
        s ∙ sym (up_when_minus_zero binary64 b o)
  ]
]
  where
    low : (b < 0x7ff0_0000_0000_0000) ⊎ (0x8000_0000_0000_0000 ≤ b) → b < 0x8000_0000_0000_0000 → b < 0x7ff0_0000_0000_0000
    low (inl h) g = h
    low (inr h) g = absurd (omega arith)

-- ---- the tests against an infinity
-- the code's -1/0
abbrev pub minus_infinity : Float
minus_infinity = div binary64 (neg (of_bits binary64 0x3ff0_0000_0000_0000)) (of_bits binary64 0)

pub minus_infinity_is : minus_infinity ≡ inf true
unfolding div neg of_bits
minus_infinity_is = refl

pub above_infinity : (x : Float) → lt minus_infinity x ≡ true → lt (inf true) x ≡ true
above_infinity x h = ap (λ (z : Float). lt z x) (sym minus_infinity_is) ∙ h

-- x is above -∞
module _ (x : Float) (above : lt (inf true) x ≡ true) where
  pub above_number : is_nan x ≡ false
  unfolding is_nan lt
  above_number = go x above
    where
      go : (x : Float) → lt (inf true) x ≡ true → is_nan x ≡ false
      go nan h = absurd (true≢false (sym h))
      go (inf s) h = refl
      go (fin s m e) h = refl

  pub above_bits : T (fits binary64 x) → to_bits binary64 x < 0xfff0_0000_0000_0000
  unfolding lt to_bits
  above_bits F = go x F above
    where
      go : (x : Float) → T (fits binary64 x) → lt (inf true) x ≡ true → to_bits binary64 x < 0xfff0_0000_0000_0000
      go nan F h = absurd (true≢false (sym h))
      go (inf true) F h = absurd (true≢false (sym h))
      go (inf false) F h = omega arith
      go (fin s m e) F h = by S.sign S.place S.bits S.below_infinity
        where
          S : Encoded binary64 (fin s m e)
          S = encoded binary64 (fin s m e) F tt

          by : (t : Bool) (p : ℕ) → to_bits binary64 (fin s m e) ≡ cond t 0x8000_0000_0000_0000 0 + p → p < 0x7ff0_0000_0000_0000
              → to_bits binary64 (fin s m e) < 0xfff0_0000_0000_0000
          by true p e l = omega arith
          by false p e l = omega arith

-- x is not
pub not_above : (x : Float) → lt minus_infinity x ≡ false → x ≡ next_down binary64 x
unfolding lt
not_above x h = go x (ap (λ (z : Float). lt z x) (sym minus_infinity_is) ∙ h)
  where
    go : (x : Float) → lt (inf true) x ≡ false → x ≡ next_down binary64 x
    go nan h = sym (next_down_nan binary64)
    go (inf true) h = sym (next_down_infinity binary64)
    go (inf false) h = absurd (true≢false h)
    go (fin s m e) h = absurd (true≢false h)

-- x is below +∞
module _ (x : Float) (below : lt x (inf false) ≡ true) where
  pub below_number : is_nan x ≡ false
  unfolding is_nan lt
  below_number = go x below
    where
      go : (x : Float) → lt x (inf false) ≡ true → is_nan x ≡ false
      go nan h = absurd (true≢false (sym h))
      go (inf s) h = refl
      go (fin s m e) h = refl

  pub below_bits : T (fits binary64 x) → Below (to_bits binary64 x)
  unfolding lt to_bits
  below_bits F = go x F below
    where
      go : (x : Float) → T (fits binary64 x) → lt x (inf false) ≡ true → Below (to_bits binary64 x)
      go nan F h = absurd (true≢false (sym h))
      go (inf false) F h = absurd (true≢false (sym h))
      go (inf true) F h = (inr (omega arith), omega arith)
      go (fin s m e) F h = by S.sign S.place S.bits S.below_infinity
        where
          S : Encoded binary64 (fin s m e)
          S = encoded binary64 (fin s m e) F tt

          by : (t : Bool) (p : ℕ) → to_bits binary64 (fin s m e) ≡ cond t 0x8000_0000_0000_0000 0 + p → p < 0x7ff0_0000_0000_0000
              → Below (to_bits binary64 (fin s m e))
          by true p e l = (inr (omega arith), omega arith)
          by false p e l = (inl (omega arith), omega arith)
