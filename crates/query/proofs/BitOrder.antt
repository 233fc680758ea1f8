-- Numbers that are not below 0 are in the order of their bits.
use mathlib.Core.Logic.{inr}
use mathlib.Core.Path.{◌≡◌, refl, sym, ◌∙◌, subst}
use mathlib.Core.Bool.{Bool, true, false, ◌||◌, cond}
use Prim.Native.Nat.{ℕ, zero, suc, ◌+◌, ◌*◌, ◌^◌, ◌≤◌, ◌<◌}
use native.Mathlib.Nat.{zero-add, mul-le-mul_right, le_of_mul-le-mul_right}
use native.Mathlib.Omega.{arith}
use lib.Dec.{T, eqb, lt→ltb}
use borrow.Author.Tests.{eqb-true, ltb-true}
use lib.Pow.{pow_pos}
use lib.IntN.{ℤ, pos}
use lib.Ieee.{Float, nan, inf, fin, Format, binary64, low, up, down, hid, ones, top, fits, is_nan, to_bits, of_bits, lt, le, eq}
use lib.Ieee.Bits.{of_bits-to_bits, to_bits-lt, is_true}
use lib.Ieee.Fits.{up_pos}
use lib.Ieee.Exact.{HasValue}
use lib.Ieee.Order.{le_of_values}
use lib.Ieee.Positive.{positive, values_of_le, first_pos}
use Rattle.arith.proofs.Truth.{and_parts, clash}
use Rattle.fraction.specs.Magnitude.{magnitude}
use Rattle.fraction.proofs.Magnitude.{magnitude_mono, magnitude_back}
use Rattle.fraction.proofs.Encoding.{hidden_pos, of_bits_value, to_bits_finite, finite_below_sign}
use Rattle.fraction.proofs.Value.{encoded, plus_zero}
use Rattle.window.specs.Cells.{+0}

-- a number with its sign clear has a pattern below the infinity's
module _ (f : Format) (m : ℕ) (e : ℤ) where
  other_sign : to_bits f (fin true m e) ≡ top f + to_bits f (fin false m e)
  unfolding to_bits
  other_sign = omega arith

  sign_fits : T (fits f (fin false m e)) → T (fits f (fin true m e))
  unfolding fits
  sign_fits h = go m h
    where
      go : (m : ℕ) → T (fits f (fin false m e)) → T (fits f (fin true m e))
      go zero h = h
      go (suc m) h = h

  below_infinity : T (fits f (fin false m e)) → to_bits f (fin false m e) < ones f * hid f
  below_infinity h =
      let E = encoded f (fin false m e) h tt in
      go E.sign E.place E.bits E.below_infinity (to_bits-lt f (fin true m e) (sign_fits h)) other_sign
    where
      go : (s : Bool) (p : ℕ) → to_bits f (fin false m e) ≡ cond s (top f) 0 + p → p < ones f * hid f → to_bits f (fin true m e) < 2 * top f
          → to_bits f (fin true m e) ≡ top f + to_bits f (fin false m e)
          → to_bits f (fin false m e) < ones f * hid f
      go true p b l t o = absurd (omega arith)
      go false p b l t o = omega arith

  -- and the value of that pattern
  own_value : T (fits f (fin false m e)) → HasValue (fin false m e) false (magnitude (hid f) (to_bits f (fin false m e))) (2 ^ low f)
  own_value h =
      subst (λ (x : Float). HasValue x false (magnitude (hid f) (to_bits f (fin false m e))) (2 ^ low f)) (of_bits-to_bits f (fin false m e) h)
      (subst (λ (b : ℕ). HasValue (of_bits f b) false (magnitude (hid f) (to_bits f (fin false m e))) (2 ^ low f))
      (zero-add (to_bits f (fin false m e))) (of_bits_value f false (to_bits f (fin false m e)) (below_infinity h)))

-- what is not below 0: an infinity, a number with its sign clear, or -0
data Clear : Float → Type 0 where
  infinite : Clear (inf false)
  number : (m : ℕ) (e : ℤ) → Clear (fin false m e)
  minus : (e : ℤ) → Clear (fin true zero e)

clear : (v : Float) → le (fin false 0 (pos 0)) v ≡ true → Clear v
unfolding le lt eq
clear nan h = clash h refl
clear (inf true) h = clash h refl
clear (inf false) h = infinite
clear (fin false m e) h = number m e
clear (fin true zero e) h = minus e
clear (fin true (suc m) e) h =
    let p = eqb-true (0 * up (pos 0) * down e) (suc m * up e * down (pos 0))
    (and_parts (eqb (0 * up (pos 0) * down e) (suc m * up e * down (pos 0))) (false || eqb (0 * up (pos 0) * down e) 0) h).0 in
    absurd (omega (arith, p, up_pos e))

-- above 0
data Above : Float → Type 0 where
  infinite : Above (inf false)
  number : (m : ℕ) (e : ℤ) → T (positive (fin false m e)) → Above (fin false m e)

above : (v : Float) → lt (fin false 0 (pos 0)) v ≡ true → Above v
unfolding lt
above nan h = clash h refl
above (inf true) h = clash h refl
above (inf false) h = infinite
above (fin true m e) h = clash h refl
above (fin false m e) h =
    let l = ltb-true (0 * up (pos 0) * down e) (m * up e * down (pos 0)) h in
    number m e (lt→ltb 0 m (first_pos m (up e) (omega (arith, l))))

module _ (f : Format) where
  infinity_bits : to_bits f (inf false) ≡ ones f * hid f
  unfolding to_bits
  infinity_bits = omega arith

  minus_bits : (e : ℤ) → to_bits f (fin true 0 e) ≡ top f
  minus_bits e = to_bits_finite f true 0 e 0 0 (refl, omega arith) (inr refl) (omega arith) ∙ omega arith

  -- a pattern of what is not below 0 is at most -0's
  clear_bits : {v : Float} → Clear v → T (fits f v) → to_bits f v ≤ top f
  unfolding to_bits
  clear_bits infinite h = omega arith
  clear_bits (number m e) h = let l = below_infinity f m e h in omega arith
  clear_bits (minus e) h = omega (arith, minus_bits e)

  -- a pattern at or below that of x is that of a number at or below x
  bits_le : {v x : Float} → Clear v → Above x → T (fits f v) → T (fits f x) → to_bits f v ≤ to_bits f x → le v x ≡ true
  unfolding le lt eq
  bits_le infinite infinite h g l = refl
  bits_le (number m e) infinite h g l = refl
  bits_le (minus e) infinite h g l = refl
  bits_le infinite (number n d p) h g l = absurd (omega (arith, infinity_bits, below_infinity f n d g))
  bits_le (minus e) (number n d p) h g l = absurd (omega (arith, minus_bits e, finite_below_sign f (below_infinity f n d g)))
  bits_le (number m e) (number n d p) h g l =
      is_true (le (fin false m e) (fin false n d))
      (le_of_values (fin false m e) (fin false n d) (magnitude (hid f) (to_bits f (fin false m e))) (2 ^ low f)
      (magnitude (hid f) (to_bits f (fin false n d))) (2 ^ low f) (pow_pos (low f)) (pow_pos (low f))
      (own_value f m e h) (own_value f n d g)
      (mul-le-mul_right (2 ^ low f) (magnitude_mono (hid f) (to_bits f (fin false m e)) (to_bits f (fin false n d)) (hidden_pos f) l)))

  -- a pattern above that of x is that of a number above x
  bits_lt : {v x : Float} → Above v → Above x → T (fits f v) → T (fits f x) → to_bits f x < to_bits f v → le v x ≡ false
  unfolding le lt eq
  bits_lt infinite infinite h g l = absurd (omega arith)
  bits_lt infinite (number n d p) h g l = refl
  bits_lt (number m e p) infinite h g l = absurd (omega (arith, infinity_bits, below_infinity f m e h))
  bits_lt (number m e p) (number n d q) h g l = go (le (fin false m e) (fin false n d)) refl
    where
      go : (b : Bool) → le (fin false m e) (fin false n d) ≡ b → b ≡ false
      go false o = refl
      go true o =
          let c = values_of_le (fin false m e) (fin false n d) (magnitude (hid f) (to_bits f (fin false m e))) (2 ^ low f)
          (magnitude (hid f) (to_bits f (fin false n d))) (2 ^ low f) p q (own_value f m e h) (own_value f n d g) (subst T (sym o) tt) in
          let b = magnitude_back (hid f) (to_bits f (fin false m e)) (to_bits f (fin false n d)) (hidden_pos f)
          (le_of_mul-le-mul_right c (pow_pos (low f))) in
          absurd (omega (arith, b, l))

module _ (v x : Float) (held : T (fits binary64 v)) (holds : T (fits binary64 x)) (positive : lt +0 x ≡ true) where
  x_above : Above x
  x_above = above x (subst (λ (z : Float). lt z x ≡ true) (plus_zero binary64) positive)

  -- a pattern at or below that of x is that of a number at or below x
  pub order_le : le +0 v ≡ true → to_bits binary64 v ≤ to_bits binary64 x → le v x ≡ true
  order_le p l = bits_le binary64 (clear v (subst (λ (z : Float). le z v ≡ true) (plus_zero binary64) p)) x_above held holds l

  -- and one above is that of a number above x
  pub order_lt : lt +0 v ≡ true → to_bits binary64 x < to_bits binary64 v → le v x ≡ false
  order_lt p l = bits_lt binary64 (above v (subst (λ (z : Float). lt z v ≡ true) (plus_zero binary64) p)) x_above held holds l

-- what is not below 0 has a pattern of at most 2 ^ 63, and is no NaN
pub clear_room : (v : Float) → T (fits binary64 v) → le +0 v ≡ true → to_bits binary64 v ≤ 0x8000_0000_0000_0000
clear_room v h p = clear_bits binary64 (clear v (subst (λ (z : Float). le z v ≡ true) (plus_zero binary64) p)) h

clear_number : {v : Float} → Clear v → is_nan v ≡ false
unfolding is_nan
clear_number infinite = refl
clear_number (number m e) = refl
clear_number (minus e) = refl

pub at_least_number : (v : Float) → le +0 v ≡ true → is_nan v ≡ false
at_least_number v p = clear_number (clear v (subst (λ (z : Float). le z v ≡ true) (plus_zero binary64) p))

-- what is above 0 has a pattern below 2 ^ 63
above_bits : {x : Float} → Above x → T (fits binary64 x) → to_bits binary64 x < 0x8000_0000_0000_0000
above_bits infinite h = omega (arith, infinity_bits binary64)
above_bits (number m e p) h = omega (arith, below_infinity binary64 m e h)

pub above_room : (x : Float) → T (fits binary64 x) → lt +0 x ≡ true → to_bits binary64 x < 0x8000_0000_0000_0000
above_room x h p = above_bits (above x (subst (λ (z : Float). lt z x ≡ true) (plus_zero binary64) p)) h
