-- Laws of the next number up and down: the patterns case by case, the special values, that no number lies strictly between a number and
-- its next, and what the code that goes by the bits needs.
use mathlib.Core.Bool.{Bool, cond, false, not, true}
use mathlib.Core.Logic.{inr}
use mathlib.Core.Path.{◌∙◌, ◌≡◌, ap, refl, subst, sym}
use Prim.Native.Nat.{◌*◌, ◌+◌, ◌-◌, ◌<◌, ◌^◌, ◌≤◌, suc, zero, zero-le, ℕ}
use native.Mathlib.Decide.{dec_le}
use native.Mathlib.Nat.{add-zero, le-add_right, le_of_eq, le_of_lt, le_refl, le-suc, le_trans, lt_of_le_of_lt, zero-add}
use native.Mathlib.Omega.{arith}
use lib.Arith.{le→nltb}
use lib.Dec.{T, eqb, eqb→eq, ltb, lt→ltb}
use lib.Ieee.{Float, Format, emax, fin, fits, hid, inf, is_nan, low, nan, nan_bits, of_bits, ones, prec, to_bits, top}
use lib.Ieee.Bits.{is_false, is_true, nan_bits_is, to_bits-of_bits}
use lib.Ieee.Fits.{eq→eqb, two}
use lib.Ieee.Scale.{finite}
use lib.IntN.{neg_ℤ, pos}
use lib.Pow.{pow_mono, pow_pos}
use Rattle.fraction.specs.Integer.{◌≤z◌, parts_neg, signed}
use Rattle.fraction.specs.Magnitude.{magnitude}
use Rattle.fraction.specs.NextNumber.{down_bits, next_down, next_up, up_bits}
use Rattle.fraction.specs.Rational.{◌<q◌}
use Rattle.fraction.specs.Value.{BoundsAbove, BoundsBelow, fraction, value}
use Rattle.fraction.proofs.Encoding.{bits_not_nan, finite_below_sign, hidden_pos, of_bits_infinity, of_bits_value, to_bits_value}
use Rattle.fraction.proofs.Magnitude.{magnitude_at}
use Rattle.fraction.proofs.Value.{Encoded, bounds_above_of, bounds_below_of, encoded, finite_not_nan, fraction_same_le, magnitudes_order, places_order, value_is}

ne→neqb : (a b : ℕ) → (a ≡ b → ⊥) → T (not (eqb a b))
ne→neqb a b n = go (eqb a b) (eqb→eq a b)
  where
    go : (t : Bool) → (T t → a ≡ b) → T (not t)
    go true e = absurd (n (e tt))
    go false e = tt

pub suc_one : (t : ℕ) → suc t ≡ t + 1
suc_one t = omega arith

prev_le : (i : ℕ) → i - 1 ≤ i
prev_le i = omega arith

pub prev_lt : (i : ℕ) → 0 < i → i - 1 < i
prev_lt i l = omega arith

suc_prev : (i : ℕ) → 0 < i → i ≡ suc (i - 1)
suc_prev i l = omega arith

module _ (f : Format) where
  -- +∞'s pattern is below -0's
  infinity_below_sign : ones f * hid f < top f
  infinity_below_sign = go (hid f) (ones f) (hidden_pos f)
    where
      go : (h o : ℕ) → 0 < h → o * h < h * suc o
      go h o l = omega arith

  pub infinity_positive : 0 < ones f * hid f
  infinity_positive = go (hid f) (emax f) (hidden_pos f)
    where
      go : (h e : ℕ) → 0 < h → 0 < (2 * e + 1) * h
      go h e l = omega arith

  -- ---- the patterns, in the forms of the tests that the code makes
  -- a positive number, or +0
  pub up_when_positive : (b : ℕ) → b < ones f * hid f → up_bits f b ≡ b + 1
  up_when_positive b l = ap (λ (x : Bool). cond x (suc b) (cond (ltb b (top f)) b (cond (eqb b (top f)) 1 (b - 1))))
      (is_true (ltb b (ones f * hid f)) (lt→ltb b (ones f * hid f) l)) ∙ suc_one b

  -- +∞
  pub up_when_infinity : (b : ℕ) → ones f * hid f ≤ b → b < top f → up_bits f b ≡ b
  up_when_infinity b l g =
      ap (λ (x : Bool). cond x (suc b) (cond (ltb b (top f)) b (cond (eqb b (top f)) 1 (b - 1))))
      (is_false (ltb b (ones f * hid f)) (le→nltb b (ones f * hid f) l))
      ∙ ap (λ (x : Bool). cond x b (cond (eqb b (top f)) 1 (b - 1))) (is_true (ltb b (top f)) (lt→ltb b (top f) g))

  up_high : (b : ℕ) → top f ≤ b → up_bits f b ≡ cond (eqb b (top f)) 1 (b - 1)
  up_high b l =
      ap (λ (x : Bool). cond x (suc b) (cond (ltb b (top f)) b (cond (eqb b (top f)) 1 (b - 1))))
      (is_false (ltb b (ones f * hid f)) (le→nltb b (ones f * hid f) (le_trans (le_of_lt infinity_below_sign) l)))
      ∙ ap (λ (x : Bool). cond x b (cond (eqb b (top f)) 1 (b - 1))) (is_false (ltb b (top f)) (le→nltb b (top f) l))

  -- -0
  pub up_when_minus_zero : (b : ℕ) → b ≡ top f → up_bits f b ≡ 1
  up_when_minus_zero b e = up_high b (le_of_eq (sym e)) ∙ ap (λ (x : Bool). cond x 1 (b - 1)) (is_true (eqb b (top f)) (eq→eqb e))

  -- a negative number, or -∞
  pub up_when_negative : (b : ℕ) → top f ≤ b → (b ≡ top f → ⊥) → up_bits f b ≡ b - 1
  up_when_negative b l n = up_high b l ∙ ap (λ (x : Bool). cond x 1 (b - 1)) (is_false (eqb b (top f)) (ne→neqb b (top f) n))

  -- +0
  pub down_when_plus_zero : (b : ℕ) → b ≡ 0 → down_bits f b ≡ suc (top f)
  down_when_plus_zero b e = ap (λ (x : Bool). cond x (suc (top f)) (cond (ltb b (top f)) (b - 1)
      (cond (ltb b (top f + ones f * hid f)) (suc b) b))) (is_true (eqb b 0) (eq→eqb e))

  -- a positive number, or +∞
  pub down_when_positive : (b : ℕ) → (b ≡ 0 → ⊥) → b < top f → down_bits f b ≡ b - 1
  down_when_positive b n l =
      ap (λ (x : Bool). cond x (suc (top f)) (cond (ltb b (top f)) (b - 1) (cond (ltb b (top f + ones f * hid f)) (suc b) b)))
      (is_false (eqb b 0) (ne→neqb b 0 n))
      ∙ ap (λ (x : Bool). cond x (b - 1) (cond (ltb b (top f + ones f * hid f)) (suc b) b)) (is_true (ltb b (top f)) (lt→ltb b (top f) l))

  down_high : (b : ℕ) → top f ≤ b → down_bits f b ≡ cond (ltb b (top f + ones f * hid f)) (suc b) b
  down_high b l =
      ap (λ (x : Bool). cond x (suc (top f)) (cond (ltb b (top f)) (b - 1) (cond (ltb b (top f + ones f * hid f)) (suc b) b)))
      (is_false (eqb b 0) (ne→neqb b 0 (never (top f) l (lt_of_le_of_lt zero-le infinity_below_sign))))
      ∙ ap (λ (x : Bool). cond x (b - 1) (cond (ltb b (top f + ones f * hid f)) (suc b) b)) (is_false (ltb b (top f)) (le→nltb b (top f) l))
    where
      never : (t : ℕ) → t ≤ b → 0 < t → b ≡ 0 → ⊥
      never t l p e = omega arith

  -- -0, or a negative number
  pub down_when_negative : (b : ℕ) → top f ≤ b → b < top f + ones f * hid f → down_bits f b ≡ b + 1
  down_when_negative b l g = down_high b l ∙ ap (λ (x : Bool). cond x (suc b) b) (is_true (ltb b (top f + ones f * hid f))
      (lt→ltb b (top f + ones f * hid f) g)) ∙ suc_one b

  -- -∞
  pub down_when_infinity : (b : ℕ) → top f + ones f * hid f ≤ b → down_bits f b ≡ b
  down_when_infinity b l =
      down_high b (le_trans (le-add_right (top f) (ones f * hid f)) l)
      ∙ ap (λ (x : Bool). cond x (suc b) b) (is_false (ltb b (top f + ones f * hid f)) (le→nltb b (top f + ones f * hid f) l))

  -- ---- the same by sign and place
  pub up_positive : (b : ℕ) → b < ones f * hid f → up_bits f b ≡ suc b
  up_positive b l = up_when_positive b l ∙ sym (suc_one b)

  -- one place up from a negative number
  pub up_negative : (b : ℕ) → up_bits f (top f + suc b) ≡ top f + b
  up_negative b = up_when_negative (top f + suc b) (le-add_right (top f) (suc b)) (never (top f)) ∙ back (top f)
    where
      never : (t : ℕ) → t + suc b ≡ t → ⊥
      never t e = omega arith

      back : (t : ℕ) → t + suc b - 1 ≡ t + b
      back t = omega arith

  -- one place down from a positive number
  pub down_positive : (b : ℕ) → suc b < top f → down_bits f (suc b) ≡ b
  down_positive b l = down_when_positive (suc b) never l ∙ back
    where
      never : suc b ≡ 0 → ⊥
      never e = omega arith

      back : suc b - 1 ≡ b
      back = omega arith

  -- one place down from a negative number
  pub down_negative : (b : ℕ) → b < ones f * hid f → down_bits f (top f + b) ≡ top f + suc b
  down_negative b l = down_when_negative (top f + b) (le-add_right (top f) b) (more (top f) (ones f * hid f) l) ∙ next (top f)
    where
      more : (t i : ℕ) → b < i → t + b < t + i
      more t i l = omega arith

      next : (t : ℕ) → t + b + 1 ≡ t + suc b
      next t = omega arith

  -- ---- from the float
  -- of a number that is no NaN the next is read from the bits
  pub next_up_bits : (x : Float) → is_nan x ≡ false → next_up f x ≡ of_bits f (up_bits f (to_bits f x))
  unfolding next_up
  next_up_bits x h = ap (λ (b : Bool). cond b nan (of_bits f (up_bits f (to_bits f x)))) h

  pub next_down_bits : (x : Float) → is_nan x ≡ false → next_down f x ≡ of_bits f (down_bits f (to_bits f x))
  unfolding next_down
  next_down_bits x h = ap (λ (b : Bool). cond b nan (of_bits f (down_bits f (to_bits f x)))) h

  not_nan : (x : Float) → T (finite x) → is_nan x ≡ false
  not_nan x F = is_false (is_nan x) (finite_not_nan x F)

  -- of a finite number
  pub next_up_finite : (x : Float) → T (finite x) → next_up f x ≡ of_bits f (up_bits f (to_bits f x))
  next_up_finite x F = next_up_bits x (not_nan x F)

  pub next_down_finite : (x : Float) → T (finite x) → next_down f x ≡ of_bits f (down_bits f (to_bits f x))
  next_down_finite x F = next_down_bits x (not_nan x F)

  -- ---- the special values
  pub next_up_nan : next_up f nan ≡ nan
  unfolding next_up is_nan
  next_up_nan = refl

  pub next_down_nan : next_down f nan ≡ nan
  unfolding next_down is_nan
  next_down_nan = refl

  -- +∞ stays, upward; and so -∞, downward
  pub next_up_infinity : next_up f (inf false) ≡ inf false
  unfolding is_nan to_bits
  next_up_infinity =
      next_up_bits (inf false) refl
      ∙ ap (of_bits f) (ap (up_bits f) (zero-add (ones f * hid f)) ∙ up_when_infinity (ones f * hid f) (le_refl (ones f * hid f))
      infinity_below_sign ∙ sym (zero-add (ones f * hid f)))
      ∙ of_bits_infinity f false

  pub next_down_infinity : next_down f (inf true) ≡ inf true
  unfolding is_nan to_bits
  next_down_infinity = next_down_bits (inf true) refl ∙ ap (of_bits f) (down_when_infinity (top f + ones f * hid f)
      (le_refl (top f + ones f * hid f))) ∙ of_bits_infinity f true

  -- -∞ goes up to the lowest number; and so +∞ down to the largest: their patterns are one less than the infinity's
  pub next_up_minus_infinity : next_up f (inf true) ≡ of_bits f (top f + (ones f * hid f - 1))
  unfolding is_nan to_bits
  next_up_minus_infinity =
      next_up_bits (inf true) refl
      ∙ ap (of_bits f) (ap (λ (z : ℕ). up_bits f (top f + z)) (suc_prev (ones f * hid f) infinity_positive)
      ∙ up_negative (ones f * hid f - 1))

  pub next_down_plus_infinity : next_down f (inf false) ≡ of_bits f (ones f * hid f - 1)
  unfolding is_nan to_bits
  next_down_plus_infinity =
      next_down_bits (inf false) refl
      ∙ ap (of_bits f) (ap (down_bits f) (zero-add (ones f * hid f)) ∙ down_when_positive (ones f * hid f)
      (never (hid f) (emax f) (hidden_pos f)) infinity_below_sign)
    where
      never : (h e : ℕ) → 0 < h → (2 * e + 1) * h ≡ 0 → ⊥
      never h e l x = omega arith

  -- a pattern that is no NaN's: the next number of what it stands for
  pub next_up_pattern : (b : ℕ) → b < 2 * top f → nan_bits f b ≡ false → next_up f (of_bits f b) ≡ of_bits f (up_bits f b)
  next_up_pattern b l n =
      let h : is_nan (of_bits f b) ≡ false = sym (nan_bits_is f b) ∙ n in
      next_up_bits (of_bits f b) h ∙ ap (λ (z : ℕ). of_bits f (up_bits f z)) (to_bits-of_bits f b l (subst (λ (x : Bool). T (not x)) (sym h) tt))

  pub next_down_pattern : (b : ℕ) → b < 2 * top f → nan_bits f b ≡ false → next_down f (of_bits f b) ≡ of_bits f (down_bits f b)
  next_down_pattern b l n =
      let h : is_nan (of_bits f b) ≡ false = sym (nan_bits_is f b) ∙ n in
      next_down_bits (of_bits f b) h ∙ ap (λ (z : ℕ). of_bits f (down_bits f z))
      (to_bits-of_bits f b l (subst (λ (x : Bool). T (not x)) (sym h) tt))

  -- the largest number goes up to +∞, and the lowest down to -∞
  pub next_up_largest : next_up f (of_bits f (ones f * hid f - 1)) ≡ inf false
  next_up_largest =
      next_up_pattern (ones f * hid f - 1) (room (top f) (ones f * hid f) infinity_below_sign)
      (ap (nan_bits f) (sym (zero-add (ones f * hid f - 1))) ∙ bits_not_nan f false (ones f * hid f - 1) (prev_le (ones f * hid f)))
      ∙ ap (of_bits f) (up_positive (ones f * hid f - 1) (prev_lt (ones f * hid f) infinity_positive)
      ∙ sym (suc_prev (ones f * hid f) infinity_positive) ∙ sym (zero-add (ones f * hid f)))
      ∙ of_bits_infinity f false
    where
      room : (t i : ℕ) → i < t → i - 1 < 2 * t
      room t i l = omega arith

  pub next_down_lowest : next_down f (of_bits f (top f + (ones f * hid f - 1))) ≡ inf true
  next_down_lowest =
      next_down_pattern (top f + (ones f * hid f - 1)) (room (top f) (ones f * hid f) infinity_below_sign)
      (bits_not_nan f true (ones f * hid f - 1) (prev_le (ones f * hid f)))
      ∙ ap (of_bits f) (down_negative (ones f * hid f - 1) (prev_lt (ones f * hid f) infinity_positive)
      ∙ ap (λ (z : ℕ). top f + z) (sym (suc_prev (ones f * hid f) infinity_positive)))
      ∙ of_bits_infinity f true
    where
      room : (t i : ℕ) → i < t → t + (i - 1) < 2 * t
      room t i l = omega arith

  zero_bits : (s : Bool) → to_bits f (fin s 0 (pos 0)) ≡ cond s (top f) 0
  zero_bits s = to_bits_value f (fin s 0 (pos 0)) s 0 0 (refl, none (2 ^ low f)) (inr refl) zero-le ∙ plain (cond s (top f) 0) (hid f)
    where
      none : (c : ℕ) → 0 * 2 ^ 0 * c ≡ 0 * 2 ^ 0 * 1
      none c = omega arith

      plain : (t h : ℕ) → t + (0 * h + 0) ≡ t
      plain t h = omega arith

  -- a zero of either sign goes to the smallest number above 0, or below 0: 2 ^ -1074 for an f64 (`smallest`)
  pub next_up_zero : (s : Bool) → next_up f (fin s 0 (pos 0)) ≡ of_bits f 1
  next_up_zero s = next_up_finite (fin s 0 (pos 0)) tt ∙ ap (λ (z : ℕ). of_bits f (up_bits f z)) (zero_bits s) ∙ ap (of_bits f) (go s)
    where
      go : (s : Bool) → up_bits f (cond s (top f) 0) ≡ 1
      go false = up_positive 0 infinity_positive
      go true = up_when_minus_zero (top f) refl

  pub next_down_zero : (s : Bool) → next_down f (fin s 0 (pos 0)) ≡ of_bits f (top f + 1)
  next_down_zero s = next_down_finite (fin s 0 (pos 0)) tt ∙ ap (λ (z : ℕ). of_bits f (down_bits f z)) (zero_bits s) ∙ ap (of_bits f) (go s)
    where
      go : (s : Bool) → down_bits f (cond s (top f) 0) ≡ top f + 1
      go false = down_when_plus_zero 0 refl ∙ suc_one (top f)
      go true = ap (down_bits f) (sym (add-zero (top f))) ∙ down_negative 0 infinity_positive

  -- the patterns 1 and top f + 1 stand for 1 and -1 of the format's smallest unit
  pub smallest : (s : Bool) → value (of_bits f (cond s (top f) 0 + 1)) ≡ fraction (signed s 1) (2 ^ low f) (pow_pos (low f))
  smallest s =
      value_is (of_bits f (cond s (top f) 0 + 1)) s (magnitude (hid f) 1) (2 ^ low f) (pow_pos (low f))
      (of_bits_value f s 1 (more (hid f) (emax f) hidden_two))
      ∙ ap (λ (z : ℕ). fraction (signed s z) (2 ^ low f) (pow_pos (low f))) (ap (magnitude (hid f)) (plain (hid f)) ∙ magnitude_at (hid f) 1
      0 (hidden_pos f) (inr refl) (le_trans (hidden_pos f) (twofold (hid f))))
    where
      hidden_two : 2 ≤ hid f
      hidden_two = pow_mono {i = 1} (digits (prec f) (two f))
        where
          digits : (p : ℕ) → 2 ≤ p → 1 ≤ p - 1
          digits p l = omega arith

      more : (h e : ℕ) → 2 ≤ h → 1 < (2 * e + 1) * h
      more h e l = omega arith

      plain : (h : ℕ) → 1 ≡ 0 * h + 1
      plain h = omega arith

      twofold : (h : ℕ) → h ≤ 2 * h
      twofold h = omega arith

  -- ---- what code that goes by the bits needs
  -- the pattern of the next number is no NaN's
  pub up_not_nan : (x : Float) → T (fits f x) → T (not (is_nan x)) → nan_bits f (up_bits f (to_bits f x)) ≡ false
  unfolding is_nan to_bits
  up_not_nan nan fx n = absurd n
  up_not_nan (inf false) fx n =
      ap (λ (z : ℕ). nan_bits f (up_bits f z)) (zero-add (ones f * hid f))
      ∙ ap (nan_bits f) (up_when_infinity (ones f * hid f) (le_refl (ones f * hid f)) infinity_below_sign ∙ sym (zero-add (ones f * hid f)))
      ∙ bits_not_nan f false (ones f * hid f) (le_refl (ones f * hid f))
  up_not_nan (inf true) fx n =
      ap (nan_bits f) (ap (λ (z : ℕ). up_bits f (top f + z)) (suc_prev (ones f * hid f) infinity_positive) ∙ up_negative (ones f * hid f - 1))
      ∙ bits_not_nan f true (ones f * hid f - 1) (prev_le (ones f * hid f))
  up_not_nan (fin s m e) fx n = go S.sign S.place S.bits S.below_infinity
    where
      S : Encoded f (fin s m e)
      S = encoded f (fin s m e) fx tt

      go : (s' : Bool) (p : ℕ) → to_bits f (fin s m e) ≡ cond s' (top f) 0 + p → p < ones f * hid f
          → nan_bits f (up_bits f (to_bits f (fin s m e))) ≡ false
      go false p e l = ap (nan_bits f) (ap (up_bits f) (e ∙ zero-add p) ∙ up_positive p l ∙ sym (zero-add (suc p)))
          ∙ bits_not_nan f false (suc p) l
      go true zero e l = ap (nan_bits f) (ap (up_bits f) (e ∙ add-zero (top f)) ∙ up_when_minus_zero (top f) refl) ∙ bits_not_nan f false 1 l
      go true (suc b) e l = ap (nan_bits f) (ap (up_bits f) e ∙ up_negative b) ∙ bits_not_nan f true b (le_trans (le-suc b) (le_of_lt l))

  pub down_not_nan : (x : Float) → T (fits f x) → T (not (is_nan x)) → nan_bits f (down_bits f (to_bits f x)) ≡ false
  unfolding is_nan to_bits
  down_not_nan nan fx n = absurd n
  down_not_nan (inf true) fx n =
      ap (nan_bits f) (down_when_infinity (top f + ones f * hid f) (le_refl (top f + ones f * hid f)))
      ∙ bits_not_nan f true (ones f * hid f) (le_refl (ones f * hid f))
  down_not_nan (inf false) fx n =
      ap (λ (z : ℕ). nan_bits f (down_bits f z)) (zero-add (ones f * hid f) ∙ suc_prev (ones f * hid f) infinity_positive)
      ∙ ap (nan_bits f) (down_positive (ones f * hid f - 1) (subst (λ (z : ℕ). z < top f) (suc_prev (ones f * hid f) infinity_positive)
      infinity_below_sign) ∙ sym (zero-add (ones f * hid f - 1)))
      ∙ bits_not_nan f false (ones f * hid f - 1) (prev_le (ones f * hid f))
  down_not_nan (fin s m e) fx n = go S.sign S.place S.bits S.below_infinity
    where
      S : Encoded f (fin s m e)
      S = encoded f (fin s m e) fx tt

      go : (s' : Bool) (p : ℕ) → to_bits f (fin s m e) ≡ cond s' (top f) 0 + p → p < ones f * hid f
          → nan_bits f (down_bits f (to_bits f (fin s m e))) ≡ false
      go true p e l = ap (nan_bits f) (ap (down_bits f) e ∙ down_negative p l) ∙ bits_not_nan f true (suc p) l
      go false zero e l = ap (nan_bits f) (ap (down_bits f) e ∙ down_when_plus_zero 0 refl ∙ suc_one (top f)) ∙ bits_not_nan f true 1 l
      go false (suc b) e l = ap (nan_bits f) (ap (down_bits f) (e ∙ zero-add (suc b)) ∙ down_positive b (finite_below_sign f l)
          ∙ sym (zero-add b)) ∙ bits_not_nan f false b (le_trans (le-suc b) (le_of_lt l))

  -- one can be added to the pattern of a finite number
  pub bits_room : (x : Float) → T (fits f x) → T (finite x) → to_bits f x + 1 < 2 * top f
  bits_room x fx F = go S.sign S.place (hid f) (ones f) S.bits S.below_infinity (hidden_pos f)
    where
      S : Encoded f x
      S = encoded f x fx F

      go : (s : Bool) (p h o : ℕ) → to_bits f x ≡ cond s (h * suc o) 0 + p → p < o * h → 0 < h → to_bits f x + 1 < 2 * (h * suc o)
      go true p h o e l H = omega arith
      go false p h o e l H = omega arith

  -- ---- no number lies strictly between a number and its next
  -- a number above x is at least the next number up: nothing that fits lies strictly between the two
  pub none_between_up : (x w : Float) → T (fits f x) → T (finite x) → T (fits f w) → T (finite w) → value x <q value w
      → BoundsBelow (next_up f x) (value w)
  none_between_up x w fx F fw G l =
      let X = encoded f x fx F in
      let W = encoded f w fw G in
      rw (next_up_finite x F, X.bits, W.exact) (go X.sign W.sign X.place W.place X.below_infinity W.below_infinity
      (places_order f x w X W l))
    where
      at_place : (s t : Bool) (p q : ℕ) → p < ones f * hid f → signed s p ≤z signed t q
          → BoundsBelow (of_bits f (cond s (top f) 0 + p)) (fraction (signed t (magnitude (hid f) q)) (2 ^ low f) (pow_pos (low f)))
      at_place s t p q i o =
          bounds_below_of (of_bits f (cond s (top f) 0 + p)) s (magnitude (hid f) p) (2 ^ low f) (pow_pos (low f))
          (fraction (signed t (magnitude (hid f) q)) (2 ^ low f) (pow_pos (low f))) (of_bits_value f s p i)
          (fraction_same_le (signed s (magnitude (hid f) p)) (signed t (magnitude (hid f) q)) (2 ^ low f) (pow_pos (low f))
          (magnitudes_order (hid f) (hidden_pos f) s t p q o))

      go : (s t : Bool) (p q : ℕ) → p < ones f * hid f → q < ones f * hid f → (signed t q ≤z signed s p → ⊥)
          → BoundsBelow (of_bits f (up_bits f (cond s (top f) 0 + p))) (fraction (signed t (magnitude (hid f) q)) (2 ^ low f)
          (pow_pos (low f)))
      go false false p q i j n =
          subst (λ (z : ℕ). BoundsBelow (of_bits f z) (fraction (pos (magnitude (hid f) q)) (2 ^ low f) (pow_pos (low f))))
          (sym (ap (up_bits f) (zero-add p) ∙ up_positive p i ∙ sym (zero-add (suc p))))
          (at_place false false (suc p) q (lt_of_le_of_lt (above n) j) (omega (arith, above n)))
        where
          above : (pos q ≤z pos p → ⊥) → suc p ≤ q
          above n = elim (dec_le (suc p) q) [ yes l ↦ l | no g ↦ absurd (n (omega arith)) ]
      go false true p q i j n = absurd (n (omega (arith, (parts_neg (pos q)).0, (parts_neg (pos q)).1)))
      go true true zero q i j n = absurd (n (omega (arith, (parts_neg (pos q)).0, (parts_neg (pos q)).1)))
      go true false zero q i j n =
          subst (λ (z : ℕ). BoundsBelow (of_bits f z) (fraction (pos (magnitude (hid f) q)) (2 ^ low f) (pow_pos (low f))))
          (sym (ap (up_bits f) (add-zero (top f)) ∙ up_when_minus_zero (top f) refl))
          (at_place false false 1 q (lt_of_le_of_lt (above n) j) (omega (arith, above n)))
        where
          above : (pos q ≤z neg_ℤ (pos 0) → ⊥) → 1 ≤ q
          above n = elim (dec_le 1 q) [ yes l ↦ l | no g ↦ absurd (n (omega arith)) ]
      go true false (suc b) q i j n =
          subst (λ (z : ℕ). BoundsBelow (of_bits f z) (fraction (pos (magnitude (hid f) q)) (2 ^ low f) (pow_pos (low f))))
          (sym (up_negative b))
          (at_place true false b q (le_trans (le-suc (suc b)) i) (omega (arith, (parts_neg (pos b)).0, (parts_neg (pos b)).1)))
      go true true (suc b) q i j n =
          subst (λ (z : ℕ). BoundsBelow (of_bits f z) (fraction (neg_ℤ (pos (magnitude (hid f) q))) (2 ^ low f) (pow_pos (low f))))
          (sym (up_negative b))
          (at_place true true b q (le_trans (le-suc (suc b)) i)
          (omega (arith, within n, (parts_neg (pos b)).0, (parts_neg (pos b)).1, (parts_neg (pos q)).0, (parts_neg (pos q)).1)))
        where
          within : (neg_ℤ (pos q) ≤z neg_ℤ (pos (suc b)) → ⊥) → q ≤ b
          within n = elim (dec_le q b) [
            | yes l ↦ l
            | no g ↦ absurd
                (n (omega (arith, (parts_neg (pos q)).0, (parts_neg (pos q)).1, (parts_neg (pos (suc b))).0, (parts_neg (pos (suc b))).1)))
          ]

  -- a number below x is at most the next number down
  pub none_between_down : (x w : Float) → T (fits f x) → T (finite x) → T (fits f w) → T (finite w) → value w <q value x
      → BoundsAbove (next_down f x) (value w)
  none_between_down x w fx F fw G l =
      let X = encoded f x fx F in
      let W = encoded f w fw G in
      rw (next_down_finite x F, X.bits, W.exact) (go X.sign W.sign X.place W.place X.below_infinity W.below_infinity
      (places_order f w x W X l))
    where
      at_place : (s t : Bool) (p q : ℕ) → p < ones f * hid f → signed t q ≤z signed s p
          → BoundsAbove (of_bits f (cond s (top f) 0 + p)) (fraction (signed t (magnitude (hid f) q)) (2 ^ low f) (pow_pos (low f)))
      at_place s t p q i o =
          bounds_above_of (of_bits f (cond s (top f) 0 + p)) s (magnitude (hid f) p) (2 ^ low f) (pow_pos (low f))
          (fraction (signed t (magnitude (hid f) q)) (2 ^ low f) (pow_pos (low f))) (of_bits_value f s p i)
          (fraction_same_le (signed t (magnitude (hid f) q)) (signed s (magnitude (hid f) p)) (2 ^ low f) (pow_pos (low f))
          (magnitudes_order (hid f) (hidden_pos f) t s q p o))

      go : (s t : Bool) (p q : ℕ) → p < ones f * hid f → q < ones f * hid f → (signed s p ≤z signed t q → ⊥)
          → BoundsAbove (of_bits f (down_bits f (cond s (top f) 0 + p))) (fraction (signed t (magnitude (hid f) q)) (2 ^ low f)
          (pow_pos (low f)))
      go true true p q i j n =
          subst (λ (z : ℕ). BoundsAbove (of_bits f z) (fraction (neg_ℤ (pos (magnitude (hid f) q))) (2 ^ low f) (pow_pos (low f))))
          (sym (down_negative p i))
          (at_place true true (suc p) q (lt_of_le_of_lt (above n) j)
          (omega (arith, above n, (parts_neg (pos q)).0, (parts_neg (pos q)).1, (parts_neg (pos (suc p))).0, (parts_neg (pos (suc p))).1)))
        where
          above : (neg_ℤ (pos p) ≤z neg_ℤ (pos q) → ⊥) → suc p ≤ q
          above n = elim (dec_le (suc p) q) [
            | yes l ↦ l
            | no g ↦ absurd
                (n (omega (arith, (parts_neg (pos p)).0, (parts_neg (pos p)).1, (parts_neg (pos q)).0, (parts_neg (pos q)).1)))
          ]
      go true false p q i j n = absurd (n (omega (arith, (parts_neg (pos p)).0, (parts_neg (pos p)).1)))
      go false false zero q i j n = absurd (n (omega arith))
      go false true zero q i j n =
          subst (λ (z : ℕ). BoundsAbove (of_bits f z) (fraction (neg_ℤ (pos (magnitude (hid f) q))) (2 ^ low f) (pow_pos (low f))))
          (sym (down_when_plus_zero (0 + 0) refl ∙ suc_one (top f)))
          (at_place true true 1 q (lt_of_le_of_lt (above n) j) (omega (arith, above n, (parts_neg (pos q)).0, (parts_neg (pos q)).1)))
        where
          above : (pos 0 ≤z neg_ℤ (pos q) → ⊥) → 1 ≤ q
          above n = elim (dec_le 1 q) [ yes l ↦ l | no g ↦ absurd (n (omega (arith, (parts_neg (pos q)).0, (parts_neg (pos q)).1))) ]
      go false true (suc b) q i j n =
          subst (λ (z : ℕ). BoundsAbove (of_bits f z) (fraction (neg_ℤ (pos (magnitude (hid f) q))) (2 ^ low f) (pow_pos (low f))))
          (sym (ap (down_bits f) (zero-add (suc b)) ∙ down_positive b (finite_below_sign f i) ∙ sym (zero-add b)))
          (at_place false true b q (le_trans (le-suc (suc b)) i) (omega (arith, (parts_neg (pos q)).0, (parts_neg (pos q)).1)))
      go false false (suc b) q i j n =
          subst (λ (z : ℕ). BoundsAbove (of_bits f z) (fraction (pos (magnitude (hid f) q)) (2 ^ low f) (pow_pos (low f))))
          (sym (ap (down_bits f) (zero-add (suc b)) ∙ down_positive b (finite_below_sign f i) ∙ sym (zero-add b)))
          (at_place false false b q (le_trans (le-suc (suc b)) i) (omega (arith, within n)))
        where
          within : (pos (suc b) ≤z pos q → ⊥) → q ≤ b
          within n = elim (dec_le q b) [ yes l ↦ l | no g ↦ absurd (n (omega arith)) ]
