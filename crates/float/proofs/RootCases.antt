-- The cases of `sqrt`: a finite number above 0 by its bits, and every other value.
use mathlib.Core.Path.{◌≡◌, refl, sym, ap, ◌∙◌, subst}
use mathlib.Core.Bool.{Bool, true, false, not, cond, true≢false}
use Prim.Native.Nat.{ℕ, zero, suc, ◌+◌, ◌-◌, ◌*◌, ◌/◌, ◌^◌, ◌<◌}
use native.Mathlib.Nat.{mul-pos, zero-lt-suc, zero-add, mul-div_cancel, lt_irrefl, zero-mul, div-eq_of_lt}
use native.Mathlib.Omega.{arith}
use lib.Dec.{T, ltb, ltb→lt, lt→ltb}
use lib.IntN.{ℤ, pos}
use lib.Pow.{pow_pos}
use lib.Ieee.{Float, nan, inf, fin, Format, binary64, prec, emax, low, up, down, hid, ones, top, fits, to_bits, of_bits, nan_bits, is_nan, round, units, odd, lt, eq}
use lib.Ieee.Bits.{is_true, of_bits-to_bits, nan_bits_is}
use lib.Ieee.Exact.{HasValue}
use lib.Ieee.Fits.{up_pos, down_pos, round-fits, round_is}
use Rattle.fraction.specs.Magnitude.{magnitude}
use Rattle.fraction.proofs.Encoding.{hidden_pos, of_bits_value}
use Rattle.fraction.proofs.Value.{Encoded, encoded}
use Rattle.float.specs.Root.{root_of, sqrt_of, isqrt, sticky}
use Rattle.float.specs.RootSteps.{root_bits}
use Rattle.float.proofs.Tests.{clash, holds, +0, +∞, zero_is, infinity_is, Zero, is_zero, zero_eq}

-- ---- the bits of a finite number above 0
module _ (f : Format) (m : ℕ) (e : ℤ) (F : T (fits f (fin false (suc m) e))) where
  abbrev x : Float
  x = fin false (suc m) e

  pub record Placed : Type 0 where
    pub some : 0 < to_bits f x
    pub small : to_bits f x < ones f * hid f
    pub exact : suc m * up e * 2 ^ low f ≡ magnitude (hid f) (to_bits f x) * down e

  pub placed : Placed
  placed = go E.sign E.place E.bits E.below_infinity
    where
      E : Encoded f x
      E = encoded f x F tt

      has : (s : Bool) (p : ℕ) → to_bits f x ≡ cond s (top f) 0 + p → p < ones f * hid f → HasValue x s (magnitude (hid f) p) (2 ^ low f)
      has s p h l = subst (λ (y : Float). HasValue y s (magnitude (hid f) p) (2 ^ low f)) (ap (of_bits f) (sym h) ∙ of_bits-to_bits f x F)
          (of_bits_value f s p l)

      none : (h : ℕ) → 0 < h → magnitude h 0 ≡ 0
      none h H = ap (λ (z : ℕ). (0 - (z - 1) * h) * 2 ^ (z - 1)) (div-eq_of_lt H) ∙ omega arith

      at : (p : ℕ) → to_bits f x ≡ p → p < ones f * hid f → suc m * up e * 2 ^ low f ≡ magnitude (hid f) p * down e → Placed
      at zero h l v =
          absurd (lt_irrefl 0 (subst (λ (z : ℕ). 0 < z) (v ∙ ap (λ (z : ℕ). z * down e) (none (hid f) (hidden_pos f)) ∙ zero-mul (down e))
          (mul-pos (mul-pos (zero-lt-suc m) (up_pos e)) (pow_pos (low f)))))
      at (suc p) h l v = record { some = rw h (zero-lt-suc p); small = rw h l; exact = rw h v }

      go : (s : Bool) (p : ℕ) → to_bits f x ≡ cond s (top f) 0 + p → p < ones f * hid f → Placed
      go true p h l = absurd (true≢false (sym (has true p h l).0))
      go false p h l = at p (h ∙ zero-add p) l (has false p h l).1

  pub root_of_bits : root_of f (magnitude (hid f) (to_bits f x)) ≡ sqrt_of f x
  unfolding sqrt_of
  root_of_bits = ap (root_of f) (sym (ap (λ (z : ℕ). z / down e) placed.exact ∙ mul-div_cancel (magnitude (hid f) (to_bits f x)) (down_pos
      e)))

-- ---- the rounded root is no NaN, and its bits read back
round_no_nan : (f : Format) (s : Bool) (a c : ℕ) → is_nan (round f s a c) ≡ false
round_no_nan f s a c = ap is_nan (round_is f s a c) ∙ in_units s _ _
  where
    in_odd : (d : ℕ) (s : Bool) (q k l : ℕ) → is_nan (odd d s q k l) ≡ false
    in_odd d s zero k l = unfold odd is_nan in refl
    in_odd d s (suc q) k l = unfold odd is_nan in refl

    either : (b s : Bool) (q k : ℕ) → is_nan (cond b (odd (suc (prec f)) s q k (low f)) (inf s)) ≡ false
    either true s q k = in_odd (suc (prec f)) s q k (low f)
    either false s q k = unfold is_nan in refl

    in_units : (s : Bool) (q k : ℕ) → is_nan (units f s q k) ≡ false
    in_units s q k = unfold units in either (ltb (q * 2 ^ k) (2 ^ (low f + suc (emax f)))) s q k

pub root_fits : (f : Format) (n : ℕ) → T (fits f (root_of f n))
unfolding root_of
root_fits f n = round-fits f false (2 * isqrt (n * 2 ^ low f) + sticky (isqrt (n * 2 ^ low f)) (n * 2 ^ low f)) (2 * 2 ^ low f)

pub bits_back : (f : Format) (b : ℕ) → of_bits f (root_bits f b) ≡ root_of f (magnitude (hid f) b)
unfolding root_bits
bits_back f b = of_bits-to_bits f (root_of f (magnitude (hid f) b)) (root_fits f (magnitude (hid f) b))

pub bits_no_nan : (f : Format) (b : ℕ) → nan_bits f (root_bits f b) ≡ false
bits_no_nan f b = nan_bits_is f (root_bits f b) ∙ ap is_nan (bits_back f b) ∙ no_nan (magnitude (hid f) b)
  where
    no_nan : (n : ℕ) → is_nan (root_of f n) ≡ false
    no_nan n = unfold root_of in round_no_nan f false (2 * isqrt (n * 2 ^ low f) + sticky (isqrt (n * 2 ^ low f)) (n * 2 ^ low f))
        (2 * 2 ^ low f)

-- ---- the tests of the code
-- a number above 0, or +infinity
pub data AboveZero : Float → Type 0 where
  number : (m : ℕ) (e : ℤ) → AboveZero (fin false (suc m) e)
  infinity : AboveZero (inf false)

pub above_zero : (x : Float) → lt +0 x ≡ true → AboveZero x
unfolding lt
above_zero x h = go x (holds (ap (λ (z : Float). lt z x) (sym zero_is) ∙ h))
  where
    go : (x : Float) → T (lt (fin false 0 (pos 0)) x) → AboveZero x
    go nan t = absurd t
    go (inf true) t = absurd t
    go (inf false) t = infinity
    go (fin true m e) t = absurd t
    go (fin false zero e) t = absurd (none (ltb→lt (0 * 1 * down e) (0 * up e * 1) t))
      where
        none : 0 * 1 * down e < 0 * up e * 1 → ⊥
        none h = omega arith
    go (fin false (suc m) e) t = number m e

pub above_no_nan : {x : Float} → AboveZero x → T (not (is_nan x))
unfolding is_nan
above_no_nan (number m e) = tt
above_no_nan infinity = tt

-- what `root_bits` is asked, and what its answer is
pub record Asked (x : Float) : Type 0 where
  pub some : 0 < to_bits binary64 x
  pub small : to_bits binary64 x < ones binary64 * hid binary64
  pub is : root_of binary64 (magnitude (hid binary64) (to_bits binary64 x)) ≡ sqrt_of binary64 x

pub asked : {x : Float} → T (fits binary64 x) → AboveZero x → lt x +∞ ≡ true → Asked x
unfolding lt
asked F (number m e) h =
    let p = placed binary64 m e F in
    record { some = p.some; small = p.small; is = root_of_bits binary64 m e F }
asked F infinity h = clash h (ap (lt (inf false)) infinity_is)

pub root_infinity : {x : Float} → AboveZero x → lt x +∞ ≡ false → x ≡ sqrt_of binary64 x
unfolding sqrt_of lt
root_infinity (number m e) h = clash (ap (lt (fin false (suc m) e)) infinity_is) h
root_infinity infinity h = refl

pub root_zero : (x : Float) → eq x +0 ≡ true → x ≡ sqrt_of binary64 x
root_zero x h = go x (is_zero x h)
  where
    go : (x : Float) → Zero x → x ≡ sqrt_of binary64 x
    go x (Zero.a_zero s e) = unfold sqrt_of in refl

pub root_none : (x : Float) → lt +0 x ≡ false → eq x +0 ≡ false → nan ≡ sqrt_of binary64 x
unfolding lt sqrt_of
root_none x h k = go x (ap (λ (z : Float). lt z x) (sym zero_is) ∙ h) k
  where
    more : (m : ℕ) (e : ℤ) → 0 < suc m * up e → 0 * 1 * down e < suc m * up e * 1
    more m e g = omega arith

    go : (x : Float) → lt (fin false 0 (pos 0)) x ≡ false → eq x +0 ≡ false → nan ≡ sqrt_of binary64 x
    go nan h k = refl
    go (inf true) h k = refl
    go (inf false) h k = absurd (true≢false h)
    go (fin s zero e) h k = clash (zero_eq s e) k
    go (fin true (suc m) e) h k = refl
    go (fin false (suc m) e) h k = clash (is_true (ltb (0 * 1 * down e) (suc m * up e * 1))
        (lt→ltb (0 * 1 * down e) (suc m * up e * 1) (more m e (mul-pos (zero-lt-suc m) (up_pos e))))) h
