-- The cases of the code of absolute value, total order and the test for a finite number.
use mathlib.Core.Path.{◌≡◌, refl, sym, ap, ◌∙◌}
use mathlib.Core.Bool.{Bool, true, false, not, ◌&&◌, ◌||◌, beq, cond, true≢false}
use Prim.Native.Nat.{ℕ, zero, suc, ◌+◌, ◌*◌, ◌%◌, ◌/◌, ◌<◌}
use native.Mathlib.Omega.{arith}
use lib.Dec.{T, leb, eqb, eqb→eq}
use lib.Arith.{lt→nleb}
use lib.Ieee.{Float, Format, nan, inf, fin, binary64, prec, low, hid, ones, up, down, fits, is_nan, lt, eq, ne, odd, of_fields, of_bits, to_bits}
use lib.Ieee.Bits.{is_false, of_bits-to_bits}
use lib.Ieee.Fits.{and_r}
use lib.Ieee.Scale.{finite}
use Rattle.fraction.specs.Value.{absolute_float}
use Rattle.std.specs.Float.{float_is_finite, is_sign_negative}
use Rattle.float.specs.Order.{chosen, negative, total_le}
use Rattle.float.proofs.Tests.{clash, holds, +0, not_zero, zero_eq}

-- ---- absolute value: the sign's bit cleared
odd_absolute : (d : ℕ) (s : Bool) (q k l : ℕ) → absolute_float (odd d s q k l) ≡ odd d false q k l
unfolding odd
odd_absolute d s zero k l = refl
odd_absolute d s (suc q) k l = refl

fields_absolute : (f : Format) (s : Bool) (x t : ℕ) → absolute_float (of_fields f s x t) ≡ of_fields f false x t
unfolding of_fields
fields_absolute f s zero t = odd_absolute (prec f) s t 0 (low f)
fields_absolute f s (suc x) t = go (eqb (suc x) (ones f)) (eqb t 0)
  where
    go : (a b : Bool) → absolute_float (cond a (cond b (inf s) nan) (odd (prec f) s (hid f + t) x (low f)))
        ≡ cond a (cond b (inf false) nan) (odd (prec f) false (hid f + t) x (low f))
    go true true = refl
    go true false = refl
    go false b = odd_absolute (prec f) s (hid f + t) x (low f)

pub abs_bits : (x : Float) → T (fits binary64 x) → of_bits binary64 (to_bits binary64 x % 0x8000_0000_0000_0000) ≡ absolute_float x
unfolding of_bits
abs_bits x F = cleared (to_bits binary64 x) ∙ ap absolute_float (of_bits-to_bits binary64 x F)
  where
    sign : (n : ℕ) → leb 0x8000_0000_0000_0000 (n % 0x8000_0000_0000_0000) ≡ false
    sign n =
        let small : n % 0x8000_0000_0000_0000 < 0x8000_0000_0000_0000 = omega arith in
        is_false (leb 0x8000_0000_0000_0000 (n % 0x8000_0000_0000_0000)) (lt→nleb 0x8000_0000_0000_0000 (n % 0x8000_0000_0000_0000) small)

    exponent : (n : ℕ) → n % 0x8000_0000_0000_0000 % 0x8000_0000_0000_0000 ≡ n % 0x8000_0000_0000_0000
    exponent n = omega arith

    digits : (n : ℕ) → n % 0x8000_0000_0000_0000 % 0x10_0000_0000_0000 ≡ n % 0x10_0000_0000_0000
    digits n = omega arith

    cleared : (n : ℕ) → of_bits binary64 (n % 0x8000_0000_0000_0000) ≡ absolute_float (of_bits binary64 n)
    cleared n =
        rw (sign n, exponent n, digits n) (sym (fields_absolute binary64 (leb 0x8000_0000_0000_0000 n)
        (n % 0x8000_0000_0000_0000 / 0x10_0000_0000_0000) (n % 0x10_0000_0000_0000)))

-- ---- the library's words
pub finite_is : (x : Float) → float_is_finite x ≡ finite x
unfolding float_is_finite
finite_is nan = refl
finite_is (inf s) = refl
finite_is (fin s m e) = refl

pub negative_is : (x : Float) → is_sign_negative x ≡ negative x
unfolding is_sign_negative negative
negative_is nan = refl
negative_is (inf s) = refl
negative_is (fin s m e) = refl

-- ---- a test or another, by the branch that ran
pub either : {r v : Bool} (n l : Bool) → r ≡ n → r ≡ true → v ≡ r → v ≡ (n || l)
either n l e t f = rw (← e, t) (f ∙ t)

pub other : {r v : Bool} (n l : Bool) → r ≡ n → r ≡ false → v ≡ l → v ≡ (n || l)
other n l e t f = rw (← e, t) f

-- ---- larger and smaller
pub chosen_second : (second : Bool) (x y : Float) → (is_nan x || second) ≡ true → y ≡ chosen second x y
unfolding chosen
chosen_second second x y = go (is_nan x) second
  where
    go : (n b : Bool) → (n || b) ≡ true → y ≡ cond n y (cond b y x)
    go true b h = refl
    go false true h = refl
    go false false h = absurd (true≢false (sym h))

pub chosen_first : (second : Bool) (x y : Float) → (is_nan x || second) ≡ false → x ≡ chosen second x y
unfolding chosen
chosen_first second x y = go (is_nan x) second
  where
    go : (n b : Bool) → (n || b) ≡ false → x ≡ cond n y (cond b y x)
    go true b h = absurd (true≢false h)
    go false true h = absurd (true≢false h)
    go false false h = refl

-- ---- total order
abbrev signs : Float → Float → Bool
signs x y = negative x || not (negative y)

total_is : (x y : Float) → ((is_nan y || lt x y) || (eq x y && signs x y)) ≡ total_le x y
unfolding total_le
total_is x y = refl

-- `!=` is the other of `==`
pub ne_eq : (x y : Float) → ne x y ≡ true → eq x y ≡ false
unfolding ne
ne_eq x y h = go (eq x y) h
  where
    go : (b : Bool) → not b ≡ true → b ≡ false
    go true h = absurd (true≢false (sym h))
    go false h = refl

-- equal numbers other than 0 have one sign
pub alike : (x y : Float) → eq x y ≡ true → eq x +0 ≡ false → signs x y ≡ true
unfolding eq negative
alike nan y h k = absurd (true≢false (sym h))
alike (inf s) nan h k = absurd (true≢false (sym h))
alike (inf s) (inf t) h k = same_sign s t h
  where
    same_sign : (s t : Bool) → beq s t ≡ true → (s || not t) ≡ true
    same_sign true t h = refl
    same_sign false false h = refl
    same_sign false true h = absurd (true≢false (sym h))
alike (inf s) (fin t n d) h k = absurd (true≢false (sym h))
alike (fin s m e) nan h k = absurd (true≢false (sym h))
alike (fin s m e) (inf t) h k = absurd (true≢false (sym h))
alike (fin s zero e) (fin t n d) h k = clash (zero_eq s e) k
alike (fin s (suc m) e) (fin t n d) h k = same_sign s t (eqb (suc m * up e * down d) 0)
    (and_r (eqb (suc m * up e * down d) (n * up d * down e)) (beq s t || eqb (suc m * up e * down d) 0) (holds h))
    (λ g. not_zero m e d (eqb→eq (suc m * up e * down d) 0 g))
  where
    same_sign : (s t b : Bool) → T (beq s t || b) → (T b → ⊥) → (s || not t) ≡ true
    same_sign true t b h n = refl
    same_sign false false b h n = refl
    same_sign false true true h n = absurd (n tt)
    same_sign false true false h n = absurd h

pub le_early : (x y : Float) {v : Bool} → v ≡ (is_nan y || lt x y) → v ≡ true → v ≡ total_le x y
le_early x y e t = t ∙ (rw (sym e ∙ t) at (total_is x y))

pub le_rest : (x y : Float) (q : Bool) {v : Bool} → v ≡ (is_nan y || lt x y) → v ≡ false → eq x y ≡ q
    → (q && (negative x || not (negative y))) ≡ total_le x y
le_rest x y q e t p = rw (sym e ∙ t, p) at (total_is x y)
