-- What the code's tests on floats tell, and the values of its constant expressions.
use mathlib.Core.Path.{◌≡◌, refl, sym, ap, ◌∙◌, subst}
use mathlib.Core.Bool.{Bool, true, false, not, ◌&&◌, ◌||◌, beq, true≢false}
use Prim.Native.Nat.{ℕ, zero, suc, ◌*◌, ◌%◌, ◌≤◌, ◌<◌}
use native.Mathlib.Nat.{mul-pos, zero-lt-suc}
use native.Mathlib.Omega.{arith}
use lib.Dec.{T, eqb, eqb→eq, nltb→le}
use lib.IntN.{ℤ, pos}
use lib.Ieee.{Float, nan, inf, fin, binary64, up, down, fits, is_nan, nan_bits, to_bits, of_bits, eq}
use lib.Arith.{le→nltb}
use lib.Ieee.Bits.{of_bits-to_bits, nan_bits_is, nan_bits_above}
use lib.Ieee.Fits.{up_pos, down_pos, eq→eqb, and_l}

pub clash : {A : Type 0} {b : Bool} → b ≡ true → b ≡ false → A
clash p q = absurd (true≢false (sym p ∙ q))

pub holds : {b : Bool} → b ≡ true → T b
holds e = subst T (sym e) tt

-- ---- constants
abbrev pub +0 : Float
+0 = of_bits binary64 0

pub zero_is : +0 ≡ fin false 0 (pos 0)
unfolding of_bits
zero_is = refl

abbrev pub +∞ : Float
+∞ = of_bits binary64 0x7ff0_0000_0000_0000

pub infinity_is : +∞ ≡ inf false
unfolding of_bits
infinity_is = refl

pub nan_is : of_bits binary64 0x7ff8_0000_0000_0000 ≡ nan
unfolding of_bits
nan_is = refl

-- ---- zero
pub data Zero : Float → Type 0 where
  a_zero : (s : Bool) (e : ℤ) → Zero (fin s zero e)

pub not_zero : (m : ℕ) (e d : ℤ) → suc m * up e * down d ≡ 0 → ⊥
not_zero m e d h = go (mul-pos (mul-pos (zero-lt-suc m) (up_pos e)) (down_pos d)) h
  where
    go : {a : ℕ} → 0 < a → a ≡ 0 → ⊥
    go p q = omega arith

-- what equals a zero is one
pub zero_of : (s : Bool) (e : ℤ) (y : Float) → eq (fin s zero e) y ≡ true → Zero y
unfolding eq
zero_of s e nan h = absurd (true≢false (sym h))
zero_of s e (inf t) h = absurd (true≢false (sym h))
zero_of s e (fin t zero d) h = a_zero t d
zero_of s e (fin t (suc n) d) h =
    absurd (not_zero n d e (sym (eqb→eq (0 * up e * down d) (suc n * up d * down e) (and_l (eqb (0 * up e * down d) (suc n * up d * down e))
    (beq s t || eqb (0 * up e * down d) 0) (holds h))) ∙ none (up e) (down d)))
  where
    none : (a b : ℕ) → 0 * a * b ≡ 0
    none a b = omega arith

pub is_zero : (x : Float) → eq x +0 ≡ true → Zero x
unfolding eq
is_zero x h = go x (ap (eq x) (sym zero_is) ∙ h)
  where
    none : (d : ℕ) → 0 * 1 * d ≡ 0
    none d = omega arith

    go : (x : Float) → eq x (fin false 0 (pos 0)) ≡ true → Zero x
    go nan h = absurd (true≢false (sym h))
    go (inf s) h = absurd (true≢false (sym h))
    go (fin s zero e) h = a_zero s e
    go (fin s (suc m) e) h =
        absurd (not_zero m e (pos 0) (eqb→eq (suc m * up e * 1) (0 * 1 * down e) (and_l (eqb (suc m * up e * 1) (0 * 1 * down e))
        (beq s false || eqb (suc m * up e * 1) 0) (holds h)) ∙ none (down e)))

pub zero_eq : (s : Bool) (e : ℤ) → eq (fin s zero e) +0 ≡ true
unfolding eq
zero_eq s e =
    let p : 0 * up e * 1 ≡ 0 * 1 * down e = omega arith in
    let q : 0 * up e * 1 ≡ 0 = omega arith in
    ap (eq (fin s zero e)) zero_is ∙ both (eqb (0 * up e * 1) (0 * 1 * down e)) (beq s false) (eqb (0 * up e * 1) 0) (eq→eqb p)
    (eq→eqb q)
  where
    both : (a b c : Bool) → T a → T c → (a && (b || c)) ≡ true
    both true true c t u = refl
    both true false true t u = refl
    both false b c t u = elim t [ ]
    both true false false t u = elim u [ ]

-- ---- NaN
pub is_nan_yes : (x : Float) → is_nan x ≡ true → x ≡ nan
unfolding is_nan
is_nan_yes nan h = refl
is_nan_yes (inf s) h = absurd (true≢false (sym h))
is_nan_yes (fin s m e) h = absurd (true≢false (sym h))

-- ---- the patterns that are no NaN's, by the digits below the sign
pub bits_plain : (n : ℕ) → n % 0x8000_0000_0000_0000 ≤ 0x7ff0_0000_0000_0000 → T (not (nan_bits binary64 n))
bits_plain n h = rw (nan_bits_above binary64 n) (le→nltb 0x7ff0_0000_0000_0000 (n % 0x8000_0000_0000_0000) h)

pub plain_bits : (x : Float) → T (fits binary64 x) → is_nan x ≡ false → to_bits binary64 x % 0x8000_0000_0000_0000 ≤ 0x7ff0_0000_0000_0000
plain_bits x F h = nltb→le 0x7ff0_0000_0000_0000 (to_bits binary64 x % 0x8000_0000_0000_0000)
    (subst (λ (b : Bool). T (not b)) (sym (sym (nan_bits_above binary64 (to_bits binary64 x)) ∙ nan_bits_is binary64 (to_bits binary64 x)
    ∙ ap is_nan (of_bits-to_bits binary64 x F) ∙ h)) tt)
