-- Laws of numbers as bytes and as digits.
use mathlib.Core.Path.{◌≡◌, refl, sym, ◌∙◌}
use mathlib.Core.Bool.{not}
use mathlib.Core.List.{List, [], ◌∷◌, ◌++◌, append-nil}
use Prim.Native.Nat.{ℕ, zero, suc, ◌+◌, ◌*◌, ◌%◌, ◌^◌, ◌≤◌, ◌<◌}
use native.Mathlib.Omega.{arith}
use native.Mathlib.Nat.{le_of_suc-le-suc, not-suc-le-zero, lt_of_lt_of_le}
use lib.ListN.{length, drop, get_or, set, length-append, get_or-append}
use lib.Pow.{pow-add, pow_mono}
use native.Mathlib.Numerals.{add-one}
use lib.Seq.{drop-cons, drop-length, get_or_at}
use Rattle.window.proofs.Filling.{write_more}
use native.Mathlib.Decide.{dec_lt}
use Rattle.window.specs.Window.{window}
use lib.Dec.{T}
use lib.Ieee.{nan, binary64, of_bits, to_bits, nan_bits}
use Rattle.std.specs.Int.{w64, from_le_bytes}
use lib.Ieee.Bits.{nan_bits_is, nan_bits_above}
use borrow.Author.Tests.{lt-ltb, le-ltb}
use Rattle.arith.proofs.Nan.{is_nan_law}
use Rattle.encoding.specs.Bytes.{low_first, each_of}

-- one byte more, in front of the others
pub low_first_more : (l : List ℕ) (i : ℕ) → i < length l → low_first (drop i l) ≡ 256 * low_first (drop (i + 1) l) + get_or l i 0
unfolding low_first
low_first_more l i h =
    let e : i + 1 ≡ suc i = omega arith in
    rw (drop-cons l i 0 h, e) (omega arith)

-- a number of k bytes and one byte is a number of k + 1 bytes
pub byte_more : (v b k : ℕ) → v < 2 ^ (8 * k) → b < 256 → 256 * v + b < 2 ^ (8 * (k + 1))
byte_more v b k h g =
    let e : 8 * (k + 1) ≡ 8 * k + 8 = omega arith in
    rw (e, pow-add 2 (8 * k) 8) (omega arith)

-- a number of at most seven bytes
pub seven_bytes : (v k : ℕ) → v < 2 ^ (8 * k) → k ≤ 7 → v < 2 ^ 56
seven_bytes v k h g = lt_of_lt_of_le h (pow_mono {i = 8 * k} {j = 56} (omega arith))

-- the last write to a place, in front of what follows it
pub drop_set : (l : List ℕ) (i v : ℕ) → i < length l → drop i (set l i v) ≡ v ∷ drop (i + 1) l
drop_set l i v h =
    let e : i + 1 ≡ suc i = omega arith in rw e (go l i h)
  where
    go : (l : List ℕ) (i : ℕ) → i < length l → drop i (set l i v) ≡ v ∷ drop (suc i) l
    go [] i h = absurd (not-suc-le-zero h)
    go (x ∷ xs) zero h = refl
    go (x ∷ xs) (suc i) h = go xs i (le_of_suc-le-suc h)

module _ {A : Type 0} (value : List ℕ → A) where
  -- as many values as asked
  pub length_each : (n : ℕ) (bytes : List ℕ) → length (each_of value n bytes) ≡ n
  unfolding each_of
  length_each zero bytes = refl
  length_each (suc n) bytes = length-append (each_of value n bytes) _ ∙ omega (arith, length_each n bytes)

  -- one more
  pub each_more : (i : ℕ) (bytes : List ℕ) → each_of value (i + 1) bytes
      ≡ each_of value i bytes ++ (value (window (8 * i) (8 * i + 8) bytes) ∷ [])
  unfolding each_of
  each_more i bytes = rw add-one

  -- value i
  pub each_at : (n : ℕ) (bytes : List ℕ) (z : A) (i : ℕ) → i < n
      → get_or (each_of value n bytes) i z ≡ value (window (8 * i) (8 * i + 8) bytes)
  unfolding each_of
  each_at zero bytes z i h = absurd (not-suc-le-zero h)
  each_at (suc n) bytes z i h =
      let x = value (window (8 * n) (8 * n + 8) bytes) in
      let m = length_each n bytes in
      elim (dec_lt i n) [
        | yes l ↦ get_or-append (each_of value n bytes) (x ∷ []) z i (omega arith) ∙ each_at n bytes z i l
        | no l ↦
            let e : i ≡ n = omega arith in
            rw e (get_or_at (each_of value n bytes) x [] z n m)
      ]

  -- one cell more is filled
  pub each_next : (i : ℕ) (bytes : List ℕ) (before : List A) → i < length before
      → set (each_of value i bytes ++ drop i before) i (value (window (8 * i) (8 * i + 8) bytes))
      ≡ each_of value (i + 1) bytes ++ drop (i + 1) before
  each_next i bytes before h =
      write_more (each_of value i bytes) before i (value (window (8 * i) (8 * i + 8) bytes)) (length_each i bytes) h
      ∙ rw (each_more i bytes)

  -- all are
  pub each_all : (n i : ℕ) (bytes : List ℕ) (before after : List A) → n ≡ length before → i ≡ n
      → after ≡ each_of value i bytes ++ drop i before → after ≡ each_of value n bytes
  each_all n i bytes before after e h g =
      g ∙ rw (h, e, drop-length) (append-nil _)

-- the patterns of the NaN that the language's 0 / 0 is
pub nan_is : of_bits binary64 0x7ff8_0000_0000_0000 ≡ nan
unfolding of_bits
nan_is = refl

pub nan_bits_are : 0x7ff8_0000_0000_0000 ≡ to_bits binary64 nan
unfolding to_bits
nan_bits_are = refl

-- the number of eight bytes, as the language reads it
pub eight_bytes : (l : List ℕ) → length l ≡ 8
    → from_le_bytes w64 (get_or l 0 0 ∷ get_or l 1 0 ∷ get_or l 2 0 ∷ get_or l 3 0 ∷ get_or l 4 0 ∷ get_or l 5 0 ∷ get_or l 6 0 ∷ get_or l 7 0 ∷ [])
    ≡ low_first l
unfolding low_first
eight_bytes (a ∷ (b ∷ (c ∷ (d ∷ (e ∷ (f ∷ (g ∷ (h ∷ [])))))))) k = omega arith
eight_bytes _ k = absurd (omega arith)

-- a pattern whose low 63 bits are above those of infinity is a NaN's
pub nan_pattern : (n : ℕ) → 0x7ff0_0000_0000_0000 < n % 0x8000_0000_0000_0000 → of_bits binary64 n ≡ nan
nan_pattern n h = is_nan_law (of_bits binary64 n) (sym (nan_bits_is binary64 n) ∙ nan_bits_above binary64 n ∙ lt-ltb _ _ h)

-- and no other is
pub number_pattern : (n : ℕ) → n % 0x8000_0000_0000_0000 ≤ 0x7ff0_0000_0000_0000 → T (not (nan_bits binary64 n))
number_pattern n h = rw (nan_bits_above binary64 n, le-ltb _ _ h) tt
