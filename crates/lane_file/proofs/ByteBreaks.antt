-- Breaks of eight bytes each, and the numbers that they are.
use mathlib.Core.Path.{◌≡◌, refl, sym, ap, ◌∙◌}
use mathlib.Core.Bool.{Bool, true, false, ◌&&◌, and-false, and-true}
use mathlib.Core.List.{List}
use Prim.Native.Nat.{ℕ, ◌+◌, ◌*◌, ◌≤◌, ◌<◌}
use native.Mathlib.Omega.{arith}
use borrow.Author.Tests.{eq-eqb, ne_eqb, le-leb, lt-leb}
use lib.Dec.{eqb}
use lib.ListN.{length}
use lib.Ieee.{Float, nan, binary64, of_bits, lt, eq}
use Rattle.window.specs.Cells.{+0, at}
use Rattle.window.specs.Window.{window}
use Rattle.encoding.specs.Bytes.{float_of, each_of, floats_of}
use Rattle.encoding.proofs.Laws.{each_at, length_each}
use Rattle.curve.specs.Form.{breaks_rise, with_widths, set_formed, others_formed}
use Rattle.curve.proofs.Formed.{with_length, with_kept}
use Rattle.lane_file.specs.File.{break_count, coefficient_count}

-- two neighbours
pub compared : (l : List ℕ) (n i : ℕ) (x y : Float) → i < n → x ≡ float_of (window (8 * i) (8 * i + 8) l)
    → y ≡ float_of (window (8 * i + 8) (8 * i + 8 + 8) l) → lt x y ≡ lt (at (floats_of (n + 1) l) i) (at (floats_of (n + 1) l) (i + 1))
compared l n i x y h e f =
    let q : 8 * i + 8 ≡ 8 * (i + 1) = omega arith in
    let a = e ∙ sym (each_at float_of (n + 1) l nan i (omega arith)) in
    let b = f ∙ ap (λ (p : ℕ). float_of (window p (p + 8) l)) q ∙ sym (each_at float_of (n + 1) l nan (i + 1) (omega arith)) in
    (λ j. lt (a j) (b j))

-- a set, test by test
module _ (bytes : List ℕ) (n m : ℕ) (l : List Float) (count : length l ≡ coefficient_count n m) where
  abbrev breaks : List Float
  breaks = floats_of (break_count n) bytes

  abbrev cells : List Float
  cells = with_widths breaks l

  pub none : n < 1 → false ≡ set_formed m n breaks cells
  unfolding set_formed
  none h = rw (lt-leb 1 n h)

  pub many : 20000 < n → false ≡ set_formed m n breaks cells
  unfolding set_formed
  many h = rw (lt-leb n 20000 h, and-false)

  module _ (some : 1 ≤ n) (few : n ≤ 20000) where
    breaks_are : breaks ≡ floats_of (n + 1) bytes
    breaks_are = rw (ne_eqb n 0 (λ e. absurd (omega arith)))

    -- all but the numbers
    numbers_left : set_formed m n breaks cells ≡ (eq (at (floats_of (n + 1) bytes) 0) +0
        && eq (at (floats_of (n + 1) bytes) n) (of_bits binary64 0x3ff0_0000_0000_0000) && breaks_rise (floats_of (n + 1) bytes) n)
    unfolding set_formed
    numbers_left =
        rw (
          breaks_are,
          le-leb 1 n some,
          le-leb n 20000 few,
          eq-eqb (length (floats_of (n + 1) bytes)) (n + 1) (length_each float_of (n + 1) bytes),
          eq-eqb (length (with_widths (floats_of (n + 1) bytes) l)) (6 * (n * m) + n)
              (with_length (floats_of (n + 1) bytes) l ∙ omega (arith, count, long)),
          with_kept (floats_of (n + 1) bytes) l (6 * (n * m)) n count (omega (arith, long)),
          and-true,
        )
      where
        long : length (floats_of (n + 1) bytes) ≡ n + 1
        long = length_each float_of (n + 1) bytes

    first_at : at (floats_of (n + 1) bytes) 0 ≡ float_of (window 0 8 bytes)
    first_at = each_at float_of (n + 1) bytes nan 0 (omega arith)

    last_at : at (floats_of (n + 1) bytes) n ≡ float_of (window (8 * n) (8 * n + 8) bytes)
    last_at = each_at float_of (n + 1) bytes nan n (omega arith)

    module _ (x : Float) (e : x ≡ float_of (window 0 8 bytes)) where
      pub not_zero : eq x +0 ≡ false → false ≡ set_formed m n breaks cells
      not_zero h = sym (numbers_left ∙ rw (first_at, ← e, h))

      module _ (y : Float) (f : y ≡ float_of (window (8 * n) (8 * n + 8) bytes)) (h : eq x +0 ≡ true) where
        pub not_one : eq y (of_bits binary64 0x3ff0_0000_0000_0000) ≡ false → false ≡ set_formed m n breaks cells
        not_one g = sym (numbers_left ∙ rw (first_at, ← e, h, last_at, ← f, g))

        pub rise_left : eq y (of_bits binary64 0x3ff0_0000_0000_0000) ≡ true
            → breaks_rise (floats_of (n + 1) bytes) n ≡ set_formed m n breaks cells
        rise_left g = sym (numbers_left ∙ rw (first_at, ← e, h, last_at, ← f, g))

-- the other axes
module _ (bytes : List ℕ) (n m : ℕ) (l : List Float) (count : length l ≡ coefficient_count n m) where
  pub others_some : (b : Bool) → (m ≡ 0 → ⊥)
      → b ≡ set_formed m n (floats_of (break_count n) bytes) (with_widths (floats_of (break_count n) bytes) l)
      → b ≡ others_formed m n (floats_of (break_count n) bytes) (with_widths (floats_of (break_count n) bytes) l)
  unfolding others_formed
  others_some b h e = rw (ne_eqb m 0 h) e

  pub others_none : m ≡ 0 → eqb n 0 ≡ others_formed m n (floats_of (break_count n) bytes) (with_widths (floats_of (break_count n) bytes) l)
  unfolding others_formed each_of
  others_none h = rw (eq-eqb m 0 h) (go (eqb n 0) refl)
    where
      go : (t : Bool) → eqb n 0 ≡ t → eqb n 0 ≡ (eqb n 0 && eqb (length (floats_of (break_count n) bytes)) 0
          && eqb (length (with_widths (floats_of (break_count n) bytes) l)) 0)
      go false e = rw e
      go true e =
          let c : length l ≡ 0 = count ∙ rw h (omega arith) in
          let none = length_each float_of 0 bytes in
          rw (e, eq-eqb (length (with_widths (floats_of 0 bytes) l)) 0 (with_length (floats_of 0 bytes) l ∙ omega (arith, c, none)))

-- room for the breaks of some segments
pub breaks_room : (n k : ℕ) → 1 ≤ n → 8 * break_count n ≤ k → 8 * (n + 1) ≤ k
breaks_room n k h r = let e : break_count n ≡ n + 1 = rw (ne_eqb n 0 (λ e. absurd (omega arith))) in omega (arith, e, r)
