-- The file of a curve that was read is the file that was read: start, end and breaks of a well-formed curve are numbers, and a number has
-- one pattern.
use mathlib.Core.Path.{◌≡◌, refl, sym, ap, ◌∙◌}
use mathlib.Core.Bool.{Bool, true, false, cond, ◌&&◌}
use mathlib.Core.List.{List, [], ◌∷◌, map}
use Prim.Native.Nat.{ℕ, zero, suc, ◌+◌, ◌-◌, ◌^◌, ◌≤◌, ◌<◌}
use native.Mathlib.Omega.{arith}
use native.Mathlib.Decide.{dec_lt}
use borrow.Author.Tests.{leb-true, eqb-true}
use lib.Dec.{eqb}
use lib.ListN.{length, take, get_or, length-map}
use lib.Seq.{take_at}
use lib.Ieee.{Float, nan, inf, fin, binary64, of_bits, is_nan, lt, eq, sub}
use lib.Ieee.Scale.{finite}
use lib.Ieee.Bits.{to_bits-of_bits}
use Rattle.arith.proofs.Truth.{and_parts, never}
use Rattle.arith.proofs.Firsts.{every_at}
use Rattle.window.specs.Cells.{+0, at}
use Rattle.forms.specs.Form.{groups, bytes}
use Rattle.forms.proofs.Exact.{all_length, all_at}
use Rattle.window.proofs.Joined.{map_at}
use Rattle.curve.specs.Places.{padded}
use Rattle.curve.specs.Form.{breaks_rise, set_formed, others_formed, range_formed, well_formed}
use Rattle.curve.proofs.Formed.{set_parts, Formed, formed}
use Rattle.curve.proofs.Padded.{padded_front}
use Rattle.lane_file.specs.File.{Head, Patterns, break_count, coefficient_count, Contents, contents, file_form}
use Rattle.lane_file.specs.Curves.{number_of, pattern_of, width_patterns, slices_of, mode_number, mode_of, head_of, patterns_of, file_of, curve_of, cells_of}

-- ---- numbers
lt_number : (x y : Float) → lt x y ≡ true → is_nan x ≡ false
unfolding is_nan lt
lt_number nan y h = never h
lt_number (inf s) y h = refl
lt_number (fin s m e) y h = refl

eq_number : (x y : Float) → eq x y ≡ true → is_nan x ≡ false
unfolding is_nan eq
eq_number nan y h = never h
eq_number (inf s) y h = refl
eq_number (fin s m e) y h = refl

finite_number : (x : Float) → finite x ≡ true → is_nan x ≡ false
unfolding is_nan finite
finite_number nan h = never h
finite_number (inf s) h = refl
finite_number (fin s m e) h = refl

-- a number's pattern
pattern_back : (n : ℕ) → n < 256 ^ 8 → is_nan (number_of n) ≡ false → pattern_of (number_of n) ≡ n
pattern_back n h e = to_bits-of_bits binary64 n h (rw e tt)

-- ---- breaks
module _ (m n : ℕ) (b : List ℕ) (c : List Float) (h : set_formed m n (map number_of b) c ≡ true) where
  abbrev breaks : List Float
  breaks = map number_of b

  -- they rise, and the last is 1
  parts : (breaks_rise breaks n ≡ true) × (eq (at breaks n) (of_bits binary64 0x3ff0_0000_0000_0000) ≡ true) × (length b ≡ n + 1)
  parts =
      let z = set_parts m n breaks c h in (z.rising, z.to_one, omega (arith, z.breaks_length, length-map b number_of))

  pub breaks_numbers : (i : ℕ) → i < length b → is_nan (number_of (get_or b i 0)) ≡ false
  breaks_numbers i l =
      let p = parts in
      let e = map_at number_of b i 0 nan l in
      ap is_nan (sym e) ∙ elim (dec_lt i n) [
        | yes g ↦ lt_number (at breaks i) (at breaks (i + 1)) (every_at (λ i. lt (at breaks i) (at breaks (i + 1))) n p.0 i g)
        | no g ↦
            let q : i ≡ n = omega (arith, p.2) in
            eq_number (at breaks i) (of_bits binary64 0x3ff0_0000_0000_0000)
            (ap (λ (j : ℕ). eq (at breaks j) (of_bits binary64 0x3ff0_0000_0000_0000)) q ∙ p.1)
      ]

pub others_numbers : (m n : ℕ) (b : List ℕ) (c : List Float) → others_formed m n (map number_of b) c ≡ true → (i : ℕ) → i < length b
    → is_nan (number_of (get_or b i 0)) ≡ false
unfolding others_formed
others_numbers m n b c h = go (eqb m 0) h
  where
    go : (t : Bool) → cond t (eqb n 0 && eqb (length (map number_of b)) 0 && eqb (length c) 0) (set_formed m n (map number_of b) c) ≡ true
        → (i : ℕ) → i < length b → is_nan (number_of (get_or b i 0)) ≡ false
    go false h i l = breaks_numbers m n b c h i l
    go true h i l =
        let p = and_parts (eqb n 0 && eqb (length (map number_of b)) 0) (eqb (length c) 0) h in
        let q = and_parts (eqb n 0) (eqb (length (map number_of b)) 0) p.0 in
        absurd (omega (arith, eqb-true (length (map number_of b)) 0 q.1, length-map b number_of, l))

-- ---- start and end
range_numbers : (start end : Float) → range_formed start end ≡ true → (is_nan start ≡ false) × (is_nan end ≡ false)
unfolding range_formed
range_numbers start end h =
    let length = sub binary64 end start in
    let p = and_parts (finite start && finite end && finite length) (lt +0 length) h in
    let q = and_parts (finite start && finite end) (finite length) p.0 in
    let r = and_parts (finite start) (finite end) q.0 in
    (finite_number start r.0, finite_number end r.1)

-- ---- many patterns
patterns_back : (l : List ℕ) → ((i : ℕ) → i < length l → get_or l i 0 < 256 ^ 8)
    → ((i : ℕ) → i < length l → is_nan (number_of (get_or l i 0)) ≡ false) → map pattern_of (map number_of l) ≡ l
patterns_back [] h g = refl
patterns_back (x ∷ l) h g =
    λ i. pattern_back x (h 0 (omega arith)) (g 0 (omega arith)) i
    ∷ patterns_back l (λ j m. h (suc j) (omega arith)) (λ j m. g (suc j) (omega arith)) i

mode_back : (n : ℕ) → n ≤ 1 → mode_number (mode_of n) ≡ n
mode_back zero h = refl
mode_back (suc zero) h = refl
mode_back (suc (suc n)) h = absurd (omega arith)

-- ---- the file again
pub file_again : (x : Contents) → file_form.Good x → well_formed (curve_of x) (slices_of (cells_of x.patterns)) ≡ true
    → file_of (curve_of x) (cells_of x.patterns) ≡ file_form.write x
file_again x g w = λ i. file_form.write (contents (head i) (patterns i))
  where
    h : Head
    h = x.head

    p : Patterns
    p = x.patterns

    f : Formed (curve_of x) (slices_of (cells_of p))
    f = formed (curve_of x) (slices_of (cells_of p)) w

    count : length h.axes ≡ h.k
    count = all_length groups h.k h.axes g.0.1.1.0

    axes : take h.k (padded h.axes) ≡ h.axes
    axes =
        ap (λ (k : ℕ). take k (padded h.axes)) (sym count) ∙ padded_front h.axes (omega (arith, count, f.k_high, f.d_high))

    mode : mode_number (mode_of h.mode) ≡ h.mode
    mode = mode_back h.mode (leb-true h.mode 1 g.0.1.1.1.0.1)

    head : head_of (curve_of x) ≡ h
    head = λ i. record {
      d = h.d;
      k = h.k;
      axes = axes i;
      mode = mode i;
      segments = h.segments;
      other_segments = h.other_segments;
    }

    ends : (is_nan (number_of p.start) ≡ false) × (is_nan (number_of p.end) ≡ false)
    ends = range_numbers (number_of p.start) (number_of p.end) f.range_formed_law

    start : pattern_of (number_of p.start) ≡ p.start
    start = pattern_back p.start g.1.0 ends.0

    end : pattern_of (number_of p.end) ≡ p.end
    end = pattern_back p.end g.1.1.0 ends.1

    breaks : map pattern_of (map number_of p.breaks) ≡ p.breaks
    breaks =
        patterns_back p.breaks (all_at (bytes 8) 0 (break_count h.segments) p.breaks g.1.1.1.0)
        (breaks_numbers h.k h.segments p.breaks (slices_of (cells_of p)).coefficients f.set_formed_law)

    others : map pattern_of (map number_of p.other_breaks) ≡ p.other_breaks
    others =
        patterns_back p.other_breaks (all_at (bytes 8) 0 (break_count h.other_segments) p.other_breaks g.1.1.1.1.1.0)
        (others_numbers (h.d - h.k) h.other_segments p.other_breaks (slices_of (cells_of p)).other_coefficients f.others_formed_law)

    patterns : patterns_of (curve_of x) (cells_of p) ≡ p
    patterns = λ i. record {
      start = start i;
      end = end i;
      breaks = breaks i;
      coefficients = take_at p.coefficients (width_patterns (map number_of p.breaks)) (coefficient_count h.segments h.k)
          (all_length (bytes 8) (coefficient_count h.segments h.k) p.coefficients g.1.1.1.1.0) i;
      other_breaks = others i;
      other_coefficients = take_at p.other_coefficients (width_patterns (map number_of p.other_breaks))
          (coefficient_count h.other_segments (h.d - h.k))
          (all_length (bytes 8) (coefficient_count h.other_segments (h.d - h.k)) p.other_coefficients g.1.1.1.1.1.1) i;
    }
