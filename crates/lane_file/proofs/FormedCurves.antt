-- What a well-formed curve gives: sizes, and that its contents has a spelling.
use mathlib.Core.Path.{◌≡◌, refl, sym, ◌∙◌}
use mathlib.Core.Bool.{Bool, true, false, cond, ◌&&◌}
use mathlib.Core.List.{List, map}
use Prim.Native.Nat.{ℕ, ◌+◌, ◌-◌, ◌*◌, ◌^◌, ◌≤◌, ◌<◌}
use native.Mathlib.Omega.{arith}
use native.Mathlib.Nat.{mul-le-mul}
use borrow.Author.Tests.{eqb-true, ne_eqb, eq-eqb, le-leb}
use lib.Dec.{T, eqb, leb}
use lib.ListN.{length, take, get_or, length-map}
use lib.Seq.{length-take-le, get_or-take}
use lib.Ieee.{Float, nan, binary64, fits, of_bits}
use lib.Ieee.Bits.{to_bits-lt}
use Rattle.arith.proofs.Truth.{and_parts}
use Rattle.forms.specs.Form.{groups, bytes, all_good}
use Rattle.forms.proofs.Exact.{all_good_law}
use Rattle.window.proofs.Joined.{map_at}
use Rattle.window.specs.Cells.{at}
use Rattle.curve.specs.declared.Curve.{Curve}
use Rattle.curve.specs.declared.Mode.{Mode}
use Rattle.curve.specs.declared.Mode.TheVariants.{Error, Clamp}
use Rattle.curve.specs.Form.{set_formed, others_formed, well_formed}
use Rattle.curve.proofs.Formed.{set_parts, formed, axes_good}
use Rattle.curve.proofs.Shaped.{rows_few}
use Rattle.lane_file.specs.File.{break_count, coefficient_count, contents, file_form}
use Rattle.lane_file.specs.Curves.{Cells, Storable, slices_of, without_widths, pattern_of, mode_number, head_of, patterns_of}

-- ---- sizes
-- the breaks and coefficients of n segments with m axes
pub record Counts (m n : ℕ) (breaks coefficients : ℕ) : Type 0 where
  pub most : n ≤ 20000
  pub breaks_count : breaks ≡ break_count n
  pub coefficients_count : coefficients ≡ coefficient_count n m + n
  pub few_breaks : breaks ≤ 20001
  pub few_coefficients : coefficients ≤ 1940000

some_breaks : (n : ℕ) → 1 ≤ n → break_count n ≡ n + 1
some_breaks n h = rw (ne_eqb n 0 (λ e. absurd (omega arith)))

module _ (m n : ℕ) (b c : List Float) (small : m ≤ 16) where
  pub set_counts : set_formed m n b c ≡ true → Counts m n (length b) (length c) × (1 ≤ n)
  set_counts h =
      let z = set_parts m n b c h in
      let e = z.breaks_length in (
        record {
          most = z.most;
          breaks_count = z.breaks_length ∙ sym (some_breaks n z.some);
          coefficients_count = z.coefficients_length;
          few_breaks = omega (arith, z.most, e);
          few_coefficients = omega (arith, rows_few m n small z.most, z.most, z.coefficients_length);
        },
        z.some,
      )

  pub other_counts : others_formed m n b c ≡ true → Counts m n (length b) (length c)
  unfolding others_formed
  other_counts h = go (eqb m 0) refl h
    where
      go : (t : Bool) → eqb m 0 ≡ t → cond t (eqb n 0 && eqb (length b) 0 && eqb (length c) 0) (set_formed m n b c) ≡ true
          → Counts m n (length b) (length c)
      go false e h = (set_counts h).0
      go true e h =
          let p = and_parts (eqb n 0 && eqb (length b) 0) (eqb (length c) 0) h in
          let q = and_parts (eqb n 0) (eqb (length b) 0) p.0 in
          let z = eqb-true n 0 q.0 in
          let x = eqb-true (length b) 0 q.1 in
          let y = eqb-true (length c) 0 p.1 in
          let f : coefficient_count n m + n ≡ 0 = rw z (omega arith) in
          record {
            most = omega (arith, z);
            breaks_count = rw (x, eq-eqb n 0 z);
            coefficients_count = y ∙ sym f;
            few_breaks = omega (arith, x);
            few_coefficients = omega (arith, y);
          }

-- of a well-formed curve
pub record Small (c : Curve) (s : Cells) : Type 0 where
  pub d_high : c.d ≤ 16
  pub k_low : 1 ≤ c.k
  pub k_high : c.k ≤ c.d
  pub axes : (i : ℕ) → i < c.k → get_or c.axes i 0 < 16
  pub two : 2 ≤ length s.breaks
  pub six : 6 ≤ coefficient_count c.segments c.k
  pub set : Counts c.k c.segments (length s.breaks) (length s.coefficients)
  pub others : Counts (c.d - c.k) c.other_segments (length s.other_breaks) (length s.other_coefficients)

pub formed_small : (c : Curve) (s : Cells) → well_formed c (slices_of s) ≡ true → Small c s
formed_small c s h =
    let f = formed c (slices_of s) h in
    let good = axes_good c.axes c.k c.d f.axes_formed_law in
    let set = set_counts c.k c.segments s.breaks (slices_of s).coefficients (omega (arith, f.k_high, f.d_high))
    f.set_formed_law in
    let others = other_counts (c.d - c.k) c.other_segments s.other_breaks (slices_of s).other_coefficients
    (omega (arith, f.d_high)) f.others_formed_law in
    let one : 1 * 1 ≤ c.segments * c.k = mul-le-mul set.1 f.k_low in
    record {
      d_high = f.d_high;
      k_low = f.k_low;
      k_high = f.k_high;
      axes = λ i l. omega (arith, (good i l).0, f.d_high);
      two = omega (arith, set.0.breaks_count, some_breaks c.segments set.1, set.1);
      six = omega (arith, one);
      set = rw (length-map s.coefficients (λ b. of_bits binary64 b)) at set.0;
      others = rw (length-map s.other_coefficients (λ b. of_bits binary64 b)) at others;
    }

-- what is left without the widths
pub rows_lengths : (c : Curve) (s : Cells) → Small c s → (length (without_widths c s).coefficients ≡ length s.coefficients - c.segments)
    × (length (without_widths c s).other_coefficients ≡ length s.other_coefficients - c.other_segments)
rows_lengths c s z =
    let e = z.set.coefficients_count in
    let f = z.others.coefficients_count in
    let k = coefficient_count c.segments c.k in
    let ok = coefficient_count c.other_segments (c.d - c.k) in (
      omega (arith, e, length-take-le k s.coefficients (omega (arith, e))),
      omega (arith, f, length-take-le ok s.other_coefficients (omega (arith, f))),
    )

-- ---- the contents has a spelling
word : (x : Float) → T (fits binary64 x) → pattern_of x < 256 ^ 8
word x f = to_bits-lt binary64 x f

words_good : (n : ℕ) (l : List Float) → length l ≡ n → ((i : ℕ) → T (fits binary64 (at l i))) → all_good (bytes 8) n (map pattern_of l)
words_good n l e f =
    let m = length-map l pattern_of in
    all_good_law (bytes 8) 0 n (map pattern_of l) (m ∙ e)
    (λ i h. rw (map_at pattern_of l i nan 0 (omega arith)) (word (at l i) (f i)))

cells_good : (n k : ℕ) (l : List ℕ) → length l ≡ n + k → ((i : ℕ) → get_or l i 0 < 2 ^ 64) → all_good (bytes 8) n (take n l)
cells_good n k l e f =
    let m = length-take-le n l (omega (arith, e)) in
    all_good_law (bytes 8) 0 n (take n l) m (λ i h. rw (get_or-take n l i 0 (omega (arith, m, h))) (f i))

pub contents_good : (c : Curve) (s : Cells) → well_formed c (slices_of s) ≡ true → Storable c s
    → file_form.Good (contents (head_of c) (patterns_of c s))
contents_good c s w h =
    let z = formed_small c s w in
    let axes = take c.k c.axes in
    let m : length axes ≡ c.k = length-take-le c.k c.axes (omega (arith, z.k_high, z.d_high, h.axes)) in
    let axis : (i : ℕ) → i < length axes → get_or axes i 0 < 128 ^ 3 = λ i l.
    rw (get_or-take c.k c.axes i 0 (omega arith)) (omega (arith, z.axes i (omega arith))) in (
      (
        omega (arith, z.d_high),
        (
          (omega (arith, z.k_high, z.d_high), le-leb c.k c.d z.k_high),
          (
            all_good_law groups 0 c.k axes m axis,
            ((mode_small c.mode, mode_low c.mode), (omega (arith, z.set.most), omega (arith, z.others.most))),
          ),
        ),
      ),
      (
        word c.start h.start,
        (
          word c.end h.end,
          (
            words_good (break_count c.segments) s.breaks z.set.breaks_count h.breaks,
            (
              cells_good (coefficient_count c.segments c.k) c.segments s.coefficients z.set.coefficients_count
                  h.coefficients,
              (
                words_good (break_count c.other_segments) s.other_breaks z.others.breaks_count h.other_breaks,
                cells_good (coefficient_count c.other_segments (c.d - c.k)) c.other_segments s.other_coefficients
                    z.others.coefficients_count h.other_coefficients,
              ),
            ),
          ),
        ),
      ),
    )
  where
    mode_small : (m : Mode) → mode_number m < 128 ^ 3
    mode_small Error = omega arith
    mode_small Clamp = omega arith

    mode_low : (m : Mode) → leb (mode_number m) 1 ≡ true
    mode_low Error = refl
    mode_low Clamp = refl
