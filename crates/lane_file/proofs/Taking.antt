-- What is taken out of the bytes, and when the lent slices are too short.
use mathlib.Core.Path.{◌≡◌, sym, ap, ◌∙◌}
use mathlib.Core.Bool.{true, false, ◌||◌, or-true}
use mathlib.Core.List.{List, ◌++◌, append_assoc}
use Prim.Native.Nat.{ℕ, ◌+◌, ◌-◌, ◌*◌, ◌≤◌, ◌<◌}
use native.Mathlib.Omega.{arith}
use borrow.Author.Tests.{lt-ltb, le-ltb, ltb-false}
use lib.Dec.{ltb}
use lib.ListN.{length, take, drop, length-append, length-drop}
use lib.Seq.{length-take-le, take_at, drop-append-add, drop-drop}
use lib.Ieee.{Float}
use Rattle.arith.proofs.Truth.{or_none}
use Rattle.window.specs.Cells.{onto}
use Rattle.window.specs.Rows.{written}
use Rattle.window.proofs.Written.{written_plain}
use Rattle.encoding.specs.Bytes.{low_first, float_of, each_of, wholes_of, floats_of}
use Rattle.encoding.proofs.Laws.{length_each}
use Rattle.forms.proofs.Numbers.{each_part}
use Rattle.lane_file.specs.declared.head.FoundHead.{FoundHead}
use Rattle.lane_file.specs.File.{break_count, coefficient_count}
use Rattle.lane_file.specs.Curves.{Cells, width_patterns}
use Rattle.lane_file.specs.Outcome.{too_short}
use Rattle.lane_file.specs.Reading.{set_place, other_place, breaks_at, coefficients_at, cells_at, short_of}
use Rattle.lane_file.proofs.Forming.{breaks_less, cells_length}

-- values that go to the first cells
module _ {A : Type 0} (value : List ℕ → A) where
  values_put : (file : List ℕ) (at m : ℕ) (old v : List A) → m ≤ length old
      → v ≡ each_of value (length (take (m - 0) old)) (take (at + 8 * m - at) (drop at file))
      → v ++ drop (m - 0) old ≡ onto (each_of value m (drop at file)) old
  values_put file at m old v h e =
      let a : m - 0 ≡ m = omega arith in
      let n : length (take (m - 0) old) ≡ m = rw a (length-take-le m old h) in
      let p : v ≡ each_of value m (drop at file) =
      e ∙ ap (λ (i : ℕ). each_of value i (take (at + 8 * m - at) (drop at file))) n
      ∙ each_part value m (at + 8 * m - at) (drop at file) (omega arith) in
      (λ i. p i ++ drop (a i) old)
      ∙ ap (λ (i : ℕ). each_of value m (drop at file) ++ drop i old) (sym (length_each value m (drop at file)))

pub breaks_put : (file : List ℕ) (at n m : ℕ) (old v : List Float) → m ≡ break_count n → m ≤ length old
    → v ≡ floats_of (length (take (m - 0) old)) (take (at + 8 * m - at) (drop at file))
    → v ++ drop (m - 0) old ≡ onto (breaks_at file at n) old
breaks_put file at n m old v q h e =
    values_put float_of file at m old v h e ∙ ap (λ (i : ℕ). onto (floats_of i (drop at file)) old) q

pub coefficients_put : (file : List ℕ) (at n m count : ℕ) (old v : List ℕ) → count ≡ break_count n → coefficient_count n m ≤ length old
    → v ≡ wholes_of (length (take (coefficient_count n m - 0) old))
    (take (at + 8 * count + 8 * coefficient_count n m - (at + 8 * count)) (drop (at + 8 * count) file))
    → v ++ drop (coefficient_count n m - 0) old ≡ onto (coefficients_at file at n m) old
coefficients_put file at n m count old v q h e =
    values_put low_first file (at + 8 * count) (coefficient_count n m) old v h e
    ∙ ap (λ (i : ℕ). onto (wholes_of (coefficient_count n m) (drop (at + 8 * i) file)) old) q

-- the widths behind them
pub widths_put : (file : List ℕ) (at n m : ℕ) (old between after : List ℕ) (b : List Float) → b ≡ breaks_at file at n
    → between ≡ onto (coefficients_at file at n m) old → after ≡ written (coefficient_count n m) (width_patterns b) between
    → after ≡ onto (coefficients_at file at n m ++ width_patterns (breaks_at file at n)) old
widths_put file at n m old between after b e f g =
    let k = coefficient_count n m in
    let c = coefficients_at file at n m in
    let w = width_patterns (breaks_at file at n) in
    let count : length c ≡ k = length_each low_first k (drop (at + 8 * break_count n) file) in
    let rest = drop (length c) old in
    let t : take k (c ++ rest) ≡ c = take_at c rest k count in
    let d : drop (k + length w) (c ++ rest) ≡ drop (length (c ++ w)) old =
    ap (λ (i : ℕ). drop (i + length w) (c ++ rest)) (sym count) ∙ drop-append-add c rest (length w) ∙ drop-drop (length w) (length c) old
    ∙ ap (λ (i : ℕ). drop i old) (sym (length-append c w)) in
    g ∙ (λ i. written k (width_patterns (e i)) (f i)) ∙ written_plain k w (c ++ rest) ∙ (λ i. t i ++ (w ++ d i))
    ∙ sym (append_assoc c w (drop (length (c ++ w)) old))

-- the breaks that were put, and the room for the widths
pub breaks_again : (file : List ℕ) (at n count : ℕ) (b old : List Float) → count ≡ break_count n → b ≡ onto (breaks_at file at n) old
    → take (count - 0) b ≡ breaks_at file at n
breaks_again file at n count b old q e =
    let v = breaks_at file at n in
    ap (take (count - 0)) e
    ∙ take_at v (drop (length v) old) (count - 0) (length_each float_of (break_count n) (drop at file) ∙ omega (arith, q))

pub widths_room : (file : List ℕ) (at n m : ℕ) (old between : List ℕ) (b : List Float) → b ≡ breaks_at file at n
    → between ≡ onto (coefficients_at file at n m) old → coefficient_count n m + n ≤ length old
    → coefficient_count n m + (length b - 1) ≤ length between
widths_room file at n m old between b e f h =
    let c = coefficients_at file at n m in
    let p : length b - 1 ≡ n = ap (λ (b : List Float). length b - 1) e ∙ breaks_less file at n in
    let q = ap length f in
    omega (
      arith,
      p,
      q,
      length-append c (drop (length c) old),
      length-drop (length c) old,
      length_each low_first (coefficient_count n m) (drop (at + 8 * break_count n) file),
    )

-- ---- too short
module _ (f : FoundHead) (b k ob ok : ℕ) where
  pub short1 : b < break_count f.segments → true ≡ short_of f b k ob ok
  short1 h = rw (lt-ltb b _ h)

  pub short2 : k < coefficient_count f.segments f.k + f.segments → true ≡ short_of f b k ob ok
  short2 h = rw (lt-ltb k _ h, or-true)

  pub short3 : ob < break_count f.other_segments → true ≡ short_of f b k ob ok
  short3 h = rw (lt-ltb ob _ h, or-true)

  pub short4 : break_count f.segments ≤ b → coefficient_count f.segments f.k + f.segments ≤ k
      → break_count f.other_segments ≤ ob
      → ltb ok (coefficient_count f.other_segments (f.d - f.k) + f.other_segments) ≡ short_of f b k ob ok
  short4 h₁ h₂ h₃ = rw (le-ltb b _ h₁, le-ltb k _ h₂, le-ltb ob _ h₃)

  -- they are long enough
  pub record Room : Type 0 where
    pub breaks : break_count f.segments ≤ b
    pub coefficients : coefficient_count f.segments f.k + f.segments ≤ k
    pub other_breaks : break_count f.other_segments ≤ ob
    pub other_coefficients : coefficient_count f.other_segments (f.d - f.k) + f.other_segments ≤ ok

  pub room : short_of f b k ob ok ≡ false → Room
  room e =
      let p = or_none _ _ e in
      let q = or_none _ _ p.0 in
      let r = or_none _ _ q.0 in
      record {
        breaks = ltb-false _ _ r.0;
        coefficients = ltb-false _ _ r.1;
        other_breaks = ltb-false _ _ q.1;
        other_coefficients = ltb-false _ _ p.1;
      }

-- the definition's words
pub short_is : (l : List ℕ) (f : FoundHead) (lent : Cells) → too_short (cells_at l f) lent
    ≡ short_of f (length lent.breaks) (length lent.coefficients) (length lent.other_breaks) (length lent.other_coefficients)
short_is l f lent =
    λ i. ltb (length lent.breaks) (length_each float_of (break_count f.segments) (drop (set_place f) l) i)
    || ltb (length lent.coefficients) (cells_length l (set_place f) f.segments f.k i)
    || ltb (length lent.other_breaks) (length_each float_of (break_count f.other_segments) (drop (other_place f) l) i)
    || ltb (length lent.other_coefficients) (cells_length l (other_place f) f.other_segments (f.d - f.k) i)
