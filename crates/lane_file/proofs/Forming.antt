-- When the curve in the bytes is well formed, test by test.
use mathlib.Core.Path.{◌≡◌, refl, ap, ◌∙◌}
use mathlib.Core.Bool.{Bool, true, false, ◌&&◌, and-false}
use mathlib.Core.List.{List, ◌++◌, map}
use Prim.Native.Nat.{ℕ, zero, suc, ◌+◌, ◌-◌, ◌*◌, ◌≤◌, ◌<◌}
use native.Mathlib.Omega.{arith}
use borrow.Author.Tests.{le-leb, lt-leb, ne_eqb}
use lib.Dec.{leb}
use lib.ListN.{length, take, drop, length-map, length-append}
use lib.Ieee.{Float}
use Rattle.encoding.specs.Bytes.{low_first, float_of, floats_of}
use Rattle.encoding.proofs.Laws.{length_each}
use Rattle.forms.proofs.Numbers.{each_part}
use Rattle.curve.specs.declared.Curve.{Curve}
use Rattle.curve.specs.Form.{Slices, axes_formed, with_widths, set_formed, others_formed, range_formed, well_formed}
use Rattle.lane_file.specs.File.{break_count, coefficient_count}
use Rattle.lane_file.specs.Curves.{number_of, width_patterns}
use Rattle.lane_file.specs.Reading.{breaks_at, coefficients_at}
use Rattle.lane_file.proofs.Widths.{widths_length}

-- as many coefficients as there should be
pub coefficients_count : (l : List ℕ) (at n m : ℕ) → length (map number_of (coefficients_at l at n m)) ≡ coefficient_count n m
coefficients_count l at n m =
    length-map (coefficients_at l at n m) number_of ∙ length_each low_first (coefficient_count n m) (drop (at + 8 * break_count n) l)

-- n segments have n widths
one_less : (n : ℕ) → break_count n - 1 ≡ n
one_less zero = refl
one_less (suc n) =
    let e : break_count (suc n) ≡ suc n + 1 = rw (ne_eqb (suc n) 0 (λ e. absurd (omega arith))) in omega (arith, e)

pub breaks_less : (l : List ℕ) (at n : ℕ) → length (breaks_at l at n) - 1 ≡ n
breaks_less l at n = ap (λ (k : ℕ). k - 1) (length_each float_of (break_count n) (drop at l)) ∙ one_less n

breaks_widths : (l : List ℕ) (at n : ℕ) → length (width_patterns (breaks_at l at n)) ≡ n
breaks_widths l at n = widths_length (breaks_at l at n) ∙ breaks_less l at n

-- with the widths behind them
pub cells_length : (l : List ℕ) (at n m : ℕ)
    → length (coefficients_at l at n m ++ width_patterns (breaks_at l at n)) ≡ coefficient_count n m + n
cells_length l at n m =
    length-append (coefficients_at l at n m) (width_patterns (breaks_at l at n))
    ∙ (λ i. length_each low_first (coefficient_count n m) (drop (at + 8 * break_count n) l) i + breaks_widths l at n i)

-- the breaks in their part of the bytes
module _ (l : List ℕ) (at n e : ℕ) (h : 8 * break_count n ≤ e) where
  pub set_in : (b : Bool) (m : ℕ) (t : List Float) → b ≡ set_formed m n (floats_of (break_count n) (take e (drop at l)))
      (with_widths (floats_of (break_count n) (take e (drop at l))) t)
      → b ≡ set_formed m n (breaks_at l at n) (with_widths (breaks_at l at n) t)
  set_in b m t q = q ∙ ap (λ (x : List Float). set_formed m n x (with_widths x t)) (each_part float_of (break_count n) e (drop at l) h)

  pub others_in : (b : Bool) (m : ℕ) (t : List Float) → b ≡ others_formed m n (floats_of (break_count n) (take e (drop at l)))
      (with_widths (floats_of (break_count n) (take e (drop at l))) t)
      → b ≡ others_formed m n (breaks_at l at n) (with_widths (breaks_at l at n) t)
  others_in b m t q = q ∙ ap (λ (x : List Float). others_formed m n x (with_widths x t)) (each_part float_of (break_count n) e (drop at l) h)

-- ---- the tests, in their order
sets_fail : (x s o r : Bool) → (s && o) ≡ false → false ≡ ((x && s) && o) && r
sets_fail false s o r e = refl
sets_fail true s o r e = rw e

sets_pass : (x s o r : Bool) → x ≡ true → (s && o) ≡ true → r ≡ ((x && s) && o) && r
sets_pass x s o r e f = rw (e, f)

module _ (c : Curve) (t : Slices) where
  abbrev axes : Bool
  axes = leb 1 c.d && leb c.d 16 && leb 1 c.k && leb c.k c.d && axes_formed c.axes c.k c.d

  abbrev set : Bool
  set = set_formed c.k c.segments t.breaks t.coefficients

  abbrev others : Bool
  others = others_formed (c.d - c.k) c.other_segments t.other_breaks t.other_coefficients

  abbrev range : Bool
  range = range_formed c.start c.end

  pub no_axis : c.d < 1 → false ≡ well_formed c t
  unfolding well_formed
  no_axis h = rw (lt-leb 1 c.d h)

  pub many_axes : 16 < c.d → false ≡ well_formed c t
  unfolding well_formed
  many_axes h = rw (lt-leb c.d 16 h, and-false)

  pub none_selected : c.k < 1 → false ≡ well_formed c t
  unfolding well_formed
  none_selected h = rw (lt-leb 1 c.k h, and-false)

  pub bad_axes_law : axes_formed c.axes c.k c.d ≡ false → false ≡ well_formed c t
  unfolding well_formed
  bad_axes_law h = rw (h, and-false)

  pub bad_sets : (set && others) ≡ false → false ≡ well_formed c t
  unfolding well_formed
  bad_sets h = sets_fail axes set others range h

  pub range_left : 1 ≤ c.d → c.d ≤ 16 → 1 ≤ c.k → c.k ≤ c.d → axes_formed c.axes c.k c.d ≡ true
      → (set && others) ≡ true → range ≡ well_formed c t
  unfolding well_formed
  range_left h₁ h₂ h₃ h₄ h₅ h₆ =
      sets_pass axes set others range (rw (le-leb 1 c.d h₁, le-leb c.d 16 h₂, le-leb 1 c.k h₃, le-leb c.k c.d h₄, h₅)) h₆

-- the number at a place
pub number_at : (l : List ℕ) (at : ℕ) → float_of (take (at + 8 - at) (drop at l)) ≡ number_of (low_first (take 8 (drop at l)))
number_at l at = ap (λ (n : ℕ). float_of (take n (drop at l))) {x = at + 8 - at} {y = 8} (omega arith)
