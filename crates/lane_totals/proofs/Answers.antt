-- What a lane file adds, by what reading it answers and check by check.
use mathlib.Core.Path.{◌≡◌, refl, sym, ap, ◌∙◌}
use mathlib.Core.Bool.{Bool, true, false}
use mathlib.Core.List.{List, map}
use Prim.Native.Nat.{ℕ, zero, suc, ◌+◌, ◌-◌, ◌*◌, ◌≤◌, ◌<◌}
use native.Mathlib.Omega.{arith}
use borrow.Author.Tests.{ne_eqb}
use lib.Ieee.{Float}
use lib.ListN.{length, take, drop, length-take}
use lib.Seq.{take_at}
use Rattle.forms.specs.Read.{Read, got, bad}
use Rattle.forms.specs.Form.{read_whole}
use Rattle.curve.specs.declared.Curve.{Curve}
use Rattle.curve.specs.Form.{Slices, well_formed}
use Rattle.curve.specs.Places.{axis_place}
use Rattle.lane_file.specs.File.{break_count, coefficient_count, Contents, file_form}
use Rattle.lane_file.specs.Curves.{Cells, cells, number_of, slices_of, curve_of, cells_of}
use Rattle.lane_file.specs.Outcome.{ReadOutcome, read_outcome, too_short, onto_cells, read_into, read_as, read_of, used_cells}
use Rattle.lane_file.proofs.FormedCurves.{Counts, formed_small}
use Rattle.heights.specs.Sets.{set_with, Sized}
use Rattle.heights.specs.Heights.{axis_set}
use Rattle.heights.proofs.Answered.{selected, others}
use Rattle.lane_totals.specs.Totals.{Totals, away}
use Rattle.lane_totals.specs.Lanes.{axis_totals, curve_totals, read_totals, lane_totals}

-- ---- a well-formed curve
module _ (c : Curve) (s : Slices) (w : well_formed c s ≡ true) where
  in_its_set : axis_totals (axis_set c s 0) ≡ curve_totals c s
  unfolding curve_totals
  in_its_set = rw w

  module _ (l : 0 < c.d) (place : ℕ) (e : place ≡ axis_place c.axes c.k 0) where
    pub in_selected : (t : Totals) → place < c.k → t ≡ axis_totals (set_with s.breaks s.coefficients c.segments c.k place)
        → t ≡ curve_totals c s
    in_selected t h g = g ∙ ap axis_totals (sym (selected c s 0 w l place e h)) ∙ in_its_set

    pub in_others : (t : Totals) → c.k ≤ place
        → t ≡ axis_totals (set_with s.other_breaks s.other_coefficients c.other_segments (c.d - c.k) (place - c.k))
        → t ≡ curve_totals c s
    in_others t h g = g ∙ ap axis_totals (sym (others c s 0 w l place e h)) ∙ in_its_set

-- ---- a set in the first cells of lent slices
module _ (n m at : ℕ) (b : List Float) (c : List ℕ)
    (h : Sized n m at (take (break_count n) b) (map number_of (take (coefficient_count n m + n) c)))
    (k : Counts m n (length (take (break_count n) b)) (length (take (coefficient_count n m + n) c))) where
  some_breaks : break_count n ≡ n + 1
  some_breaks = go n (omega (arith, h.3, length-take (break_count n) b))
    where
      go : (n : ℕ) → n + 1 ≤ break_count n → break_count n ≡ n + 1
      go zero g = absurd (omega (arith, g))
      go (suc n) g = rw (ne_eqb (suc n) 0 (λ e. absurd (omega (arith, e))))

  pub set_lent : (at < m) × (m ≤ 16) × (n ≤ 20000) × (n + 1 ≤ length b) × (6 * (n * m) + n ≤ length c)
  set_lent = (
    h.0,
    h.1,
    h.2,
    omega (arith, h.3, length-take (break_count n) b),
    omega (arith, k.coefficients_count, length-take (coefficient_count n m + n) c),
  )

  pub set_cut : (t : Totals) → t ≡ axis_totals (set_with (take (n + 1) b) (map number_of (take (6 * (n * m) + n) c)) n m at)
      → t ≡ axis_totals (set_with (take (break_count n) b) (map number_of (take (coefficient_count n m + n) c)) n m at)
  set_cut t e =
      e ∙ ap (λ (i : ℕ). axis_totals (set_with (take i b) (map number_of (take (6 * (n * m) + n) c)) n m at)) (sym some_breaks)

-- ---- what was read
-- the used cells are the curve's own
used_back : (c : Curve) (s lent : Cells) → well_formed c (slices_of s) ≡ true → used_cells c (onto_cells s lent) ≡ s
used_back c s lent w =
    let z = formed_small c s w in
    λ i. cells (take_at s.breaks (drop (length s.breaks) lent.breaks) _ z.set.breaks_count i)
    (take_at s.coefficients (drop (length s.coefficients) lent.coefficients) _ z.set.coefficients_count i)
    (take_at s.other_breaks (drop (length s.other_breaks) lent.other_breaks) _ z.others.breaks_count i)
    (take_at s.other_coefficients (drop (length s.other_coefficients) lent.other_coefficients) _ z.others.coefficients_count i)

-- 24, 19, or the curve
module _ (c : Curve) (s lent : Cells) where
  not_formed : well_formed c (slices_of s) ≡ false → (read_into c s lent).number ≡ 24
  unfolding read_into
  not_formed w = rw w

  short : well_formed c (slices_of s) ≡ true → too_short s lent ≡ true → (read_into c s lent).number ≡ 19
  unfolding read_into
  short w t = rw (w, t)

  done : well_formed c (slices_of s) ≡ true → too_short s lent ≡ false → read_into c s lent ≡ read_outcome 0 c (onto_cells s lent)
  unfolding read_into
  done w t = rw (w, t)

  away_24 : well_formed c (slices_of s) ≡ false → away ≡ curve_totals c (slices_of s)
  unfolding curve_totals
  away_24 w = rw w

  -- a number that is neither 0 nor 19 is 24
  into_away : ((read_into c s lent).number ≡ 0 → ⊥) → ((read_into c s lent).number ≡ 19 → ⊥) → away ≡ curve_totals c (slices_of s)
  into_away p q = go (well_formed c (slices_of s)) refl (too_short s lent) refl
    where
      go : (w : Bool) → well_formed c (slices_of s) ≡ w → (t : Bool) → too_short s lent ≡ t → away ≡ curve_totals c (slices_of s)
      go false e t f = away_24 e
      go true e true f = absurd (q (short e f))
      go true e false f = absurd (p (ap (λ (o : ReadOutcome). o.number) (done e f)))

  -- 0 says that the curve stands in the slices
  into_read : (o : ReadOutcome) → o ≡ read_into c s lent → o.number ≡ 0
      → curve_totals o.curve (slices_of (used_cells o.curve o.cells)) ≡ curve_totals c (slices_of s)
  into_read o g n = go (well_formed c (slices_of s)) refl (too_short s lent) refl
    where
      go : (w : Bool) → well_formed c (slices_of s) ≡ w → (t : Bool) → too_short s lent ≡ t
          → curve_totals o.curve (slices_of (used_cells o.curve o.cells)) ≡ curve_totals c (slices_of s)
      go false e t f = absurd (omega (arith, n, ap (λ (o : ReadOutcome). o.number) g, not_formed e))
      go true e true f = absurd (omega (arith, n, ap (λ (o : ReadOutcome). o.number) g, short e f))
      go true e false f =
          ap (λ (o : ReadOutcome). curve_totals o.curve (slices_of (used_cells o.curve o.cells))) (g ∙ done e f)
          ∙ ap (λ (s : Cells). curve_totals c (slices_of s)) (used_back c s lent e)

-- 27, or the curve that the file holds
read_away : (r : Read Contents) (lent : Cells) → ((read_as r lent).number ≡ 0 → ⊥) → ((read_as r lent).number ≡ 19 → ⊥) → away ≡ read_totals r
unfolding read_as
read_away bad lent p q = refl
read_away (got x rest) lent p q = into_away (curve_of x) (cells_of x.patterns) lent p q

read_done : (r : Read Contents) (lent : Cells) (o : ReadOutcome) → o ≡ read_as r lent → o.number ≡ 0
    → curve_totals o.curve (slices_of (used_cells o.curve o.cells)) ≡ read_totals r
unfolding read_as
read_done bad lent o g n = absurd (omega (arith, n, ap (λ (o : ReadOutcome). o.number) g))
read_done (got x rest) lent o g n = into_read (curve_of x) (cells_of x.patterns) lent o g n

-- a file that is turned away by 27 or 24
pub file_away : (l : List ℕ) (lent : Cells) → ((read_of l lent).number ≡ 0 → ⊥) → ((read_of l lent).number ≡ 19 → ⊥) → away ≡ lane_totals l
unfolding lane_totals
file_away l lent p q = read_away (read_whole file_form l) lent p q

-- a file whose curve was read
pub file_read : (l : List ℕ) (lent : Cells) (o : ReadOutcome) → o ≡ read_of l lent → o.number ≡ 0
    → curve_totals o.curve (slices_of (used_cells o.curve o.cells)) ≡ lane_totals l
unfolding lane_totals
file_read l lent o g n = read_done (read_whole file_form l) lent o g n
