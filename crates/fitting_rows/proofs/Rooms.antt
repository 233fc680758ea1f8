-- The arrays at a place are as long as the readers ask, and their cells are cells of the slice.
use Rattle.std.proofs.Common.{◌≡◌, ℕ, ◌+◌, ◌-◌, ◌*◌, ◌<◌, ◌≤◌, List, length, ◌∙◌, arith}
use lib.Ieee.{Float}
use Rattle.arith.proofs.Rows.{rows_le, row_end}
use Rattle.window.proofs.Windows.{length_window}
use Rattle.fitting_rows.specs.declared.Place.{Place}
use Rattle.fitting_rows.specs.Arrays.{ArraysWithin, arrays_at}
use Rattle.fitting_rows.specs.Pieces.{waypoint_interval}

-- the arrays at p in the cells l
module _ (p : Place) (l : List Float) (h : ArraysWithin p (length l)) where
  pub knots_length : length (arrays_at p l).t ≡ p.count + 6
  knots_length = length_window p.knots (p.knots + (p.count + 6)) l (omega arith) (omega arith) ∙ omega arith

  pub controls_length : length (arrays_at p l).c ≡ p.count * p.axes
  controls_length = length_window p.controls (p.controls + p.count * p.axes) l (omega arith) (omega arith) ∙ omega arith

  pub parameters_length : length (arrays_at p l).s ≡ p.samples
  parameters_length = length_window p.parameters (p.parameters + p.samples) l (omega arith) (omega arith) ∙ omega arith

  pub points_length : length (arrays_at p l).y ≡ p.samples * p.axes
  points_length = length_window p.points (p.points + p.samples * p.axes) l (omega arith) (omega arith) ∙ omega arith

  -- the knots that the values on a span need, and those at its ends
  pub span_knots : (span : ℕ) → span < p.count → span + 5 < length (arrays_at p l).t
  span_knots span g = let e = knots_length in omega arith

  pub span_ends : (span : ℕ) → span < p.count → span + 1 < length (arrays_at p l).t
  span_ends span g = let e = knots_length in omega arith

  -- the six controls of a span
  pub span_controls : (span : ℕ) → 5 ≤ span → span < p.count → (span - 5 + 6) * p.axes ≤ length (arrays_at p l).c
  span_controls span a g =
      let e = controls_length in
      rows_le (span - 5 + 6) p.count p.axes (length (arrays_at p l).c) (omega arith) (omega arith)

  -- a sample's point
  pub sample_point : (i : ℕ) → i < p.samples → i * p.axes + p.axes ≤ length (arrays_at p l).y
  sample_point i g =
      let e = points_length in
      row_end i p.samples p.axes (length (arrays_at p l).y) g (omega arith)

-- an interval lies between two of the n samples
pub interval_within : (s : List Float) (n : ℕ) (x : Float) → 2 ≤ n → waypoint_interval s n x + 1 < n
unfolding waypoint_interval
interval_within s n x h = omega arith
