-- The rows of the source's `interpolate`, over the arrays in the lent slice.
use Rattle.std.specs.Prelude.{ℕ, ◌-◌, ◌*◌, Float}
use Rattle.arith.specs.Operations.{floats}
use Rattle.window.specs.Cells.{at, zeros}
use Rattle.bspline.specs.Search.{span_of}
use Rattle.bspline.specs.Values.{values_of}
use Rattle.bspline.specs.Powers.{powers_of}
use Rattle.normal.specs.Add.{row_of}
use Rattle.normal.specs.declared.Row.{Row}
use Rattle.fitting_rows.specs.Arrays.{Arrays, arrays}
use Rattle.fitting_rows.specs.Samples.{point_of, sample_span}
use Rattle.smoothing.specs.Interpolate.{waypoint_knots, control_count, derivative_of}

-- the arrays with `b.t` a knot at every inner waypoint, and `b.c` all +0
abbrev pub prepared : Arrays → Arrays
prepared x =
    let m = control_count x.n x.d x.s x.y in
    arrays (waypoint_knots x.n x.d x.s x.y) (zeros (m * x.d)) m x.d x.s x.y x.n

-- the row of waypoint i
unfoldable pub waypoint_row : Arrays → ℕ → Row
waypoint_row x i =
    let span = sample_span x i in
    row_of x.c x.d (span - 5) (values_of floats x.t span (at x.s i)) floats.one (point_of x.y x.d i)

-- the row of the derivative of order r at an end u whose interval is h wide; target 0 for up to 16 axes, as in `row_of`
unfoldable pub end_row : Arrays → Float → Float → ℕ → Row
end_row x u h r =
    let span = span_of floats x.t x.m u in
    row_of x.c x.d (span - 5) (derivative_of x.n x.d x.s x.y (powers_of floats x.t span u) h r) floats.one (zeros 16)
