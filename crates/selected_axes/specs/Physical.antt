-- Back to physical units.
use Rattle.std.specs.Prelude.{List, Float}
use Rattle.std.specs.Float.{binary64}
use Rattle.std.specs.Float.Ieee.{add, mul}
use Rattle.smoothing.specs.Rows.{Units}
use Rattle.smoothing.specs.Finish.{physical_of, final_polynomial}
use Rattle.refinement.specs.declared.plan.Plan.{Plan}
use Rattle.refinement.specs.Memory.{Memory, spline_in}

-- `b.c[i * k + a] * eps[a] + points[(axes[a], 0)]`
abbrev pub scaled : Float → Float → Float → Float
scaled c eps first = add binary64 (mul binary64 c eps) first

-- other points
abbrev pub with_points : List Float → Memory → Memory
with_points y x =
    record {
      s = x.s;
      y = y;
      t = x.t;
      c = x.c;
      bounds = x.bounds;
      witness = x.witness;
      locations = x.locations;
      breaks = x.breaks;
      coefficients = x.coefficients;
    }

-- the arrays before the final audit: the waypoints as handed in, and the spline and its polynomial in their units
abbrev pub physical_in : Plan → Units → Memory → Memory
physical_in p u x =
    record {
      s = x.s;
      y = u.rows;
      t = x.t;
      c = physical_of u p.axes (spline_in p x);
      bounds = x.bounds;
      witness = x.witness;
      locations = x.locations;
      breaks = (final_polynomial u p.axes (spline_in p x)).breaks;
      coefficients = (final_polynomial u p.axes (spline_in p x)).coefficients;
    }
