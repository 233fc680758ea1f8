-- A request as the code takes it, as `smoothing` has it.
use Rattle.std.specs.Prelude.{ℕ, List, Float}
use Rattle.request.specs.declared.parameters.Spacing.{Spacing}
use Rattle.smoothing.specs.Request as smoothing
use Rattle.smoothing.specs.Request.{Lane}
use Rattle.smoothing.specs.Request.Axes.{all, listed}
use Rattle.smoothing.specs.Request.Tolerance.{uniform, per_axis}
use Rattle.checks.specs.declared.Axes.{Axes}
use Rattle.checks.specs.declared.Axes.TheVariants.{All, Listed}
use Rattle.checks.specs.declared.Tolerance.{Tolerance}
use Rattle.checks.specs.declared.Tolerance.TheVariants.{Uniform, PerAxis}
use Rattle.checks.specs.declared.Limits.{Limits}
use Rattle.checks.specs.declared.Request.{Request}

-- `cfg.axes`
unfoldable pub axes_of : Axes → smoothing.Axes
axes_of All = all
axes_of (Listed list) = listed list.now

-- `cfg.tolerance`
unfoldable pub tolerance_of : Tolerance → smoothing.Tolerance
tolerance_of (Uniform x) = uniform x
tolerance_of (PerAxis list) = per_axis list.now

abbrev pub limits_of : Limits → smoothing.Limits
limits_of m = record { refinements = m.refinements; segments = m.segments }

abbrev pub lane_with : ℕ → ℕ → smoothing.Axes → smoothing.Tolerance → Spacing → List Float → List Float → Lane
lane_with d n axes tolerance spacing parameters points =
    record { d = d; n = n; axes = axes; tolerance = tolerance; spacing = spacing; parameters = parameters; points = points }

-- all of a request but its limits
abbrev pub lane_of : Request → Lane
lane_of r = lane_with r.d r.n (axes_of r.axes) (tolerance_of r.tolerance) r.spacing r.parameters.now r.points.now

-- the smoothed axes, of d
abbrev pub axes_in : Axes → ℕ → List ℕ
axes_in axes d = smoothing.axes_of (axes_of axes) d

-- the tolerances of k axes
abbrev pub tolerances_in : Tolerance → ℕ → List Float
tolerances_in tolerance k = smoothing.tolerances_of (tolerance_of tolerance) k
