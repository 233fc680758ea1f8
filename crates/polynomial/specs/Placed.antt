-- A curve, its waypoints and its audit in the cells of one lent slice.
use Rattle.std.specs.Prelude.{ℕ, ◌+◌, ◌-◌, ◌*◌, ◌≤◌, ◌<◌, List, Float}
use Rattle.window.specs.Window.{window, splice}
use Rattle.window.specs.Cells.{at}
use Rattle.polynomial.specs.declared.audit.Parts.{Parts}
use Rattle.polynomial.specs.Interval.{Interval, interval_of}
use Rattle.polynomial.specs.Audit.{Audit, audit_of}

-- the parts lie within n cells, what is written apart from what is read
pub record PartsLaid (p : Parts) (n : ℕ) : Type 0 where
  pub few : p.axes ≤ 16
  pub some : 0 < p.segments
  pub parameters_end : p.parameters + p.samples ≤ p.bounds
  pub points_end : p.points + p.samples * p.axes ≤ p.bounds
  pub bounds_end : p.bounds + (p.samples - 1) * p.axes ≤ p.witness
  pub before_breaks : p.witness + (p.samples - 1) ≤ p.breaks
  pub before_coefficients : p.witness + (p.samples - 1) ≤ p.coefficients
  pub breaks_end : p.breaks + p.segments + 1 ≤ n
  pub coefficients_end : p.coefficients + p.segments * (6 * p.axes) ≤ n

-- the parts at p of the slice w
abbrev pub breaks_at : Parts → List Float → List Float
breaks_at p w = window p.breaks (p.breaks + p.segments + 1) w

abbrev pub coefficients_at : Parts → List Float → List Float
coefficients_at p w = window p.coefficients (p.coefficients + p.segments * (6 * p.axes)) w

abbrev pub parameters_at : Parts → List Float → List Float
parameters_at p w = window p.parameters (p.parameters + p.samples) w

abbrev pub points_at : Parts → List Float → List Float
points_at p w = window p.points (p.points + p.samples * p.axes) w

abbrev pub bounds_at : Parts → List Float → List Float
bounds_at p w = window p.bounds (p.bounds + (p.samples - 1) * p.axes) w

abbrev pub witness_at : Parts → List Float → List Float
witness_at p w = window p.witness (p.witness + (p.samples - 1)) w

-- interval i of the curve at p, from segment `span` on
abbrev pub interval_at : Parts → ℕ → ℕ → List Float → Interval
interval_at p i span w =
    interval_of (breaks_at p w) (coefficients_at p w) (parameters_at p w) (points_at p w) p.axes i span (at (witness_at p w) i)

-- the audit of the curve at p
abbrev pub audit_at : Parts → ℕ → ℕ → List Float → Audit
audit_at p first last w =
    audit_of (breaks_at p w) (coefficients_at p w) (parameters_at p w) (points_at p w) p.axes first last (bounds_at p w) (witness_at p w)

-- the slice with these bounds and witnesses
abbrev pub with_bounds : Parts → List Float → List Float → List Float → List Float
with_bounds p bounds witness w =
    splice p.witness (p.witness + (p.samples - 1)) witness (splice p.bounds (p.bounds + (p.samples - 1) * p.axes) bounds w)
