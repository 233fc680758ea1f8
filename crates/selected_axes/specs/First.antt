-- The steps up to the first audit, as the code takes them.
use Rattle.std.specs.Prelude.{ℕ, ◌+◌, Bool, not, List, Float}
use Rattle.std.specs.Float.Ieee.{le}
use Rattle.arith.specs.Operations.{floats}
use Rattle.window.specs.Window.{window}
use Rattle.request.specs.Any.{any}
use Rattle.smoothing.specs.Rows.{Task}
use Rattle.smoothing.specs.Start.{chord_error}
use Rattle.refinement.specs.declared.plan.Plan.{Plan}
use Rattle.refinement.specs.Memory.{knots_place}

-- the task of n waypoints of k axes
abbrev pub task_over : ℕ → ℕ → List Float → List Float → Task
task_over n k s y = record { n = n; k = k; s = s; y = y }

-- some axis of waypoint i is not within 0.95 of the chord: a turn of `curved`
abbrev pub strayed : Task → ℕ → Bool
strayed q i = any q.k (λ a. not (le (chord_error q i a) (floats.literal 95 100)))

-- so many knots behind the first six
abbrev pub inner_knots : Plan → ℕ → List Float → List Float
inner_knots p count w = window (knots_place p + 6) (knots_place p + 6 + count) w
