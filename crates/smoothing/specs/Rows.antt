-- The rows that are smoothed, gathered from the points, and those that are not. Everything up to the other axes depends on the points only
-- through the rows gathered here.
use Rattle.std.specs.Prelude.{ℕ, zero, suc, ◌+◌, ◌*◌, cond, List, [], ◌∷◌, ◌++◌, length, nat_lt, slice_index, Float}
use Rattle.std.specs.Float.{binary64}
use Rattle.std.specs.Float.Ieee.{sub, div}
use Rattle.window.specs.Cells.{at}
use Rattle.window.specs.Rows.{list_of, table}
use Rattle.request.specs.Parameters.{normalised_of}
use Rattle.curve.specs.Places.{position_of}
use Rattle.smoothing.specs.Request.{Lane, smoothed_axes, axis_count, lane_parameters, tolerance_list}

-- `points[(axes[a], i)]`, waypoint after waypoint: the rows `axes` of n points of d rows
unfoldable pub gathered : List Float → ℕ → ℕ → List ℕ → List Float
gathered points d n axes = table n (length axes) (λ i a. at points (i * d + slice_index axes a))

-- `(points[(axes[a], i)] - points[(axes[a], 0)]) / eps[a]`: the gathered rows, centred, over their tolerances
unfoldable pub centred : List Float → List Float → ℕ → ℕ → List Float
centred rows eps n k = table n k (λ i a. div binary64 (sub binary64 (at rows (i * k + a)) (at rows a)) (at eps a))

-- `s`: the normalised parameters
unfoldable pub parameters_of : Lane → List Float
parameters_of l = list_of l.n (normalised_of (lane_parameters l) l.n)

-- what is smoothed: n waypoints of k axes at the parameters s, centred over their tolerances
pub record Task : Type 0 where
  pub n : ℕ
  pub k : ℕ
  pub s : List Float
  pub y : List Float

-- and what brings the curve back to physical units: the waypoints as handed in, and the tolerances
pub record Units : Type 0 where
  pub rows : List Float
  pub eps : List Float

unfoldable pub task_of : ℕ → ℕ → List Float → Units → Task
task_of n k s u = record { n = n; k = k; s = s; y = centred u.rows u.eps n k }

-- the smoothed rows of a lane
unfoldable pub smoothed_rows : Lane → List Float
smoothed_rows l = gathered l.points l.d l.n (smoothed_axes l)

unfoldable pub lane_units : Lane → Units
lane_units l = record { rows = smoothed_rows l; eps = tolerance_list l }

-- the task that a lane sets
unfoldable pub lane_task : Lane → Task
lane_task l = task_of l.n (axis_count l) (parameters_of l) (lane_units l)

-- `(0..d).filter(|a| !seen[*a])`: the axes below d that are not among `axes`, in rising order
unfoldable pub left_over : List ℕ → ℕ → List ℕ
left_over axes zero = []
left_over axes (suc a) = left_over axes a ++ cond (nat_lt (position_of axes (length axes) a) (length axes)) [] (a ∷ [])

abbrev pub other_axes : Lane → List ℕ
other_axes l = left_over (smoothed_axes l) l.d

unfoldable pub other_rows : Lane → List Float
other_rows l = gathered l.points l.d l.n (other_axes l)
