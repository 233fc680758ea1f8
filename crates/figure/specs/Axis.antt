-- What is certified, as it stands in the slices of a curve and of its request.
use Rattle.std.specs.Prelude.{ℕ, ◌*◌, ◌+◌, ◌-◌, List, Float, length}
use Rattle.window.specs.Cells.{at}
use Rattle.request.specs.declared.parameters.Spacing.{Spacing}
use Rattle.request.specs.Parameters.{normalised_of, parameter_list}
use Rattle.figure.specs.Figure.{Axis}

-- The axis at a place of the k axes of a set of segments: "their breaks and six power coefficients per segment and, within it, per axis".
-- Its waypoints are row `axis` of "waypoint after waypoint, d rows each, n waypoints"; s are "the parameters normalised as `build` does
-- it", and "follow the version too" (document 02, request 3).
abbrev pub axis_of : List Float → List Float → ℕ → ℕ → List Float → ℕ → ℕ → ℕ → Spacing → List Float → Axis
axis_of breaks coefficients k place points d axis n spacing parameters =
    record {
      segments = length breaks - 1;
      break = at breaks;
      coefficient = λ m j. at coefficients (6 * (m * k + place) + j);
      intervals = n - 1;
      parameter = normalised_of (parameter_list spacing parameters points d n) n;
      waypoint = λ i. at points (i * d + axis);
    }
