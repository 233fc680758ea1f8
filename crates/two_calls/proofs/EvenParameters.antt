-- Where the parameters are even, the list beside them is not read: calls that differ in it have one answer.
use mathlib.Core.Path.{◌≡◌, refl}
use mathlib.Core.List.{List}
use lib.Ieee.{Float}
use Prim.Native.Nat.{ℕ}
use Rattle.request.specs.declared.parameters.Spacing.TheVariants.{Even}
use Rattle.request.specs.Parameters.{parameter_list}
use Rattle.curve.specs.declared.Curve.{Curve}
use Rattle.curve.specs.Form.{Slices}
use Rattle.figure.specs.Certify.{certify_of}
use Rattle.smoothing.specs.Request.{Lane, Limits}
use Rattle.smoothing.specs.Checks.{wide_lane, miscounted_points, short_room, no_axes, bad_axes, bad_tolerance, refusal_of}
use Rattle.smoothing.specs.Rows.{parameters_of, smoothed_rows, lane_units, lane_task, other_rows}
use Rattle.smoothing.specs.Build.{other_of, result_of, smoothed_of, checked_of, answer_of, build_in}
use Rattle.building.specs.Outcome.{Results}
use Rattle.building.specs.Answered.{answer_to}

-- the lane with even parameters, and a list beside it
abbrev pub evenly : Lane → List Float → Lane
evenly l list =
    record {
      d = l.d;
      n = l.n;
      axes = l.axes;
      tolerance = l.tolerance;
      spacing = Even;
      parameters = list;
      points = l.points;
    }

pub list_unread : (l : Lane) (list list' : List Float) (m : Limits) (work : List Float) (lent : Results)
    → answer_to (evenly l list) m work lent ≡ answer_to (evenly l list') m work lent
unfolding build_in answer_of checked_of smoothed_of result_of other_of wide_lane miscounted_points short_room no_axes bad_axes bad_tolerance refusal_of
    parameters_of smoothed_rows lane_units lane_task other_rows parameter_list
list_unread l list list' m work lent = refl

pub certificate_unread : (c : Curve) (s : Slices) (points : List Float) (n : ℕ) (list list' : List Float) (axis depth : ℕ)
    → certify_of c s points n Even list axis depth ≡ certify_of c s points n Even list' axis depth
unfolding certify_of parameter_list
certificate_unread c s points n list list' axis depth = refl
