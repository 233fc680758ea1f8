-- Document 02, request 3: "The Rust comparison for version 2 passes it the same parameters as a list". A lane and the lane whose parameters
-- are handed in as a list have one answer, whatever the spacing.
use Rattle.std.proofs.Common.{◌≡◌, refl}
use Rattle.request.specs.declared.parameters.Spacing.TheVariants.{Listed}
use Rattle.request.specs.Parameters.{parameter_list}
use Rattle.smoothing.specs.Request.{Lane, Limits, lane_parameters}
use Rattle.smoothing.specs.Checks.{Room, wide_lane, miscounted_points, short_room, no_axes, bad_axes, bad_tolerance, refusal_of}
use Rattle.smoothing.specs.Rows.{parameters_of, smoothed_rows, lane_units, lane_task, other_rows}
use Rattle.smoothing.specs.Build.{other_of, result_of, smoothed_of, checked_of, answer_of, build_in}

-- the lane with its parameters as a list
abbrev pub as_listed : Lane → Lane
as_listed l =
    record {
      d = l.d;
      n = l.n;
      axes = l.axes;
      tolerance = l.tolerance;
      spacing = Listed;
      parameters = lane_parameters l;
      points = l.points;
    }

pub listed_answer : (room : Room) (l : Lane) (m : Limits)
    → build_in room (record { lane = l; limits = m }) ≡ build_in room (record { lane = as_listed l; limits = m })
unfolding build_in answer_of checked_of smoothed_of result_of other_of wide_lane miscounted_points short_room no_axes bad_axes bad_tolerance refusal_of
    parameters_of smoothed_rows lane_units lane_task other_rows parameter_list
listed_answer room l m = refl
