-- `SmoothedSpline::build`: document 01's `build`, from the request to the curve and its report.
use Rattle.std.specs.Prelude.{ℕ, ◌-◌, Bool, false, cond, ◌||◌, List, [], length, ◌==◌, slice_index, Float}
use Rattle.window.specs.Cells.{at}
use Rattle.window.specs.Rows.{list_of}
use Rattle.bspline.specs.Segments.{Polynomial}
use Rattle.curve.specs.declared.Curve.{Curve}
use Rattle.curve.specs.declared.Mode.{Mode}
use Rattle.curve.specs.Form.{Slices, slices, with_widths}
use Rattle.smoothing.specs.Answer.{Answer, and_then}
use Rattle.smoothing.specs.Answer.Answer.{done, refused}
use Rattle.smoothing.specs.Request.{Lane, Limits, Request, smoothed_axes, lane_parameters}
use Rattle.smoothing.specs.Checks.{wide_lane, wide_limits, miscounted_points, refusal_of, Room, short_room}
use Rattle.smoothing.specs.Rows.{Task, Units, lane_task, lane_units, other_axes, other_rows, parameters_of}
use Rattle.smoothing.specs.State.{Counts}
use Rattle.smoothing.specs.Start.{start_of}
use Rattle.smoothing.specs.Round.{refine_of}
use Rattle.smoothing.specs.Finish.{Selected, finish_of}
use Rattle.smoothing.specs.Interpolate.{interpolate_of}

-- `SmoothingReport`, the axes apart
pub record Report : Type 0 where
  pub segments : ℕ
  pub interpolated : ℕ
  pub work : Counts
  pub errors : List Float

-- what an accepted request gives; without other axes that curve has neither segments nor breaks
pub record Result : Type 0 where
  pub selected : Polynomial Float
  pub other : Polynomial Float
  pub axes : List ℕ
  pub start : Float
  pub end : Float
  pub report : Report

-- "A curve is d, the k axes, start, end, mode", with the number of segments of each set. The cells of `axes` from k on mean nothing, and
-- are 0.
unfoldable pub curve_of : Mode → ℕ → Result → Curve
curve_of mode d x =
    record {
      d = d;
      k = length x.axes;
      axes = list_of 16 (λ i. slice_index x.axes i);
      start = x.start;
      end = x.end;
      mode = mode;
      segments = x.report.segments;
      other_segments = x.report.interpolated;
    }

-- the four slices beside it, with the widths of both sets (document 02, request 12)
abbrev pub slices_of : Result → Slices
slices_of x =
    slices x.selected.breaks (with_widths x.selected.breaks x.selected.coefficients) x.other.breaks
    (with_widths x.other.breaks x.other.coefficients)

-- `Polynomial::segments`, 0 of no polynomial
abbrev pub segments_of : Polynomial Float → ℕ
segments_of p = length p.breaks - 1

-- the selected axes: 8 to 17. Of the limits, max_segments is tested in 8 and 15, max_refinements in 14.
unfoldable pub selected_of : Limits → Task → Units → Answer Selected
selected_of m q u =
    and_then (and_then (start_of m.segments q) (refine_of m.segments m.refinements q)) (finish_of q u)

-- `if other.is_empty() { None } else { Some(interpolate(points, &s, &other)?) }`: "other axes come last and can give 9, 10, 11"
unfoldable pub other_of : Lane → Answer (Polynomial Float)
other_of l =
    let none : Answer (Polynomial Float) = done (record { breaks = []; coefficients = [] }) in
    let some = interpolate_of l.n (length (other_axes l)) (parameters_of l) (other_rows l) in
    cond (length (other_axes l) == 0) none some

-- `Ok(Self { .. })`
unfoldable pub result_of : Lane → Selected → Polynomial Float → Result
result_of l x p =
    record {
      selected = x.curve;
      other = p;
      axes = smoothed_axes l;
      start = at (lane_parameters l) 0;
      end = at (lane_parameters l) (l.n - 1);
      report = record { segments = segments_of x.curve; interpolated = segments_of p; work = x.report; errors = x.errors };
    }

-- from 8 on
unfoldable pub smoothed_of : Lane → Limits → Answer Result
smoothed_of l m = and_then (selected_of m (lane_task l) (lane_units l)) (λ x. and_then (other_of l) (λ p. done (result_of l x p)))

-- from 1 on
unfoldable pub checked_of : Lane → Limits → Answer Result
checked_of l m =
    let rest = smoothed_of l m in cond (refusal_of l == 0) rest (refused (refusal_of l))

-- "Request order: 18, 20, 19, 1 to 7, then 8 to 17 in the source's course of work"; `short` is 19, which is no part of a request
unfoldable pub answer_of : Bool → Request → Answer Result
answer_of short r =
    let checked = checked_of r.lane r.limits in
    let roomy = cond short (refused 19) checked in
    let counted = cond (miscounted_points r.lane) (refused 20) roomy in
    cond (wide_lane r.lane || wide_limits r.limits) (refused 18) counted

-- where every lent slice is long enough
unfoldable pub build_of : Request → Answer Result
build_of r = answer_of false r

-- in lent slices of these lengths
unfoldable pub build_in : Room → Request → Answer Result
build_in room r = answer_of (short_room room r.lane r.limits) r
