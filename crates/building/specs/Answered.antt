-- The answer of `build`'s definition to the arguments of the code; and its part from the check 1 on, before the result is put together.
use Rattle.std.specs.Prelude.{◌≡◌, ℕ, ◌+◌, ◌-◌, ◌*◌, ◌≤◌, ◌<◌, max, cond, List, eqb, length, get_or, take, Float, Result as Tried, Ok, Err, IfOk}
use Rattle.window.specs.Rows.{list_of}
use Rattle.request.specs.declared.parameters.Spacing.TheVariants.{Listed}
use Rattle.curve.specs.declared.Curve.{Curve}
use Rattle.curve.specs.declared.Mode.{Mode}
use Rattle.curve.specs.Form.{with_widths}
use Rattle.smoothing.specs.Answer.{Answer}
use Rattle.smoothing.specs.Answer.Answer.{done, refused}
use Rattle.smoothing.specs.Request.{Lane, Limits, axis_count, smoothed_axes}
use Rattle.smoothing.specs.Checks.{refusal_of}
use Rattle.smoothing.specs.Rows.{lane_task, lane_units, other_axes}
use Rattle.smoothing.specs.Build.{Result, other_of, build_in}
use Rattle.refinement.specs.declared.plan.Plan.{Plan}
use Rattle.refinement.specs.Memory.{Roomy, cells_of, memory_at, sized}
use Rattle.building.specs.declared.Report.{Report}
use Rattle.building.specs.declared.answers.Refusal.{Refusal}
use Rattle.building.specs.declared.compute.Computed.{Computed}
use Rattle.building.specs.declared.entry.Run.{Run}
use Rattle.window.specs.Cells.{onto}
use Rattle.building.specs.Outcome.{refused_by, Results, results, lengths_of}
use Rattle.building.specs.Computed.{Both, both, both_from, selected_at, other_at}

-- a request in lent slices
abbrev pub answer_to : Lane → Limits → List Float → Results → Answer Result
answer_to l m work s = build_in (lengths_of work s) (record { lane = l; limits = m })

-- 1 to 17, and the other axes
unfoldable pub checked_both : Lane → Limits → Answer Both
checked_both l m =
    let rest = both_from m (lane_task l) (lane_units l) (other_of l) in cond (eqb (refusal_of l) 0) rest (refused (refusal_of l))

-- the plan of a lane's work slice
abbrev pub plan_of : Lane → Limits → Plan
plan_of l m = record { axes = axis_count l; samples = l.n; room = max l.n m.segments + 16; count = 6 }

-- what the code computed, where it lies, or its refusal
abbrev pub run_in : Lane → Limits → Tried Run Refusal → List Float → Answer Both
run_in l m (Ok r) w =
    done (both (selected_at (plan_of l m) r.computed w) (other_at (plan_of l m) (length (other_axes l)) r.computed w))
run_in l m (Err e) w = refused_by e

-- the result slices once the selected axes of the plan p and j other axes are written to their first cells
abbrev pub results_from : Plan → ℕ → Computed → List Float → Results → Results
results_from p j r w s =
    results
    (onto (memory_at p w).breaks s.breaks) (onto (with_widths (memory_at p w).breaks (memory_at p w).coefficients) s.coefficients)
    (onto (other_at p j r w).breaks s.other_breaks)
    (onto (with_widths (other_at p j r w).breaks (other_at p j r w).coefficients) s.other_coefficients)
    (onto (take p.axes r.errors) s.errors)

-- they have room for that
pub record Writable (p : Plan) (j : ℕ) (r : Computed) (cells : ℕ) (s : Results) : Type 0 where
  pub roomy : Roomy p cells
  pub others_fit : cells_of p + (10 * p.room + 8 * (p.room * j)) ≤ cells
  pub others_few : j ≤ 16
  pub waypoints_fit : p.samples + 16 ≤ p.room
  pub segments_few : r.other_segments < p.samples
  pub breaks : p.count - 5 + 1 ≤ length s.breaks
  pub coefficients : (p.count - 5) * (6 * p.axes) + (p.count - 5) ≤ length s.coefficients
  pub other_breaks : p.samples ≤ length s.other_breaks
  pub other_coefficients : r.other_segments * (6 * j) + r.other_segments ≤ length s.other_coefficients
  pub errors : p.axes ≤ length s.errors

-- 19 lets these lengths through
pub record Fitting (d n : ℕ) (m : Limits) (s : Results) : Type 0 where
  pub breaks : m.segments + 1 ≤ length s.breaks
  pub coefficients : m.segments * (6 * d) + m.segments ≤ length s.coefficients
  pub other_breaks : n ≤ length s.other_breaks
  pub other_coefficients : n * (6 * d) + n ≤ length s.other_coefficients
  pub errors : d ≤ length s.errors

-- what 18, 20 and 19 let through
pub record Domain (d n : ℕ) (m : Limits) (points work : ℕ) : Type 0 where
  pub d_most : d ≤ 16
  pub n_most : n ≤ 20000
  pub segments_most : m.segments ≤ 20000
  pub refinements_most : m.refinements ≤ 200
  pub points_are : points ≡ d * n
  pub work_fits : (max n m.segments + 16) * (16 * d + 32) ≤ work

-- where everything is done: the axes, and the places of both polynomials
pub record BothPlaced (l : Lane) (m : Limits) (r : Run) (cells : ℕ) : Type 0 where
  pub k_is : r.k ≡ axis_count l
  pub j_is : r.j ≡ length (other_axes l)
  pub two : 2 ≤ l.n
  pub listed : l.spacing ≡ Listed → l.n ≤ length l.parameters
  pub all_axes : length (other_axes l) + axis_count l ≡ l.d
  pub axes_are : r.axes ≡ list_of 16 (λ i. get_or (smoothed_axes l) i 0)
  pub roomy : Roomy (sized (plan_of l m) r.computed.count) cells
  pub few : r.computed.count ≤ m.segments + 5
  pub others_few : r.computed.other_segments < l.n

-- the run of a lane
pub record Ran (l : Lane) (m : Limits) (r : Tried Run Refusal) (w : List Float) : Type 0 where
  pub is : run_in l m r w ≡ checked_both l m
  pub places : IfOk r (λ run. BothPlaced l m run (length w))

-- the report and the curve that the code makes of a run
abbrev pub report_in : Run → Report
report_in r =
    record {
      segments = r.computed.count - 5;
      interpolated_segments = cond (eqb r.j 0) 0 r.computed.other_segments;
      refinements = r.computed.report.refinements;
      fitting_rows = r.computed.report.rows;
      checked_intervals = r.computed.report.intervals;
    }

abbrev pub curve_in : Run → ℕ → Float → Float → Mode → Curve
curve_in r d start end mode =
    record {
      d = d;
      k = r.k;
      axes = r.axes;
      start = start;
      end = end;
      mode = mode;
      segments = r.computed.count - 5;
      other_segments = cond (eqb r.j 0) 0 r.computed.other_segments;
    }
