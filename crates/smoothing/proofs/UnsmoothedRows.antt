-- Request 10, "Rows that are left unsmoothed must not matter": accepted requests with equal smoothed rows have equal smoothed curves
-- and reports.
use Rattle.std.proofs.Common.{◌≡◌, ℕ, ◌+◌, ◌-◌, Bool, true, false, cond, eqb, List, [], length, sym, ap, ◌∙◌}
use lib.Ieee.{Float}
use Rattle.arith.specs.Operations.{floats}
use Rattle.window.specs.Rows.{list_of}
use Rattle.request.specs.declared.parameters.Spacing.TheVariants.{Chord}
use Rattle.request.specs.Parameters.{normalised_of}
use Rattle.request.proofs.Spaced.{points_unread}
use Rattle.bspline.specs.Segments.{Polynomial}
use Rattle.bspline.proofs.Breaks.{breaks_same}
use Rattle.normal.specs.Solve.{solve_of}
use Rattle.smoothing.specs.Answer.{Answer}
use Rattle.smoothing.specs.Answer.Answer.{done}
use Rattle.smoothing.specs.Request.{Lane, Limits, tolerance_list, axis_count}
use Rattle.smoothing.specs.Rows.{task_of, lane_task, lane_units, parameters_of, smoothed_rows, other_axes, other_rows}
use Rattle.smoothing.specs.Finish.{Selected}
use Rattle.smoothing.specs.Interpolate.{waypoint_knots, control_count, interpolation_system, interpolate_of}
use Rattle.smoothing.specs.Build.{Result, segments_of, selected_of, other_of, result_of, build_of}
use Rattle.smoothing.proofs.Accepted.{done_same, unless_done, build_accepted}

-- the lane with other points
abbrev pub with_points : Lane → List Float → Lane
with_points l points =
    record {
      d = l.d;
      n = l.n;
      axes = l.axes;
      tolerance = l.tolerance;
      spacing = l.spacing;
      parameters = l.parameters;
      points = points;
    }

-- the task depends on the points only through the smoothed rows, and so do its units
units_same : (l : Lane) (points : List Float) → smoothed_rows l ≡ smoothed_rows (with_points l points)
    → lane_units l ≡ lane_units (with_points l points)
unfolding lane_units
units_same l points e = ap (λ (rows : List Float). record { rows = rows; eps = tolerance_list l }) e

-- chords apart, the parameters do not depend on the points
parameters_same : (l : Lane) (points : List Float) → (l.spacing ≡ Chord → ⊥) → parameters_of l ≡ parameters_of (with_points l points)
unfolding parameters_of
parameters_same l points h =
    ap (λ (p : List Float). list_of l.n (normalised_of p l.n))
    (points_unread l.spacing h l.parameters l.points points l.d l.n)

selected_same : (l : Lane) (points : List Float) (m : Limits) → (l.spacing ≡ Chord → ⊥)
    → smoothed_rows l ≡ smoothed_rows (with_points l points)
    → selected_of m (lane_task l) (lane_units l) ≡ selected_of m (lane_task (with_points l points)) (lane_units (with_points l points))
unfolding lane_task
selected_same l points m h e =
    let u = units_same l points e in
    let s = parameters_same l points h in
    λ i. selected_of m (task_of l.n (axis_count l) (s i) (u i)) (u i)

-- the number of the other axes' segments does not depend on their rows
others_segments : (n d : ℕ) (s rows rows' : List Float) (p p' : Polynomial Float) → interpolate_of n d s rows ≡ done p
    → interpolate_of n d s rows' ≡ done p' → segments_of p ≡ segments_of p'
unfolding interpolate_of
others_segments n d s rows rows' p p' h h' =
    let a = unless_done _ _ p h in
    let b = unless_done _ _ p' h' in
    let c = (solve_of (control_count n d s rows) d (interpolation_system n d s rows)).system.right in
    let c' = (solve_of (control_count n d s rows') d (interpolation_system n d s rows')).system.right in
    ap (λ (q : Polynomial Float). segments_of q) (sym a.1)
    ∙ ap (λ (l : List Float). length l - 1) (breaks_same floats (waypoint_knots n d s rows) c c' d d (n + 4))
    ∙ ap (λ (q : Polynomial Float). segments_of q) b.1

others_agree : (l : Lane) (points : List Float) (p p' : Polynomial Float) → (l.spacing ≡ Chord → ⊥) → other_of l ≡ done p
    → other_of (with_points l points) ≡ done p' → segments_of p ≡ segments_of p'
unfolding other_of
others_agree l points p p' c h h' = go (eqb (length (other_axes l)) 0) h (ap other (parameters_same l points c) ∙ h')
  where
    d : ℕ
    d = length (other_axes l)

    none : Answer (Polynomial Float)
    none = done (record { breaks = []; coefficients = [] })

    other : List Float → Answer (Polynomial Float)
    other s = cond (eqb d 0) none (interpolate_of l.n d s (other_rows (with_points l points)))

    go : (b : Bool) → cond b none (interpolate_of l.n d (parameters_of l) (other_rows l)) ≡ done p
        → cond b none (interpolate_of l.n d (parameters_of l) (other_rows (with_points l points))) ≡ done p' → segments_of p ≡ segments_of p'
    go true e e' = ap (λ (q : Polynomial Float). segments_of q) (done_same (sym e ∙ e'))
    go false e e' = others_segments l.n d (parameters_of l) (other_rows l) (other_rows (with_points l points)) p p' e e'

-- "Two accepted requests with equal d, n, axes, tolerances, limits and, bit for bit, equal selected rows and listed or even parameters give
-- the same selected segments, the same report .., whatever the remaining finite rows hold"
pub unsmoothed_rows : (l : Lane) (points : List Float) (m : Limits) (x x' : Result) → (l.spacing ≡ Chord → ⊥)
    → smoothed_rows l ≡ smoothed_rows (with_points l points)
    → build_of (record { lane = l; limits = m }) ≡ done x → build_of (record { lane = with_points l points; limits = m }) ≡ done x'
    → (x.selected ≡ x'.selected) × (x.report ≡ x'.report)
unfolding result_of
unsmoothed_rows l points m x x' c e h h' =
    let a = build_accepted l m x h in
    let b = build_accepted (with_points l points) m x' h' in
    let same_choice : a.chosen ≡ b.chosen = done_same (sym a.chosen_is ∙ selected_same l points m c e ∙ b.chosen_is) in
    let same-others = others_agree l points a.others b.others c a.others_is b.others_is in (
      ap (λ (r : Result). r.selected) (sym a.result_is) ∙ ap (λ (s : Selected). s.curve) same_choice
          ∙ ap (λ (r : Result). r.selected) b.result_is,
      ap (λ (r : Result). r.report) (sym a.result_is)
          ∙ (λ i. record {
            segments = segments_of (same_choice i).curve;
            interpolated = same-others i;
            work = (same_choice i).report;
            errors = (same_choice i).errors;
          })
          ∙ ap (λ (r : Result). r.report) b.result_is,
    )
