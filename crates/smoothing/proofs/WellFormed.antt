-- The curve of an accepted request is well formed, as document 01 asks it of a curve.
use Rattle.std.proofs.Common.{◌≡◌, ℕ, ◌+◌, ◌-◌, ◌≤◌, Bool, true, false, cond, ◌&&◌, T, eqb, ltb, List, [], length, get_or, sym, refl, ap, ◌∙◌, subst, arith, ltb-false, le-leb}
use borrow.Author.Tests.{not-false, eqb-false}
use lib.Ieee.{Float, binary64}
use lib.Ieee.Positive.{positive-finite}
use lib.Ieee.Scale.{finite}
use Rattle.arith.proofs.Truth.{or_none}
use Rattle.window.specs.Cells.{at, Doubles}
use Rattle.arith.specs.Operations.{floats}
use Rattle.fraction.proofs.Comparison.{positive_above}
use Rattle.window.specs.Rows.{join, list_of}
use Rattle.bspline.specs.Segments.{Polynomial, polynomial_of}
use Rattle.window.proofs.Joined.{list_at}
use Rattle.normal.specs.Solve.{solve_of}
use Rattle.curve.specs.declared.Mode.{Mode}
use Rattle.curve.specs.Form.{axes_formed, with_widths, set_formed, others_formed, range_formed, well_formed}
use Rattle.curve.proofs.Formed.{axes_same}
use Rattle.request.specs.Parameters.{length_of}
use Rattle.request.proofs.Normalised.{length_positive, parameter_finite}
use Rattle.smoothing.specs.Answer.{and_then}
use Rattle.smoothing.specs.Answer.Answer.{done}
use Rattle.smoothing.specs.Request.{Lane, Limits, axis_count, smoothed_axes, lane_parameters}
use Rattle.smoothing.specs.Checks.{wide_lane, wide_limits, no_axes, bad_axes, refusal_of}
use Rattle.smoothing.specs.Rows.{Task, Units, task_of, lane_task, lane_units, parameters_of, other_axes, other_rows}
use Rattle.smoothing.specs.Start.{start_of}
use Rattle.smoothing.specs.Round.{refine_of}
use Rattle.smoothing.specs.Finish.{Selected, physical_of, final_polynomial, finish_of}
use Rattle.smoothing.specs.Interpolate.{waypoint_knots, control_count, interpolation_system, interpolate_of}
use Rattle.smoothing.specs.Build.{Result, curve_of, slices_of, segments_of, selected_of, other_of, result_of, build_of}
use Rattle.smoothing.proofs.Accepted.{done_same, then_done, unless_done, build_accepted, build_domain}
use Rattle.smoothing.proofs.Passed.{lane_passed, lane_doubles, two_waypoints, axes_count, parameters_length, parameter_at, parameters_held}
use Rattle.smoothing.proofs.Sizes.{course_within}
use Rattle.smoothing.proofs.Rooms.{judged_done}
use Rattle.smoothing.proofs.KnotsRise.{course_rising, others_rising}
use Rattle.smoothing.proofs.SegmentsRise.{breaks_count, segments_formed_law}

-- a set of as many segments as its breaks say
counted : (d : ℕ) (p : Polynomial Float) {n : ℕ} → segments_of p ≡ n
    → set_formed d n p.breaks (with_widths p.breaks p.coefficients) ≡ true
    → set_formed d (segments_of p) p.breaks (with_widths p.breaks p.coefficients) ≡ true
counted d p e h = ap (λ (k : ℕ). set_formed d k p.breaks (with_widths p.breaks p.coefficients)) e ∙ h

-- the selected axes, with at most 20,000 segments
pub selected_formed_law : (m : Limits) (q : Task) (u : Units) (x : Selected) → Doubles q.s → m.segments ≤ 20000 → selected_of m q u ≡ done x
    → set_formed q.k (segments_of x.curve) x.curve.breaks (with_widths x.curve.breaks x.curve.coefficients) ≡ true
unfolding selected_of finish_of final_polynomial
selected_formed_law m q u x D few h =
    let a = then_done (and_then (start_of m.segments q) (refine_of m.segments m.refinements q)) (finish_of q u) x h in
    let st = a.0 in
    let v = (course_within m.segments m.refinements q st a.1).0 in
    let r = course_rising m.segments m.refinements q st D a.1 in
    let j = judged_done q u (final_polynomial u q.k st.b) st.report _ x a.2 in
    let c = physical_of u q.k st.b in
    let n : length (polynomial_of floats st.b.t c q.k st.b.m).breaks - 1 ≡ st.b.m - 5 =
    omega (arith, breaks_count st.b.t st.b.m r c q.k) in
    subst (λ (p : Polynomial Float). set_formed q.k (segments_of p) p.breaks (with_widths p.breaks p.coefficients) ≡ true)
    (sym j.0)
    (counted q.k (polynomial_of floats st.b.t c q.k st.b.m) n
    (segments_formed_law st.b.t st.b.m r c q.k (omega (arith, v.few))))

-- the other axes
interpolated_formed : (l : Lane) (j : ℕ) (rows : List Float) (p : Polynomial Float) → Doubles l.parameters → refusal_of l ≡ 0
    → l.n ≤ 20000 → interpolate_of l.n j (parameters_of l) rows ≡ done p
    → set_formed j (segments_of p) p.breaks (with_widths p.breaks p.coefficients) ≡ true
unfolding interpolate_of lane_task task_of
interpolated_formed l j rows p F h few e =
    let s = parameters_of l in
    let k = lane_passed l h in
    let two = two_waypoints l h in
    let t = waypoint_knots l.n j s rows in
    let r = others_rising (lane_parameters l) l.n two (lane_doubles l F) k.placed k.reliable s (parameters_length l)
    (parameter_at l) in
    let c = (solve_of (control_count l.n j s rows) j (interpolation_system l.n j s rows)).system.right in
    let a = unless_done _ _ p e in
    let n : length (polynomial_of floats t c j (l.n + 4)).breaks - 1 ≡ l.n + 4 - 5 = omega (arith, breaks_count t (l.n + 4) r c j) in
    subst (λ (z : Polynomial Float). set_formed j (segments_of z) z.breaks (with_widths z.breaks z.coefficients) ≡ true) a.1
    (counted j (polynomial_of floats t c j (l.n + 4)) n (segments_formed_law t (l.n + 4) r c j (omega arith)))

others_formed_law : (l : Lane) (p : Polynomial Float) → Doubles l.parameters → refusal_of l ≡ 0 → l.n ≤ 20000 → other_of l ≡ done p
    → others_formed (length (other_axes l)) (segments_of p) p.breaks (with_widths p.breaks p.coefficients) ≡ true
unfolding other_of others_formed join
others_formed_law l p F h few g = go (eqb (length (other_axes l)) 0) refl g
  where
    j : ℕ
    j = length (other_axes l)

    nothing : Polynomial Float
    nothing = record { breaks = []; coefficients = [] }

    Form : Bool → Polynomial Float → Type 0
    Form b z =
        cond b (eqb (segments_of z) 0 && eqb (length z.breaks) 0 && eqb (length (with_widths z.breaks z.coefficients)) 0)
        (set_formed j (segments_of z) z.breaks (with_widths z.breaks z.coefficients)) ≡ true

    some : interpolate_of l.n j (parameters_of l) (other_rows l) ≡ done p
        → set_formed j (segments_of p) p.breaks (with_widths p.breaks p.coefficients) ≡ true
    some e = interpolated_formed l j (other_rows l) p F h few e

    go : (b : Bool) → eqb j 0 ≡ b → cond b (done nothing) (interpolate_of l.n j (parameters_of l) (other_rows l)) ≡ done p → Form b p
    go true i e = subst (λ (z : Polynomial Float). Form true z) (done_same e) refl
    go false i e = some e

true_of : {b : Bool} → T b → b ≡ true
true_of {b} h = go b h
  where
    go : (b : Bool) → T b → b ≡ true
    go true h = refl
    go false h = absurd h

-- "start and end are finite and end - start is finite and above 0"
range_formed_law : (l : Lane) → Doubles l.parameters → refusal_of l ≡ 0
    → range_formed (at (lane_parameters l) 0) (at (lane_parameters l) (l.n - 1)) ≡ true
unfolding range_formed length_of
range_formed_law l F h =
    let k = lane_passed l h in
    let two = two_waypoints l h in
    let p = length_positive (lane_parameters l) l.n two (lane_doubles l F) k.placed k.reliable in
    let f = parameter_finite (lane_parameters l) l.n two (lane_doubles l F) k.placed k.reliable in
    let length = length_of (lane_parameters l) l.n in
    let start : finite (at (lane_parameters l) 0) ≡ true = true_of (f 0 (omega arith)) in
    let end : finite (at (lane_parameters l) (l.n - 1)) ≡ true = true_of (f (l.n - 1) (omega arith)) in
    let some : finite length ≡ true = true_of (positive-finite length p) in
    rw (start, end, some, positive_above binary64 length p)

-- the curve of an accepted request is well formed, whatever its mode: never 24 to a query or a certificate
pub accepted_well_formed : (l : Lane) (m : Limits) (x : Result) (mode : Mode) → Doubles l.parameters
    → build_of (record { lane = l; limits = m }) ≡ done x
    → well_formed (curve_of mode l.d x) (slices_of x) ≡ true
unfolding well_formed curve_of result_of wide_lane wide_limits lane_task lane_units task_of no_axes bad_axes
accepted_well_formed l m x mode F h =
    let wide = build_domain l m x h in
    let few = or_none (ltb 16 l.d) (ltb 20000 l.n) wide.0 in
    let few-d = ltb-false 16 l.d few.0 in
    let few-n = ltb-false 20000 l.n few.1 in
    let few-g = ltb-false 20000 m.segments (or_none (ltb 20000 m.segments) (ltb 200 m.refinements) wide.1).0 in
    let a = build_accepted l m x h in
    let p = lane_passed l a.passed in
    let n = axes_count l a.passed in
    let k = axis_count l in
    let rest : length (other_axes l) ≡ l.d - k = omega arith in
    let some : 1 ≤ k = let e = eqb-false k 0 p.some_axes in omega (arith, e) in
    let axes = axes_same (smoothed_axes l) (list_of 16 (λ i. get_or (smoothed_axes l) i 0)) k l.d
    (λ i b. list_at 16 (λ i. get_or (smoothed_axes l) i 0) 0 i (omega arith)) (not-false (axes_formed (smoothed_axes l) k l.d) p.axes) in
    let selected = selected_formed_law m (lane_task l) (lane_units l) a.chosen (parameters_held l) few-g a.chosen_is in
    let other : others_formed (l.d - k) (segments_of a.others) a.others.breaks
    (with_widths a.others.breaks a.others.coefficients) ≡ true =
    rw rest at (others_formed_law l a.others F a.passed few-n a.others_is) in
    let range = range_formed_law l F a.passed in
    subst (λ (z : Result). well_formed (curve_of mode l.d z) (slices_of z) ≡ true) a.result_is
    (rw (
      le-leb 1 l.d (omega arith),
      le-leb l.d 16 few-d,
      le-leb 1 k some,
      le-leb k l.d (omega arith),
      axes,
      selected,
      other,
      range,
    ))
