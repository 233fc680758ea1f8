-- The results of `build` fit document 01's slices.
use Rattle.std.proofs.Common.{◌≡◌, ℕ, ◌+◌, ◌-◌, ◌*◌, ◌≤◌, Bool, true, false, cond, eqb, List, [], length, sym, ap, ◌∙◌, subst, mul-le-mul, arith}
use Rattle.bspline.specs.Segments.{Polynomial}
use Rattle.bspline.proofs.Breaks.{polynomial_room}
use Rattle.window.proofs.Joined.{list_length}
use Rattle.curve.specs.Form.{with_widths}
use Rattle.curve.proofs.Formed.{with_length}
use Rattle.arith.specs.Operations.{floats}
use Rattle.normal.specs.Solve.{solve_of}
use Rattle.polynomial.specs.Audit.{Audit}
use Rattle.seed.specs.Knots.{seed_of}
use Rattle.seed.proofs.Seeded.{seed_count}
use lib.Ieee.{Float}
use Rattle.smoothing.specs.Answer.{and_then}
use Rattle.smoothing.specs.Answer.Answer.{done, refused}
use Rattle.smoothing.specs.Request.{Lane, Limits, axis_count}
use Rattle.smoothing.specs.Rows.{Task, Units, task_of, lane_task, lane_units, parameters_of, other_axes, other_rows}
use Rattle.smoothing.specs.State.{Counts, add_intervals}
use Rattle.smoothing.specs.Start.{curved, first_knots, start_of}
use Rattle.smoothing.specs.Round.{refine_of}
use Rattle.smoothing.specs.Finish.{Selected, physical_of, final_polynomial, errors_of, excessive, judged, finish_of}
use Rattle.smoothing.specs.Interpolate.{waypoint_knots, control_count, interpolation_system, interpolate_of}
use Rattle.smoothing.specs.Build.{Result, selected_of, other_of, result_of, build_of}
use Rattle.smoothing.proofs.Accepted.{done_same, then_done, not_refused, unless_done, build_accepted}
use Rattle.smoothing.proofs.Passed.{two_waypoints, axes_count}
use Rattle.smoothing.proofs.Sizes.{course_within}

-- ---- the results
-- a judged audit hands on its polynomial
pub judged_done : (q : Task) (u : Units) (p : Polynomial Float) (report : Counts) (a : Audit) (x : Selected)
    → judged q u p report a ≡ done x → (x.curve ≡ p) × (length x.errors ≡ q.k)
unfolding judged errors_of
judged_done q u p report a x h =
    let fine : Selected = record { curve = p; errors = errors_of q a.bounds; report = add_intervals a.checked report } in
    let g = then_done _ (λ _. cond (excessive u.eps q.k (errors_of q a.bounds)) (refused 17) (done fine)) x h in
    let e : fine ≡ x = done_same (not_refused (excessive u.eps q.k (errors_of q a.bounds)) 17 (done fine) x g.2).1 in
    (ap (λ (z : Selected). z.curve) (sym e), ap (λ (z : Selected). length z.errors) (sym e) ∙ list_length q.k _)

-- the selected axes: at most max_segments segments
pub record Room (g k : ℕ) (x : Selected) : Type 0 where
  pub breaks : length x.curve.breaks ≤ g + 1
  pub coefficients : length x.curve.coefficients ≡ (length x.curve.breaks - 1) * (6 * k)
  pub errors : length x.errors ≡ k

pub selected_room : (m : Limits) (q : Task) (u : Units) (x : Selected) → selected_of m q u ≡ done x → Room m.segments q.k x
unfolding selected_of finish_of final_polynomial
selected_room m q u x h =
    let a = then_done (and_then (start_of m.segments q) (refine_of m.segments m.refinements q)) (finish_of q u) x h in
    let st = a.0 in
    let v = (course_within m.segments m.refinements q st a.1).0 in
    let j = judged_done q u (final_polynomial u q.k st.b) st.report _ x a.2 in
    let six = v.size.formed.six in
    let r = polynomial_room floats st.b.t (physical_of u q.k st.b) q.k st.b.m (omega arith) in
    record {
      breaks = subst (λ (p : Polynomial Float). length p.breaks ≤ m.segments + 1) (sym j.0) (omega (arith, r.0, v.few));
      coefficients = subst (λ (p : Polynomial Float). length p.coefficients ≡ (length p.breaks - 1) * (6 * q.k)) (sym j.0) r.1;
      errors = j.1;
    }

-- the other axes: at most n - 1 segments
pub other_room : (n d : ℕ) (s rows : List Float) (p : Polynomial Float) → 2 ≤ n → interpolate_of n d s rows ≡ done p
    → (length p.breaks ≤ n) × (length p.coefficients ≡ (length p.breaks - 1) * (6 * d))
unfolding interpolate_of
other_room n d s rows p two h =
    let a = unless_done _ _ p h in
    let r = polynomial_room floats (waypoint_knots n d s rows)
    (solve_of (control_count n d s rows) d (interpolation_system n d s rows)).system.right d (n + 4) (omega arith) in
    subst (λ (z : Polynomial Float). (length z.breaks ≤ n) × (length z.coefficients ≡ (length z.breaks - 1) * (6 * d))) a.1
    (omega (arith, r.0), r.1)

-- the first knots: at most three for each inner waypoint
pub first_knots_few : (q : Task) → length q.s ≡ q.n → 2 ≤ q.n → length (first_knots q) ≤ 3 * (q.n - 2)
unfolding first_knots
first_knots_few q e two = go (curved q)
  where
    go : (b : Bool) → length (cond b (seed_of q.s q.y q.k) []) ≤ 3 * (q.n - 2)
    go true = omega (arith, seed_count q.s q.y q.k (omega arith), e)
    go false = omega arith

-- ---- "the lent room needed": selected breaks max_segments + 1 and coefficients 6d times max_segments; other breaks n and coefficients
-- 6dn; errors d; and max_segments and n cells more for the widths
pub record Fits (l : Lane) (m : Limits) (x : Result) : Type 0 where
  pub breaks : length x.selected.breaks ≤ m.segments + 1
  pub coefficients : length (with_widths x.selected.breaks x.selected.coefficients) ≤ m.segments * (6 * l.d) + m.segments
  pub other_breaks : length x.other.breaks ≤ l.n
  pub other_coefficients : length (with_widths x.other.breaks x.other.coefficients) ≤ l.n * (6 * l.d) + l.n
  pub errors : length x.report.errors ≤ l.d

others_fit : (l : Lane) (p : Polynomial Float) → 2 ≤ l.n → other_of l ≡ done p
    → (length p.breaks ≤ l.n) × (length p.coefficients ≡ (length p.breaks - 1) * (6 * length (other_axes l)))
unfolding other_of
others_fit l p two h = go (eqb (length (other_axes l)) 0) h
  where
    nothing : Polynomial Float
    nothing = record { breaks = []; coefficients = [] }

    go : (b : Bool) → cond b (done nothing) (interpolate_of l.n (length (other_axes l)) (parameters_of l) (other_rows l)) ≡ done p
        → (length p.breaks ≤ l.n) × (length p.coefficients ≡ (length p.breaks - 1) * (6 * length (other_axes l)))
    go true e =
        let r : (0 ≤ l.n) × (0 ≡ (0 - 1) * (6 * length (other_axes l))) = (omega arith, omega arith) in
        subst (λ (z : Polynomial Float). (length z.breaks ≤ l.n)
        × (length z.coefficients ≡ (length z.breaks - 1) * (6 * length (other_axes l)))) (done_same e) r
    go false e = other_room l.n (length (other_axes l)) (parameters_of l) (other_rows l) p two e

pub accepted_fits : (l : Lane) (m : Limits) (x : Result) → build_of (record { lane = l; limits = m }) ≡ done x → Fits l m x
unfolding lane_task lane_units task_of result_of
accepted_fits l m x h =
    let a = build_accepted l m x h in
    let n = two_waypoints l a.passed in
    let k = axes_count l a.passed in
    let r = selected_room m (lane_task l) (lane_units l) a.chosen a.chosen_is in
    let o = others_fit l a.others n a.others_is in
    subst (λ (z : Result). Fits l m z) a.result_is
    (record {
      breaks = r.breaks;
      coefficients =
          let c : (length a.chosen.curve.breaks - 1) * (6 * axis_count l) ≤ m.segments * (6 * l.d) =
          mul-le-mul (omega (arith, r.breaks)) (omega arith) in
          omega (arith, r.breaks, r.coefficients, c, with_length a.chosen.curve.breaks a.chosen.curve.coefficients);
      other_breaks = o.0;
      other_coefficients =
          let c : (length a.others.breaks - 1) * (6 * length (other_axes l)) ≤ l.n * (6 * l.d) =
          mul-le-mul (omega (arith, o.0)) (omega arith) in
          omega (arith, o.0, o.1, c, with_length a.others.breaks a.others.coefficients);
      errors = omega (arith, r.errors, k);
    })
