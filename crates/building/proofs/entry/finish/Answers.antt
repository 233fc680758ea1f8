-- `entry::finish` meets its contract.
use mathlib.Core.Path.{◌≡◌, refl, sym, ap, subst, ◌∙◌}
use mathlib.Core.List.{List}
use Prim.Native.Nat.{ℕ, ◌+◌, ◌-◌, ◌*◌, ◌≤◌, max}
use native.Mathlib.Omega.{arith}
use native.Mathlib.Nat.{mul-le-mul}
use lib.ListN.{length}
use lib.Ieee.{Float}
use Rattle.smoothing.specs.Answer.{Answer}
use Rattle.smoothing.specs.Answer.Answer.{done}
use Rattle.smoothing.specs.Request.{Lane, Limits, axis_count}
use Rattle.smoothing.specs.Rows.{other_axes}
use Rattle.smoothing.specs.Build.{Result, checked_of}
use Rattle.refinement.specs.declared.plan.Plan.{Plan}
use Rattle.refinement.specs.Memory.{Roomy, sized}
use Rattle.checks.specs.Request.{limits_of, lane_of}
use Rattle.std.specs.Prelude.{Ok}
use Rattle.building.specs.declared.entry.Run.{Run}
use Rattle.building.specs.Outcome.{reported, curve_after, results, results_after}
use Rattle.building.specs.Answered.{plan_of, BothPlaced, Domain, Ran}
use Rattle.building.proofs.Passing.{work_fits}
use Rattle.building.proofs.Finished.{both_done, both_turned, told_refused, curve_refused, results_refused, x, report_is, curve_is, results_are}
use Rattle.building.proofs.entry.finish.Goals as goal

-- the run is done
module _ (l : Lane) (m : Limits) (r : Run) (after : List Float) (points work : ℕ) (D : Domain l.d l.n m points work) (ran : Ran l m (Ok r) after)
    (long : length after ≡ work) where
  abbrev most : ℕ
  most = max l.n m.segments + 16

  places : BothPlaced l m r (length after)
  places = ran.places

  sum : r.j + r.k ≡ l.d
  sum = omega (arith, places.k_is, places.j_is, places.all_axes)

  fits : (e k j : ℕ) → e ≡ most → j + k ≡ l.d → 14 * e + 10 * (e * k) + (10 * e + 8 * (e * j)) ≤ length after
  fits e k j h g = work_fits e k j l.d (length after) g (rw (h, long) D.work_fits)

  both-fit : 14 * most + 10 * (most * axis_count l) + (10 * most + 8 * (most * length (other_axes l))) ≤ length after
  both-fit = fits most (axis_count l) (length (other_axes l)) refl places.all_axes

  told : checked_of l m ≡ done (x l m r after places)
  told = both_done l m _ _ (sym ran.is)

pub write_results-requires : goal.write_results-requires
write_results-requires c =
    let a = c.args in
    let r = a.r.now in
    let l = lane_of r in
    let m = limits_of r.limits in
    let s = c.in-Ok.made in
    let w = c.checked.new.work in
    let long : length w ≡ length a.work.now = omega arith in
    let P = places l m s w (length r.points.now) (length a.work.now) c.requires.0 c.in-Ok.ensures long in
    let g = both-fit l m s w (length r.points.now) (length a.work.now) c.requires.0 c.in-Ok.ensures long in
    let t = told l m s w (length r.points.now) (length a.work.now) c.requires.0 c.in-Ok.ensures long in
    let sum = sum l m s w (length r.points.now) (length a.work.now) c.requires.0 c.in-Ok.ensures long in
    let e = c.room_of in
    let F = c.requires.1 in
    let k : s.k ≤ r.d = omega (arith, sum) in
    let j : s.j ≤ r.d = omega (arith, sum) in
    let two = P.roomy.six in
    let rows : (s.computed.count - 5) * (6 * s.k) ≤ r.limits.segments * (6 * r.d) =
    mul-le-mul (omega (arith, P.few)) (omega (arith, k)) in
    let others : s.computed.other_segments * (6 * s.j) ≤ r.n * (6 * r.d) =
    mul-le-mul (omega (arith, P.others_few)) (omega (arith, j)) in
    let plan : ◌≡◌ {A = Plan} (sized (plan_of l m) s.computed.count) _ =
    λ i. record { axes = sym P.k_is i; samples = r.n; room = sym e.ensures i; count = s.computed.count } in
    record {
      roomy = subst (λ (p : Plan). Roomy p (length w)) plan P.roomy;
      others_fit = fits l m s w (length r.points.now) (length a.work.now) c.requires.0 c.in-Ok.ensures long e.result s.k s.j e.ensures sum;
      others_few = omega (arith, j, c.requires.0.d_most);
      waypoints_fit = omega (arith, e.ensures);
      segments_few = P.others_few;
      breaks = omega (arith, F.breaks, P.few, two);
      coefficients = omega (arith, rows, F.coefficients, P.few, two);
      other_breaks = F.other_breaks;
      other_coefficients = omega (arith, others, F.other_coefficients, P.others_few);
      errors = omega (arith, k, F.errors);
    }

pub returns-in-Ok-clause-answer_value : goal.returns-in-Ok-clause-answer_value
unfolding reported
returns-in-Ok-clause-answer_value c =
    let a = c.args in
    let r = a.r.now in
    let l = lane_of r in
    let m = limits_of r.limits in
    let s = c.in-Ok.made in
    let w = c.checked.new.work in
    let long : length w ≡ length a.work.now = omega arith in
    let P = places l m s w (length r.points.now) (length a.work.now) c.requires.0 c.in-Ok.ensures long in
    let g = both-fit l m s w (length r.points.now) (length a.work.now) c.requires.0 c.in-Ok.ensures long in
    let t = told l m s w (length r.points.now) (length a.work.now) c.requires.0 c.in-Ok.ensures long in
    c.accept.ensures.answer_value ∙ ap done (report_is l m s w P g) ∙ ap reported (sym t)

pub returns-in-Ok-clause-curve_value : goal.returns-in-Ok-clause-curve_value
unfolding curve_after
returns-in-Ok-clause-curve_value c =
    let a = c.args in
    let r = a.r.now in
    let l = lane_of r in
    let m = limits_of r.limits in
    let s = c.in-Ok.made in
    let w = c.checked.new.work in
    let long : length w ≡ length a.work.now = omega arith in
    let P = places l m s w (length r.points.now) (length a.work.now) c.requires.0 c.in-Ok.ensures long in
    let g = both-fit l m s w (length r.points.now) (length a.work.now) c.requires.0 c.in-Ok.ensures long in
    let t = told l m s w (length r.points.now) (length a.work.now) c.requires.0 c.in-Ok.ensures long in
    c.accept.ensures.curve_value ∙ curve_is l m s w P g a.mode ∙ ap (curve_after a.mode r.d) (sym t)

pub returns-in-Ok-clause-errors_after : goal.returns-in-Ok-clause-errors_after
returns-in-Ok-clause-errors_after c =
    let a = c.args in
    let r = a.r.now in
    let l = lane_of r in
    let m = limits_of r.limits in
    let s = c.in-Ok.made in
    let w = c.checked.new.work in
    let lent = results a.breaks.now a.coefficients.now a.other_breaks.now a.other_coefficients.now a.errors.now in
    let long : length w ≡ length a.work.now = omega arith in
    let P = places l m s w (length r.points.now) (length a.work.now) c.requires.0 c.in-Ok.ensures long in
    let g = both-fit l m s w (length r.points.now) (length a.work.now) c.requires.0 c.in-Ok.ensures long in
    let t = told l m s w (length r.points.now) (length a.work.now) c.requires.0 c.in-Ok.ensures long in
    let plan : ◌≡◌ {A = Plan} _ (sized (plan_of l m) s.computed.count) =
    λ i. record { axes = P.k_is i; samples = r.n; room = c.room_of.ensures i; count = s.computed.count } in
    c.write_results.ensures ∙ results_are l m s w P _ _ _ plan P.j_is
    ∙ ap (λ (z : Answer Result). results_after z lent) (sym t)

-- a run that was turned away
pub returns-in-Err-clause-answer_value : goal.returns-in-Err-clause-answer_value
returns-in-Err-clause-answer_value c =
    let r = c.args.r.now in
    let e = c.in-Err.e in
    c.refuse.ensures.0 ∙ told_refused e ∙ ap reported (both_turned (lane_of r) (limits_of r.limits) e c.in-Err.ensures.is)

pub returns-in-Err-clause-curve_value : goal.returns-in-Err-clause-curve_value
returns-in-Err-clause-curve_value c =
    let a = c.args in
    let r = a.r.now in
    let e = c.in-Err.e in
    c.refuse.ensures.1 ∙ curve_refused e a.mode r.d
    ∙ ap (curve_after a.mode r.d) (both_turned (lane_of r) (limits_of r.limits) e c.in-Err.ensures.is)

pub returns-in-Err-clause-errors_after : goal.returns-in-Err-clause-errors_after
returns-in-Err-clause-errors_after c =
    let a = c.args in
    let r = a.r.now in
    let lent = results a.breaks.now a.coefficients.now a.other_breaks.now a.other_coefficients.now a.errors.now in
    let e = c.in-Err.e in
    results_refused e lent
    ∙ ap (λ (z : Answer Result). results_after z lent) (both_turned (lane_of r) (limits_of r.limits) e c.in-Err.ensures.is)
