-- `entry::build` meets its contract.
use mathlib.Core.Path.{◌≡◌, refl, sym, ap, subst, ◌∙◌}
use mathlib.Core.List.{List}
use Prim.Native.Nat.{ℕ, ◌<◌}
use native.Mathlib.Omega.{arith}
use lib.ListN.{length}
use lib.Ieee.{Float}
use Rattle.window.specs.Cells.{zeros}
use Rattle.curve.specs.declared.Curve.{Curve}
use Rattle.curve.specs.declared.Mode.{Mode}
use Rattle.curve.specs.Form.{no_curve}
use Rattle.smoothing.specs.Answer.{Answer}
use Rattle.smoothing.specs.Answer.Answer.{refused}
use Rattle.smoothing.specs.Request.{Lane, Limits}
use Rattle.smoothing.specs.Build.{Result}
use Rattle.checks.specs.declared.Refusal.{Refusal}
use Rattle.checks.specs.Request.{limits_of, lane_of}
use Rattle.checks.specs.Checks.{refusal_number, refusal_first}
use Rattle.checks.proofs.Domain.{in_domain, has_room, sized, points_are}
use Rattle.checks.proofs.Passed.{refusal_known}
use Rattle.building.specs.declared.Report.{Report}
use Rattle.building.specs.Outcome.{Results, results, lengths_of, reported, curve_after, work_after, results_after}
use Rattle.building.specs.Answered.{answer_to}
use Rattle.building.proofs.Finished.{work_cleared}
use Rattle.building.proofs.Answering.{First, first_refused_law, answer_on, turned_away}
use Rattle.building.proofs.entry.build.Goals as goal

-- 18, 20 or 19
refused_first : (l : Lane) (m : Limits) (w : List Float) (s : Results) (mode : Mode) (r : Refusal)
    → refusal_number r ≡ refusal_first (lengths_of w s) l m
    → (n : ℕ) → n ≡ refusal_number r → (o : Answer Report) (c : Curve) → (o ≡ refused n) × (c ≡ no_curve mode)
    → let x = answer_to l m w s in
    (o ≡ reported x) × ((c ≡ curve_after mode l.d x) × ((w ≡ work_after x w) × (s ≡ results_after x s)))
refused_first l m w s mode r e n f o c h =
    let k : n ≡ refusal_first (lengths_of w s) l m = f ∙ e in
    let some : 0 < refusal_first (lengths_of w s) l m = rw (← e) (refusal_known r).0 in
    let g : (answer_to l m w s ≡ refused n) × First n =
    subst (λ (n : ℕ). (answer_to l m w s ≡ refused n) × First n) (sym k) (first_refused_law l m w s some) in
    turned_away (answer_to l m w s) n mode l.d o c w s g.0 g.1 h

pub returns-in-Err-clause-answer_value : goal.returns-in-Err-clause-answer_value
returns-in-Err-clause-answer_value c =
    let a = c.args in
    let r = a.r.now in
    let l = lane_of r in
    let m = limits_of r.limits in
    let w = a.work.now in
    let s = results a.breaks.now a.coefficients.now a.other_breaks.now a.other_coefficients.now a.errors.now in
    let t = refused_first l m w s a.mode c.in-Err.refusal c.in-Err.ensures _ refl _ _ c.refuse.ensures in
    t.0

pub returns-in-Err-clause-curve_value : goal.returns-in-Err-clause-curve_value
returns-in-Err-clause-curve_value c =
    let a = c.args in
    let r = a.r.now in
    let l = lane_of r in
    let m = limits_of r.limits in
    let w = a.work.now in
    let s = results a.breaks.now a.coefficients.now a.other_breaks.now a.other_coefficients.now a.errors.now in
    let t = refused_first l m w s a.mode c.in-Err.refusal c.in-Err.ensures _ refl _ _ c.refuse.ensures in
    t.1.0

pub returns-in-Err-clause-work_after : goal.returns-in-Err-clause-work_after
returns-in-Err-clause-work_after c =
    let a = c.args in
    let r = a.r.now in
    let l = lane_of r in
    let m = limits_of r.limits in
    let w = a.work.now in
    let s = results a.breaks.now a.coefficients.now a.other_breaks.now a.other_coefficients.now a.errors.now in
    let t = refused_first l m w s a.mode c.in-Err.refusal c.in-Err.ensures _ refl _ _ c.refuse.ensures in
    t.1.1.0

pub returns-in-Err-clause-errors_after : goal.returns-in-Err-clause-errors_after
returns-in-Err-clause-errors_after c =
    let a = c.args in
    let r = a.r.now in
    let l = lane_of r in
    let m = limits_of r.limits in
    let w = a.work.now in
    let s = results a.breaks.now a.coefficients.now a.other_breaks.now a.other_coefficients.now a.errors.now in
    let t = refused_first l m w s a.mode c.in-Err.refusal c.in-Err.ensures _ refl _ _ c.refuse.ensures in
    t.1.1.1

pub finish-built-requires : goal.finish-built-requires
finish-built-requires c =
    let a = c.args in
    let r = a.r.now in
    let l = lane_of r in
    let m = limits_of r.limits in
    let w = a.work.now in
    let s = results a.breaks.now a.coefficients.now a.other_breaks.now a.other_coefficients.now a.errors.now in
    let z = sized (lengths_of w s) l m (sym c.in_default.ensures) in
    let d = in_domain l m z.narrow in
    let q = has_room (lengths_of w s) l m z.roomy in (
      record {
        d_most = d.0;
        n_most = d.1;
        segments_most = d.2;
        refinements_most = d.3;
        points_are = points_are l z.counted;
        work_fits = q.0;
      },
      record { breaks = q.1; coefficients = q.2; other_breaks = q.3; other_coefficients = q.4; errors = q.5 },
    )

pub returns-clause-answer_value : goal.returns-clause-answer_value
returns-clause-answer_value c =
    let a = c.args in
    let r = a.r.now in
    let l = lane_of r in
    let m = limits_of r.limits in
    let w = a.work.now in
    let s = results a.breaks.now a.coefficients.now a.other_breaks.now a.other_coefficients.now a.errors.now in
    let e = answer_on l m w s (sym c.in_default.ensures) in
    let f = c.finish-built in
    f.ensures.answer_value ∙ ap reported (sym e)

pub returns-clause-curve_value : goal.returns-clause-curve_value
returns-clause-curve_value c =
    let a = c.args in
    let r = a.r.now in
    let l = lane_of r in
    let m = limits_of r.limits in
    let w = a.work.now in
    let s = results a.breaks.now a.coefficients.now a.other_breaks.now a.other_coefficients.now a.errors.now in
    let e = answer_on l m w s (sym c.in_default.ensures) in
    let f = c.finish-built in
    f.ensures.curve_value ∙ ap (curve_after a.mode r.d) (sym e)

pub returns-clause-work_after : goal.returns-clause-work_after
returns-clause-work_after c =
    let a = c.args in
    let r = a.r.now in
    let l = lane_of r in
    let m = limits_of r.limits in
    let w = a.work.now in
    let s = results a.breaks.now a.coefficients.now a.other_breaks.now a.other_coefficients.now a.errors.now in
    let e = answer_on l m w s (sym c.in_default.ensures) in
    let f = c.finish-built in
    let k : length f.new.work ≡ length w = omega arith in
    c.clear.ensures ∙ ap zeros k ∙ work_cleared l m w ∙ ap (λ (z : Answer Result). work_after z w) (sym e)

pub returns-clause-errors_after : goal.returns-clause-errors_after
returns-clause-errors_after c =
    let a = c.args in
    let r = a.r.now in
    let l = lane_of r in
    let m = limits_of r.limits in
    let w = a.work.now in
    let s = results a.breaks.now a.coefficients.now a.other_breaks.now a.other_coefficients.now a.errors.now in
    let e = answer_on l m w s (sym c.in_default.ensures) in
    let f = c.finish-built in
    f.ensures.errors_after ∙ ap (λ (z : Answer Result). results_after z s) (sym e)
