-- The system was refused, or its solution gives the polynomial.
use Rattle.std.proofs.Common.{refl, ap, ◌∙◌}
use Rattle.std.proofs.lemmas.Result.{err_from_is_err_and}
use Rattle.fitting_rows.specs.Arrays.{Arrays, arrays_at}
use Rattle.normal.specs.Solve.{refusal_number}
use Rattle.normal.proofs.Outcomes.{refusal_told}
use Rattle.interpolation.specs.Memory.{parameters_in, points_in, polynomial_in, place_of, system_in}
use Rattle.interpolation.proofs.Outcome.{refused_is, done_is}
use Rattle.interpolation.proofs.interpolate.Goals as goal

pub returns-in_err-solve-clause-work_after : goal.returns-in_err-solve-clause-work_after
returns-in_err-solve-clause-work_after c =
    let a = c.args in
    let w = a.work.now in
    let v = c.in_err-solve in
    let e = v.field-0.0 in
    let p = err_from_is_err_and c.from_residual.result c.from_residual.ensures.1 in
    rw (p.1, p.2) (refused_is a.p.samples a.p.axes (parameters_in a.p w) (points_in a.p w) (refusal_number e)
    (system_in (place_of a.p) c.assemble.new.work) c.assemble.ensures.work_after_2 v.ensures.value (refusal_told e))

pub returns-clause-work_after : goal.returns-clause-work_after
returns-clause-work_after c =
    let a = c.args in
    let w = a.work.now in
    let v = c.in_ok-solve in
    let o = c.put_polynomial in
    let after = c.solve.new.work in
    let knots_are = ap (λ (x : Arrays). x.t) v.ensures.work_unchanged ∙ c.assemble.ensures.work_after in
    done_is a.p.samples a.p.axes (parameters_in a.p w) (points_in a.p w) 0 (system_in (place_of a.p) c.assemble.new.work)
    c.assemble.ensures.work_after_2 v.ensures.value (arrays_at (place_of a.p) after).t (system_in (place_of a.p) after)
    (polynomial_in a.p o.result o.new.work) refl knots_are v.ensures.work_after o.ensures.work_after
