-- 6 and 7, the selected axes, then the other axes.
use Rattle.std.proofs.Common.{ap, sym, ◌∙◌, refl}
use Rattle.std.proofs.lemmas.Result.{err_from_is_err_and}
use Rattle.request.specs.Parameters.{parameter_list}
use Rattle.smoothing.specs.Rows.{Task}
use Rattle.smoothing.specs.Build.{selected_of}
use Rattle.checks.specs.Request.{limits_of}
use Rattle.checks.specs.Checks.{refusal_number}
use Rattle.checks.proofs.Passed.{refusal_known}
use Rattle.work_slice.specs.Rows.{units_from, task_from, other_from}
use Rattle.building.specs.Computed.{smoothed_at}
use Rattle.building.proofs.Computing.{stops, goes, both_done, both_refused}
use Rattle.building.proofs.compute.compute.Goals as goal

pub returns-in_err-prepare-clause-work_after : goal.returns-in_err-prepare-clause-work_after
returns-in_err-prepare-clause-work_after c =
    let a = c.args in
    let r = a.r.now in
    let list = parameter_list r.spacing r.parameters.now r.points.now r.d a.p.samples in
    let m = limits_of r.limits in
    let u = units_from a.p.samples a.p.axes r.points.now r.d a.chosen.now.axes a.eps.now in
    let q = task_from a.p.samples a.p.axes list u in
    let o = other_from a.p.samples a.rest.now.count list r.points.now r.d a.rest.now.axes in
    let e = c.in_err-prepare.field-0.0 in
    let g = err_from_is_err_and c.from_residual.result c.from_residual.ensures.1 in
    rw (g.1, g.2) (sym (stops list m q u o (refusal_number e) c.in_err-prepare.ensures.value (refusal_known e).0))

pub returns-in_err-done-clause-work_after : goal.returns-in_err-done-clause-work_after
returns-in_err-done-clause-work_after c =
    let a = c.args in
    let r = a.r.now in
    let list = parameter_list r.spacing r.parameters.now r.points.now r.d a.p.samples in
    let m = limits_of r.limits in
    let u = units_from a.p.samples a.p.axes r.points.now r.d a.chosen.now.axes a.eps.now in
    let q = task_from a.p.samples a.p.axes list u in
    let o = other_from a.p.samples a.rest.now.count list r.points.now r.d a.rest.now.axes in
    let passed = goes list m q u o 0 c.in_ok-prepare.ensures.value refl in
    let e = c.in_err-done.field-0.0 in
    let g = err_from_is_err_and c.from_residual-in_err-done.result c.from_residual-in_err-done.ensures.1 in
    let smoothed = c.in_err-done.ensures.work_after ∙ ap (λ (q : Task). selected_of m q u) c.in_ok-prepare.ensures.work_after in
    rw (g.1, g.2) (both_refused m q u o e smoothed ∙ sym passed)

pub returns-clause-work_after : goal.returns-clause-work_after
returns-clause-work_after c =
    let a = c.args in
    let r = a.r.now in
    let list = parameter_list r.spacing r.parameters.now r.points.now r.d a.p.samples in
    let m = limits_of r.limits in
    let u = units_from a.p.samples a.p.axes r.points.now r.d a.chosen.now.axes a.eps.now in
    let q = task_from a.p.samples a.p.axes list u in
    let o = other_from a.p.samples a.rest.now.count list r.points.now r.d a.rest.now.axes in
    let passed = goes list m q u o 0 c.in_ok-prepare.ensures.value refl in
    let smoothed = c.in_ok-done.ensures.work_after ∙ ap (λ (q : Task). selected_of m q u) c.in_ok-prepare.ensures.work_after in
    c.with_others.ensures.work_after ∙ both_done m q u o (smoothed_at a.p c.in_ok-done.done c.smooth.new.work) smoothed ∙ sym passed
