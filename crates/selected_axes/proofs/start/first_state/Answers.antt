-- The fit refuses, or the audit follows it.
use Rattle.std.proofs.lemmas.Result.{err_from_is_err_and}
use Rattle.smoothing.proofs.Refused.{stops_there}
use Rattle.running_report.specs.Counted.{counts_of}
use Rattle.refinement.specs.Memory.{memory_at}
use Rattle.selected_axes.proofs.Starting.{first_made}
use Rattle.selected_axes.proofs.start.first_state.Goals as goal

pub returns-in_err-fit_first-clause-work_after : goal.returns-in_err-fit_first-clause-work_after
returns-in_err-fit_first-clause-work_after c =
    let e = c.in_err-fit_first.field-0.0 in
    let p = err_from_is_err_and c.from_residual.result c.from_residual.ensures.1 in
    rw (p.1, p.2) (stops_there e _ _ c.in_err-fit_first.ensures.work_after)

pub returns-clause-work_after : goal.returns-clause-work_after
returns-clause-work_after c =
    let a = c.args in
    let f = c.fit_first in
    let v = c.in_ok-fit_first.ensures in
    first_made a.p (memory_at a.p a.work.now) (memory_at a.p f.new.work) (memory_at a.p c.audit_first.new.work) _
    (counts_of a.report.now) (counts_of f.new.report) v.work_after v.work_after_2 c.audit_first.ensures.work_after
