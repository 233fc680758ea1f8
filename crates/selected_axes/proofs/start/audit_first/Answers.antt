-- As the audit ends.
use Rattle.std.proofs.Common.{refl, sym, ap, ◌∙◌}
use Rattle.std.proofs.lemmas.Result.{err_from_is_err_and}
use Rattle.polynomial.specs.Outcome as audits
use Rattle.smoothing.specs.Answer.Answer.{done}
use Rattle.smoothing.specs.State.{Counts, add_intervals}
use Rattle.smoothing.proofs.Refused.{audit_refused, audit_done}
use Rattle.running_report.specs.Counted.{counts_of}
use Rattle.refinement.specs.Memory.{memory_at, state_at}
use Rattle.selected_axes.proofs.Starting.{audit_made}
use Rattle.selected_axes.proofs.start.audit_first.Goals as goal

pub returns-in_err-audited-clause-work_after : goal.returns-in_err-audited-clause-work_after
returns-in_err-audited-clause-work_after c =
    let a = c.args in
    let v = c.audit_in-audited in
    let f = c.rebuild in
    let e = c.in_err-audited.field-0.0 in
    let p = err_from_is_err_and c.from_residual.result c.from_residual.ensures.1 in
    let r = counts_of a.report.now in
    let s = state_at a.p (add_intervals v.result.checked r) v.new.work in
    let m = audit_made a.p (memory_at a.p a.work.now) (memory_at a.p f.new.work) (memory_at a.p v.new.work)
    (audits.number_of v.result.outcome) v.result.checked v.result.outcome r f.ensures refl v.ensures.outcome_value v.ensures.work_after in
    rw (p.1, p.2) (sym (audit_refused v.result.outcome e s c.in_err-audited.was) ∙ m.0)

pub returns-clause-work_after : goal.returns-clause-work_after
returns-clause-work_after c =
    let a = c.args in
    let v = c.audit_in-audited in
    let f = c.rebuild in
    let r = counts_of a.report.now in
    let s = state_at a.p (add_intervals v.result.checked r) v.new.work in
    let m = audit_made a.p (memory_at a.p a.work.now) (memory_at a.p f.new.work) (memory_at a.p v.new.work)
    (audits.number_of v.result.outcome) v.result.checked v.result.outcome r f.ensures refl v.ensures.outcome_value v.ensures.work_after in
    ap (λ (k : Counts). done (state_at a.p k v.new.work)) c.after_audit.ensures
    ∙ sym (audit_done v.result.outcome s c.in_ok-audited.was) ∙ m.0
