-- As the audit ends, and by the test of the errors.
use Rattle.std.proofs.Common.{sym, ap, ◌∙◌, take}
use Rattle.std.proofs.lemmas.Result.{err_from_is_err_and}
use Rattle.polynomial.specs.Outcome as audits
use Rattle.smoothing.specs.Answer.Answer.{done}
use Rattle.smoothing.specs.State.{Counts}
use Rattle.smoothing.specs.declared.refusal.Refusal.TheVariants.{Unaudited}
use Rattle.smoothing.proofs.Refused.{audit_refused}
use Rattle.smoothing.proofs.SegmentsRise.{wide}
use Rattle.refinement.specs.Memory.{memory_at}
use Rattle.running_report.specs.Counted.{counts_of}
use Rattle.selected_axes.specs.Selected.{units_of, selected_in}
use Rattle.selected_axes.proofs.Finishing.{Physical, finish_refused, finish_excessive, finish_done}
use Rattle.selected_axes.proofs.finish.finish.Goals as goal

pub put_physical-requires : goal.put_physical-requires
put_physical-requires c = (
  c.requires.0,
  c.requires.2,
  c.requires.3,
  c.requires.4,
  c.requires.5,
  wide (memory_at c.args.p c.args.work.now).t c.args.p.count c.requires.1,
)

pub returns-in_err-audited : goal.returns-in_err-audited
returns-in_err-audited c =
    let a = c.args in
    let v = c.audit_in-audited in
    let e = c.in_err-audited.field-0.0 in
    let p = err_from_is_err_and c.from_residual.result c.from_residual.ensures.1 in
    let u = units_of a.points.now a.d a.p.samples (take a.p.axes a.axes.now) (take a.p.axes a.eps.now) in
    let h : Physical a.p u (memory_at a.p a.work.now) (memory_at a.p c.put_physical.new.work) (memory_at a.p v.new.work)
    v.result.checked v.result.outcome = record {
      physical = c.put_physical.ensures;
      outcome = v.ensures.outcome_value.0;
      counted = v.ensures.outcome_value.1;
      after = v.ensures.work_after;
    } in
    rw (p.1, p.2) (finish_refused h (counts_of a.report.now) (Unaudited e) (λ s. audit_refused v.result.outcome e s c.in_err-audited.was))

pub returns-then-is_excessive : goal.returns-then-is_excessive
returns-then-is_excessive c =
    let a = c.args in
    let v = c.audit_in-audited in
    let u = units_of a.points.now a.d a.p.samples (take a.p.axes a.axes.now) (take a.p.axes a.eps.now) in
    let h : Physical a.p u (memory_at a.p a.work.now) (memory_at a.p c.put_physical.new.work) (memory_at a.p v.new.work)
    v.result.checked v.result.outcome = record {
      physical = c.put_physical.ensures;
      outcome = v.ensures.outcome_value.0;
      counted = v.ensures.outcome_value.1;
      after = v.ensures.work_after;
    } in
    finish_excessive h (counts_of a.report.now) c.errors_in-errors.result c.errors_in-errors.ensures
    (ap audits.number_of c.in_ok-audited.was) (sym c.if-is_excessive.true ∙ c.is_excessive.ensures)

pub returns : goal.returns
returns c =
    let a = c.args in
    let v = c.audit_in-audited in
    let u = units_of a.points.now a.d a.p.samples (take a.p.axes a.axes.now) (take a.p.axes a.eps.now) in
    let h : Physical a.p u (memory_at a.p a.work.now) (memory_at a.p c.put_physical.new.work) (memory_at a.p v.new.work)
    v.result.checked v.result.outcome = record {
      physical = c.put_physical.ensures;
      outcome = v.ensures.outcome_value.0;
      counted = v.ensures.outcome_value.1;
      after = v.ensures.work_after;
    } in
    ap (λ (k : Counts). done (selected_in a.p (take a.p.axes c.errors_in-errors.result) k (memory_at a.p v.new.work))) c.after_audit.ensures
    ∙ finish_done h (counts_of a.report.now) c.errors_in-errors.result c.errors_in-errors.ensures
    (ap audits.number_of c.in_ok-audited.was) (sym c.if-is_excessive.false ∙ c.is_excessive.ensures)
