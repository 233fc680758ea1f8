-- A region's turn, which is refused or goes on behind it.
use Rattle.std.proofs.Common.{arith, ◌∙◌}
use Rattle.std.proofs.lemmas.Result.{err_from_is_err_and}
use Rattle.smoothing.specs.Answer.Answer.{done}
use Rattle.smoothing.specs.Refusal.{refused_by}
use Rattle.refinement.specs.Memory.{memory_at, state_at}
use Rattle.running_report.specs.Counted.{counts_of}
use Rattle.refinement.proofs.Turns.{same_then, turn_is, turn_next, turn_refused, turns_done}
use Rattle.refinement.proofs.regions.refit_all.Goals as goal

pub returns-in_err-refit-clause-work_after : goal.returns-in_err-refit-clause-work_after
returns-in_err-refit-clause-work_after c =
    let a = c.args in
    let l = c.loop-from in
    let g = c.region_at-r in
    let e = c.in_err-refit.field-0.0 in
    let p = err_from_is_err_and c.from_residual.result c.from_residual.ensures.1 in
    let st = state_at a.p (counts_of l.report) l.work in
    let t = turn_is a.p a.count l.from g.result.next g.result.a g.result.z (memory_at a.p l.work) st (refused_by e)
    c.in_err-refit.ensures.0 g.ensures.work_value in
    rw (p.1, p.2) (turn_refused a.p a.count l.from (memory_at a.p a.work.now) (memory_at a.p l.work) st _ l.invariant.3 l.invariant.4
    g.result.next e t)

pub loop-from-preserved : goal.loop-from-preserved
loop-from-preserved c =
    let a = c.args in
    let l = c.loop-from in
    let g = c.region_at-r in
    let v = c.in_ok-refit.ensures in
    let st = state_at a.p (counts_of l.report) l.work in
    let st' = state_at a.p (counts_of c.refit.new.report) c.refit.new.work in
    let t = turn_is a.p a.count l.from g.result.next g.result.a g.result.z (memory_at a.p l.work) st (done st')
    v.0 g.ensures.work_value in (
      omega (arith, g.ensures.a_le_z.3),
      omega arith,
      v.1.0,
      same_then l.invariant.3 v.1.1,
      turn_next a.p a.count l.from (memory_at a.p a.work.now) (memory_at a.p l.work) st _ l.invariant.3 l.invariant.4 g.result.next st' t,
      v.2 ∙ l.invariant.5,
      record {
        rows = omega (arith, v.3.rows, l.invariant.6.rows, g.ensures.a_le_z.2);
        intervals = omega (arith, v.3.intervals, l.invariant.6.intervals, g.ensures.a_le_z.2);
      },
    )

pub returns-clause-work_after : goal.returns-clause-work_after
returns-clause-work_after c =
    let a = c.args in
    let l = c.loop-from in
    turns_done a.p a.count l.from (memory_at a.p a.work.now) (memory_at a.p l.work) (state_at a.p (counts_of l.report) l.work) _
    l.invariant.3 l.invariant.4 c.loop-from-test.false
