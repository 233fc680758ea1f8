-- Refinement settles, is used up, is refused by a round, or goes on after it.
use Rattle.std.proofs.Common.{arith, ap, ◌∙◌, ◌≡◌, ◌<◌, length}
use Rattle.std.proofs.lemmas.Result.{err_from_is_err_and}
use lib.Ieee.{of_bits, round}
use Rattle.smoothing.specs.Rows.{Task}
use Rattle.refinement.specs.Memory.{task_at, state_at, sized}
use Rattle.running_report.specs.Counted.{counts_of}
use Rattle.refinement.specs.Refined.{tried}
use Rattle.refinement.proofs.Memories.{roomy_few}
use Rattle.refinement.proofs.Refining.{refine_done, refine_used_up, refine_refused, refine_next}
use Rattle.refinement.proofs.refine.refine.Goals as goal

pub returns-then-w-clause-work_after : goal.returns-then-w-clause-work_after
unfolding of_bits round
returns-then-w-clause-work_after c =
    let a = c.args in
    let l = c.loop-p in
    let w = c.worst-w in
    refine_done a.segments (task_at a.p a.work.now) (state_at (sized a.p l.m) (counts_of l.report) l.work) w.result
    w.ensures l.rest _ l.invariant.4 c.if-w.true

pub returns-then-rest-lt-LEAST_LEFT-clause-work_after : goal.returns-then-rest-lt-LEAST_LEFT-clause-work_after
unfolding of_bits round
returns-then-rest-lt-LEAST_LEFT-clause-work_after c =
    let a = c.args in
    let l = c.loop-p in
    let w = c.worst-w in
    let z : l.rest ≡ 0 = omega arith in
    refine_used_up a.segments (task_at a.p a.work.now) (state_at (sized a.p l.m) (counts_of l.report) l.work)
    w.result w.ensures l.rest _ l.invariant.4 c.if-w.false z

pub returns-in_err-m-clause-work_after : goal.returns-in_err-m-clause-work_after
unfolding of_bits round
returns-in_err-m-clause-work_after c =
    let a = c.args in
    let l = c.loop-p in
    let w = c.worst-w in
    let v = c.in_err-m in
    let e = v.field-0.0 in
    let p = err_from_is_err_and c.from_residual.result c.from_residual.ensures.1 in
    let st = state_at (sized a.p l.m) (counts_of l.report) l.work in
    let some : 0 < l.rest = omega (arith, c.if-rest-lt-LEAST_LEFT.false) in
    rw (p.1, p.2) (refine_refused a.segments (task_at a.p a.work.now) st w.result w.ensures l.rest _ l.invariant.4 c.if-w.false some e
    (v.ensures.work_after ∙ ap (λ (t : Task). tried a.segments t st) l.invariant.3))

pub loop-p-preserved : goal.loop-p-preserved
unfolding of_bits round
loop-p-preserved c =
    let a = c.args in
    let l = c.loop-p in
    let w = c.worst-w in
    let m = c.in_ok-m.m in
    let v = c.in_ok-m.ensures in
    let st = state_at (sized a.p l.m) (counts_of l.report) l.work in
    let after = state_at (sized a.p m) (counts_of c.try_round.new.report) c.try_round.new.work in
    let some : 0 < l.rest = omega (arith, c.if-rest-lt-LEAST_LEFT.false) in
    let k = v.standing in
    let f = v.refinements_bound_2 in
    let same : length c.try_round.new.work ≡ length a.work.now = omega arith in (
      same,
      rw same (roomy_few a.p (length a.work.now) m a.segments c.requires.roomy.0 k.0.rising.six k.1 c.requires.roomy.1),
      k.0.rising,
      k.0.same_task ∙ l.invariant.3,
      refine_next a.segments (task_at a.p a.work.now) st w.result w.ensures l.rest _ l.invariant.4 c.if-w.false some after
          (v.work_after ∙ ap (λ (t : Task). tried a.segments t st) l.invariant.3),
      omega (arith, f.0, l.invariant.5, some),
      omega (arith, f.1.rows, l.invariant.6, some),
      omega (arith, f.1.intervals, l.invariant.7, some),
    )
