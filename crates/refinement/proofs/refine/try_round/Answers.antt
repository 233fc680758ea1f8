-- 15 refuses the round, or lets it through.
use Rattle.std.proofs.Common.{arith, ◌≡◌, ◌+◌, length}
use Rattle.std.proofs.lemmas.Result.{err_from_is_err_and}
use Rattle.smoothing.specs.Answer.Answer.{done}
use Rattle.smoothing.specs.Refusal.{refused_by}
use Rattle.refinement.specs.Memory.{state_at, sized}
use Rattle.running_report.specs.Counted.{counts_of}
use Rattle.refinement.proofs.Refining.{located_rising, located_numbers, try_refused, try_goes}
use Rattle.refinement.proofs.refine.try_round.Goals as goal

pub returns-then-segments-p-clause-work_after : goal.returns-then-segments-p-clause-work_after
returns-then-segments-p-clause-work_after c =
    let a = c.args in
    let k = c.locate-count in
    try_refused a.p a.work.now k.new.work k.result k.ensures (counts_of a.report.now) a.segments c.if-segments-p.true

pub round_from-requires-clause-roomy : goal.round_from-requires-clause-roomy
round_from-requires-clause-roomy c =
    let a = c.args in
    let k = c.locate-count in
    let r = c.requires.roomy in
    let same : length k.new.work ≡ length a.work.now = omega arith in (
      rw same r.0,
      omega (arith, c.if-segments-p.false, r.0.six, r.1),
      located_rising a.p a.work.now k.new.work k.result k.ensures r.2,
      located_numbers a.p a.work.now k.new.work k.result k.ensures r.2,
    )

pub returns-in_err-round_from-clause-work_after : goal.returns-in_err-round_from-clause-work_after
returns-in_err-round_from-clause-work_after c =
    let a = c.args in
    let k = c.locate-count in
    let v = c.in_err-round_from in
    let e = v.field-0.0 in
    let p = err_from_is_err_and c.from_residual.result c.from_residual.ensures.1 in
    rw (p.1, p.2) (try_goes a.p a.work.now k.new.work k.result k.ensures (counts_of a.report.now) a.segments (refused_by e)
    c.if-segments-p.false v.ensures.work_after)

pub returns-clause-work_after : goal.returns-clause-work_after
returns-clause-work_after c =
    let a = c.args in
    let k = c.locate-count in
    let v = c.round_from in
    try_goes a.p a.work.now k.new.work k.result k.ensures (counts_of a.report.now) a.segments
    (done (state_at (sized a.p (a.p.count + k.result)) (counts_of v.new.report) v.new.work)) c.if-segments-p.false
    c.in_ok-round_from.ensures.work_after
