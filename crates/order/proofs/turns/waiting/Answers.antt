-- A pair more.
use Rattle.order.proofs.Turning.{waits_none, waits_more}
use Rattle.order.proofs.turns.waiting.Goals as goal

pub loop-pair-init : goal.loop-pair-init
loop-pair-init c = waits_none c.args.pairs.now c.args.cut

pub loop-pair-preserved : goal.loop-pair-preserved
loop-pair-preserved c =
    let l = c.loop-pair in
    let a = c.args in
    waits_more a.pairs.now a.cut l.pair-index l.set c.hold_back-set.result l.invariant (c.requires l.pair-index c.loop-pair-test.true).0
    c.hold_back-set.ensures
