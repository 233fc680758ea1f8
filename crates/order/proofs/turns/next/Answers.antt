-- The lowest-numbered lane that is neither cut nor held back.
use Rattle.std.proofs.Common.{◌∙◌}
use Rattle.order.proofs.Turning.{lowest_ready}
use Rattle.order.proofs.turns.next.Goals as goal

pub returns : goal.returns
returns c list s =
    let a = c.args in
    c.lowest_outside.ensures
    ∙ lowest_ready a.lanes a.pairs.now a.cut c.waiting.result c.union.result c.requires.1 c.waiting.ensures c.union.ensures list s
