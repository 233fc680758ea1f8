-- The set has the lanes that the pairs before this one hold back.
use Rattle.order.proofs.Turning.{Waits}
use Rattle.order.proofs.turns.waiting.Given as goal

abbrev pub invariant-loop-pair : goal.invariant-loop-pair
invariant-loop-pair l = Waits l.pairs l.cut l.pair-index l.set
