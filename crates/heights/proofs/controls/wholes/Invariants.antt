-- The first k controls are there.
use Rattle.heights.proofs.Filled.{Filled}
use Rattle.heights.proofs.controls.wholes.Given as goal

abbrev pub invariant-loop-k : goal.invariant-loop-k
invariant-loop-k l = Filled l.b l.cells l.k
