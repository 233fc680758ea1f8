-- The first cells are written.
use Rattle.std.proofs.Common.{true, length}
use Rattle.curve.proofs.Putting.{Put}
use Rattle.request.specs.Parameters.{normalised_of}
use Rattle.gathering.proofs.parameters.normalise.Given as goal

abbrev pub invariant-loop-x : goal.invariant-loop-x
invariant-loop-x l = Put true 0 l.x-index (normalised_of l.fn.cells (length l.fn.cells)) l.fn.cells l.cells
