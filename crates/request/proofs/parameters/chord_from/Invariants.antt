-- The sum of the rows so far.
use Rattle.std.proofs.Common.{◌≡◌}
use Rattle.request.specs.Parameters.{sum_of, square_of}
use Rattle.request.proofs.parameters.chord_from.Given as goal

abbrev pub invariant-loop-row : goal.invariant-loop-row
invariant-loop-row l = l.sum ≡ sum_of l.row (square_of l.points l.d l.i)
