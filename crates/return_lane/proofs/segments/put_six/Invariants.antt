-- The first k coefficients are written.
use Rattle.std.proofs.Common.{true, ◌+◌}
use Rattle.arith.specs.Operations.{floats}
use Rattle.window.specs.Cells.{at}
use Rattle.curve.proofs.Putting.{Put}
use Rattle.return_lane.specs.Segment.{return_coefficient}
use Rattle.return_lane.proofs.segments.put_six.Given as goal

abbrev pub invariant-loop-k : goal.invariant-loop-k
invariant-loop-k l = Put true l.to l.k (return_coefficient floats (λ j. at l.p (l.from + j))) l.fn.cells l.cells
