-- The first i breaks are written.
use Rattle.std.proofs.Common.{true}
use Rattle.curve.proofs.Putting.{Put}
use Rattle.return_lane.specs.Return.{return_break}
use Rattle.return_lane.proofs.breaks.put_breaks.Given as goal

abbrev pub invariant-loop-i : goal.invariant-loop-i
invariant-loop-i l = Put true 0 l.i (return_break l.breaks) l.fn.cells l.cells
