-- The widths of the first i segments are written.
use Rattle.std.proofs.Common.{true}
use Rattle.curve.specs.Form.{width_of}
use Rattle.curve.proofs.Putting.{Put}
use Rattle.curve.proofs.widths.put_widths.Given as goal

abbrev pub invariant-loop-i : goal.invariant-loop-i
invariant-loop-i l = Put true l.from l.i (width_of l.breaks) l.fn.cells l.cells
