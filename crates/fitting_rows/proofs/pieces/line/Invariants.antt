-- The axes left, from the cells so far, give all cells.
use Rattle.std.proofs.Common.{◌≡◌}
use Rattle.arith.specs.Loop.{each}
use Rattle.fitting_rows.specs.Pieces.{line_turn, line_of}
use Rattle.fitting_rows.proofs.pieces.line.Given as goal

abbrev pub invariant-loop-axis : goal.invariant-loop-axis
invariant-loop-axis l = each (line_turn l.y l.d l.i l.f) l.axis l.d l.cells ≡ line_of l.s l.y l.d l.i l.x
