-- The axes left, from the system as it is, give the whole row.
use Rattle.std.proofs.Common.{◌≡◌}
use Rattle.arith.specs.Loop.{each}
use Rattle.normal.specs.System.{system_of}
use Rattle.normal.specs.Solve.{back_cell_of, back_row_of}
use Rattle.normal.proofs.back_row.Given as goal

abbrev pub invariant-loop-axis : goal.invariant-loop-axis
invariant-loop-axis l =
    each (back_cell_of l.n l.d l.i) l.axis l.d (system_of l.n l.d l.sys) ≡ back_row_of l.n l.d l.i (system_of l.n l.d l.fn.sys)
