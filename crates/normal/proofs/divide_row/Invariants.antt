-- The axes left, from the system as it is, give the whole row.
use Rattle.std.proofs.Common.{◌≡◌}
use Rattle.arith.specs.Loop.{each}
use Rattle.normal.specs.System.{system_of}
use Rattle.normal.specs.Solve.{divide_of, divide_row_of}
use Rattle.normal.proofs.divide_row.Given as goal

abbrev pub invariant-loop-axis : goal.invariant-loop-axis
invariant-loop-axis l =
    each (divide_of l.d l.i l.scale) l.axis l.d (system_of l.n l.d l.sys) ≡ divide_row_of l.d l.i (system_of l.n l.d l.fn.sys)
