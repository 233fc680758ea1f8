-- The axes left, from the residual so far, give the whole residual.
use Rattle.std.proofs.Common.{◌≡◌}
use Rattle.arith.specs.Loop.{each}
use Rattle.normal.specs.Add.{difference_of, row_of}
use Rattle.normal.proofs.fitting_row.Given as goal

abbrev pub invariant-loop-axis : goal.invariant-loop-axis
invariant-loop-axis l =
    each (difference_of l.c l.d l.start l.basis l.weight l.target) l.axis l.d l.residual ≡ (row_of l.c l.d l.start l.basis l.weight l.target).residual
