-- The axes left, from the right sides as they are, give all of them.
use Rattle.std.proofs.Common.{◌≡◌}
use Rattle.arith.specs.Loop.{each}
use Rattle.normal.specs.Add.{shares_of, add_right_of}
use Rattle.normal.proofs.add_right.Given as goal

abbrev pub invariant-loop-axis : goal.invariant-loop-axis
invariant-loop-axis l =
    each (shares_of l.a l.n l.d l.row) l.axis l.d l.r ≡ add_right_of l.a l.n l.d l.row l.fn.r
