-- The shares left, from the right sides as they are, give all of them.
use Rattle.std.proofs.Common.{◌≡◌}
use Rattle.arith.specs.Loop.{each}
use Rattle.normal.specs.Add.{share_of, shares_of}
use Rattle.normal.proofs.add_axis.Given as goal

abbrev pub invariant-loop-i : goal.invariant-loop-i
invariant-loop-i l =
    each (share_of l.a l.n l.d l.row l.axis) l.i 6 l.r ≡ shares_of l.a l.n l.d l.row l.axis l.fn.r
