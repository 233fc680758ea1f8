-- The products left, taken from v, give what all of them give.
use Rattle.std.proofs.Common.{◌≡◌}
use Rattle.arith.specs.Loop.{each}
use Rattle.normal.specs.Solve.{reduce_of, reduced_of}
use Rattle.normal.proofs.reduced.Given as goal

abbrev pub invariant-loop-k : goal.invariant-loop-k
invariant-loop-k l =
    each (reduce_of l.h l.i l.j) l.k l.j l.v ≡ reduced_of l.h l.i l.j
