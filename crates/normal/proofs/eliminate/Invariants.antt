-- The columns left, from the band as it is, give the whole row.
use Rattle.std.proofs.Common.{◌≡◌}
use Rattle.arith.specs.Loop.{each}
use Rattle.normal.specs.Solve.{eliminate_of, eliminated_of}
use Rattle.normal.proofs.eliminate.Given as goal

abbrev pub invariant-loop-j : goal.invariant-loop-j
invariant-loop-j l =
    each (eliminate_of l.i) l.j l.i l.h ≡ eliminated_of l.i l.fn.h
