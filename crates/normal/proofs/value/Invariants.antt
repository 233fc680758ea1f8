-- The terms left, added to the sum so far, give the whole sum.
use Rattle.std.proofs.Common.{◌≡◌}
use Rattle.arith.specs.Loop.{each}
use Rattle.normal.specs.Add.{term_of, value_of}
use Rattle.normal.proofs.value.Given as goal

abbrev pub invariant-loop-j : goal.invariant-loop-j
invariant-loop-j l =
    each (term_of l.c l.d l.start l.basis l.axis) l.j 6 l.sum ≡ value_of l.c l.d l.start l.basis l.axis
