-- The products left, taken from v, give what all of them give.
use Rattle.std.proofs.Common.{◌≡◌}
use Rattle.arith.specs.Loop.{each}
use Rattle.normal.specs.System.{system_of}
use Rattle.normal.specs.Solve.{back_term_of, back_value_of}
use Rattle.normal.proofs.back_value.Given as goal

abbrev pub invariant-loop-j : goal.invariant-loop-j
invariant-loop-j l =
    each (back_term_of l.d l.i l.axis (system_of l.n l.d l.sys)) l.j l.j-end l.v ≡ back_value_of l.n l.d l.i l.axis (system_of l.n l.d l.sys)
