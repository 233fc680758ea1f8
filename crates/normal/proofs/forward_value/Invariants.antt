-- The products left, taken from v, give what all of them give.
use Rattle.std.proofs.Common.{◌≡◌}
use Rattle.arith.specs.Loop.{each}
use Rattle.normal.specs.System.{system_of}
use Rattle.normal.specs.Solve.{forward_term_of, forward_value_of}
use Rattle.normal.proofs.forward_value.Given as goal

abbrev pub invariant-loop-k : goal.invariant-loop-k
invariant-loop-k l =
    each (forward_term_of l.d l.i l.axis (system_of l.n l.d l.sys)) l.k l.k-end l.v ≡ forward_value_of l.d l.i l.axis (system_of l.n l.d l.sys)
