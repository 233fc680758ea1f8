-- The rows left, from the system as it is, give all of them.
use Rattle.std.proofs.Common.{◌≡◌}
use Rattle.arith.specs.Loop.{each}
use Rattle.normal.specs.System.{system_of}
use Rattle.normal.specs.Solve.{forward_row_of, forward_of}
use Rattle.normal.proofs.forward.Given as goal

abbrev pub invariant-loop-i : goal.invariant-loop-i
invariant-loop-i l =
    each (forward_row_of l.d) l.i l.n (system_of l.n l.d l.sys) ≡ forward_of l.n l.d (system_of l.n l.d l.fn.sys)
