-- The rows left, from the system as it is, give all of them.
use Rattle.std.proofs.Common.{◌≡◌}
use Rattle.arith.specs.Loop.{each}
use Rattle.normal.specs.System.{system_of}
use Rattle.normal.specs.Solve.{divide_row_of, unscale_of}
use Rattle.normal.proofs.unscale.Given as goal

abbrev pub invariant-loop-i : goal.invariant-loop-i
invariant-loop-i l =
    each (divide_row_of l.d) l.i l.n (system_of l.n l.d l.sys) ≡ unscale_of l.n l.d (system_of l.n l.d l.fn.sys)
