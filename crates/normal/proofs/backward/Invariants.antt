-- The rows left, from the last down, give all of them.
use Rattle.std.proofs.Common.{◌≡◌}
use Rattle.arith.specs.Loop.{back}
use Rattle.normal.specs.System.{system_of}
use Rattle.normal.specs.Solve.{back_row_of, backward_of}
use Rattle.normal.proofs.backward.Given as goal

abbrev pub invariant-loop-i : goal.invariant-loop-i
invariant-loop-i l =
    back (back_row_of l.n l.d) 0 l.i (system_of l.n l.d l.sys) ≡ backward_of l.n l.d (system_of l.n l.d l.fn.sys)
