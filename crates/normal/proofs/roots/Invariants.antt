-- The roots left, from the system as it is, give all of them.
use Rattle.std.proofs.Common.{◌≡◌}
use Rattle.arith.specs.Loop.{each}
use Rattle.normal.specs.System.{system_of}
use Rattle.normal.specs.Solve.{root_of, roots_of}
use Rattle.normal.proofs.roots.Given as goal

abbrev pub invariant-loop-i : goal.invariant-loop-i
invariant-loop-i l =
    each root_of l.i l.n (system_of l.n l.d l.sys) ≡ roots_of l.n (system_of l.n l.d l.fn.sys)
