-- The cells left, from the system as it is, give the whole row.
use Rattle.std.proofs.Common.{◌≡◌}
use Rattle.arith.specs.Loop.{each}
use Rattle.normal.specs.System.{system_of}
use Rattle.normal.specs.Solve.{scale_cell_of, scale_row_of}
use Rattle.normal.proofs.scale_row.Given as goal

abbrev pub invariant-loop-k : goal.invariant-loop-k
invariant-loop-k l =
    each (scale_cell_of l.i) l.k l.k-end (system_of l.n l.d l.sys) ≡ scale_row_of l.i (system_of l.n l.d l.fn.sys)
