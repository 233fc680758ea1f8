-- The rows left, from the band as it is, give all of them.
use Rattle.std.proofs.Common.{◌≡◌}
use Rattle.arith.specs.Loop.{each}
use Rattle.normal.specs.Add.{products_of, add_band_of}
use Rattle.normal.proofs.add_band.Given as goal

abbrev pub invariant-loop-i : goal.invariant-loop-i
invariant-loop-i l =
    each (products_of l.a l.n l.row) l.i 6 l.h ≡ add_band_of l.a l.n l.row l.fn.h
