-- The products left, from the band as it is, give all of them.
use Rattle.std.proofs.Common.{◌≡◌, ◌+◌}
use Rattle.arith.specs.Loop.{each}
use Rattle.normal.specs.Add.{product_of}
use Rattle.normal.proofs.add_products.Given as goal

abbrev pub invariant-loop-j : goal.invariant-loop-j
invariant-loop-j l =
    each (product_of l.a l.row l.i) l.j (l.i + 1) l.h ≡ each (product_of l.a l.row l.i) 0 (l.i + 1) l.fn.h
