use Rattle.std.proofs.Common.{◌≡◌}
use Rattle.arith.specs.Operations.{floats}
use Rattle.arith.specs.Loop.{each}
use Rattle.bspline.specs.Segments.{add_turn}
use Rattle.bspline.proofs.segments.add_row.Given as goal

-- the turns left, from the coefficients now, give what all give
abbrev pub invariant-loop-k : goal.invariant-loop-k
invariant-loop-k l = each (add_turn floats l.rows l.r l.c) l.k 6 l.p ≡ each (add_turn floats l.rows l.r l.c) 0 6 l.fn.p
