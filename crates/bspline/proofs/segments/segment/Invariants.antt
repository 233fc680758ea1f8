use Rattle.std.proofs.Common.{◌≡◌}
use Rattle.arith.specs.Operations.{floats}
use Rattle.arith.specs.Loop.{each}
use Rattle.bspline.specs.Segments.{add_row}
use Rattle.bspline.proofs.segments.segment.Given as goal

-- the rows left, from the coefficients now, give the sum of all
abbrev pub invariant-loop-r : goal.invariant-loop-r
invariant-loop-r l = each (add_row floats l.rows l.c l.at l.d) l.r 6 l.p ≡ each (add_row floats l.rows l.c l.at l.d) 0 6 l.initial.p
