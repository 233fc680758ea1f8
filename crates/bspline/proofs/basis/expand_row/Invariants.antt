use Rattle.std.proofs.Common.{◌≡◌, ◌+◌}
use Rattle.arith.specs.Operations.{floats}
use Rattle.arith.specs.Loop.{each}
use Rattle.bspline.specs.Powers.{expansion_turn, expand}
use Rattle.bspline.proofs.basis.expand_row.Given as goal

-- the coefficients left, from the two rows now, give the whole rows
abbrev pub invariant-loop-k : goal.invariant-loop-k
invariant-loop-k l =
    each (expansion_turn floats l.b l.at l.saved l.left l.right) l.k (l.j + 1) (record { next = l.next; upper = l.upper })
    ≡ expand floats l.b l.at l.saved l.left l.right l.j
