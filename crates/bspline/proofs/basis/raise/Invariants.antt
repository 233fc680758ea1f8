use Rattle.std.proofs.Common.{◌≡◌}
use Rattle.arith.specs.Operations.{floats}
use Rattle.arith.specs.Loop.{each}
use Rattle.bspline.specs.Values.{inner_turn}
use Rattle.bspline.proofs.basis.raise.Given as goal

-- the turns left, from the values now, give what all give
abbrev pub invariant-loop-r : goal.invariant-loop-r
invariant-loop-r l =
    each (inner_turn floats l.left l.right l.j) l.r l.j (record { row = l.b; saved = l.saved })
    ≡ each (inner_turn floats l.left l.right l.j) 0 l.j (record { row = l.initial.b; saved = l.initial.saved })
