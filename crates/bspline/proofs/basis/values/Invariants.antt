use Rattle.std.proofs.Common.{◌≡◌}
use Rattle.arith.specs.Operations.{floats}
use Rattle.arith.specs.Loop.{each}
use Rattle.bspline.specs.Values.{outer_turn, values_of}
use Rattle.bspline.proofs.basis.values.Given as goal

-- the degrees left, from the values now, give those of degree five
abbrev pub invariant-loop-j : goal.invariant-loop-j
invariant-loop-j l =
    (each (outer_turn floats l.t l.span l.x) l.j 6 (record { row = l.b; left = l.left; right = l.right })).row
    ≡ values_of floats l.t l.span l.x
