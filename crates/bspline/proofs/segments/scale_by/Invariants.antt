use Rattle.std.proofs.Common.{◌≡◌}
use Rattle.arith.specs.Operations.{floats}
use Rattle.arith.specs.Loop.{each}
use Rattle.bspline.specs.Segments.{scale_turn}
use Rattle.bspline.proofs.segments.scale_by.Given as goal

-- the turns left, from the coefficients and the scale now, give what all give
abbrev pub invariant-loop-k : goal.invariant-loop-k
invariant-loop-k l =
    each (scale_turn floats l.h) l.k 6 (record { coefficients = l.p; scale = l.scale })
    ≡ each (scale_turn floats l.h) 0 6 (record { coefficients = l.fn.p; scale = l.initial.scale })
