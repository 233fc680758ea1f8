use Rattle.std.proofs.Common.{◌≡◌, ◌+◌, ◌-◌}
use Rattle.arith.specs.Operations.{floats}
use Rattle.window.specs.Rows.{list_of, written}
use Rattle.bspline.specs.Insertion.{alpha_of}
use Rattle.bspline.proofs.insertion.insert_weights.Given as goal

-- the first r weights are written
abbrev pub invariant-loop-r : goal.invariant-loop-r
invariant-loop-r l = l.alpha ≡ written 0 (list_of l.r (λ i. alpha_of floats l.t l.x (l.k - 4 + i))) l.initial.alpha
