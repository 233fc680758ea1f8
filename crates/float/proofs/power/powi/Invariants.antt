use Rattle.float.proofs.Halving.{Left}
use Rattle.float.proofs.power.powi.Given as goal

-- what is left of the digits, from the result and the base now, gives the power
abbrev pub invariant-loop-left : goal.invariant-loop-left
invariant-loop-left l = Left l.x l.n l.result l.base l.left

abbrev pub decreases-loop-left : goal.decreases-loop-left
decreases-loop-left l = l.left
