-- The lanes before this one are in the set.
use Rattle.std.proofs.Common.{◌≡◌, not}
use Rattle.arith.specs.First.{first_of}
use Rattle.order.specs.Sets.{held}
use Rattle.order.proofs.sets.lowest_outside.Given as goal

abbrev pub invariant-loop-lane : goal.invariant-loop-lane
invariant-loop-lane l = first_of l.lane (λ k. not (held l.set k)) ≡ l.lane
