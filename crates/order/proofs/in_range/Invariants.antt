-- The lanes of the pairs before this one are in range.
use Rattle.std.proofs.Common.{◌≡◌, not}
use Rattle.arith.specs.First.{first_of}
use Rattle.order.proofs.Promises.{pair_fits}
use Rattle.order.proofs.in_range.Given as goal

abbrev pub invariant-loop-pair : goal.invariant-loop-pair
invariant-loop-pair l = first_of l.pair-index (λ j. not (pair_fits l.pairs l.lanes j)) ≡ l.pair-index
