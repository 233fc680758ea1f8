use Rattle.arith.proofs.Truth.{and_parts}
use Rattle.estimate.proofs.sizes.long.Goals as goal

pub returns : goal.returns
returns c = λ h. let one = and_parts _ _ h in (c.at_most.ensures one.0, c.at_most-2.ensures one.1)
