-- The bits of both.
use Rattle.order.proofs.Bits.{held_or}
use Rattle.order.proofs.sets.union.Goals as goal

pub returns : goal.returns
returns c l = held_or _ _ l
