use Rattle.arith.proofs.Truth.{and_parts}
use Rattle.estimate.proofs.sizes.measured.Goals as goal

pub returns : goal.returns
returns c = λ h.
    let two = and_parts _ _ h in
    let one = and_parts _ _ two.0 in
    (c.sized.ensures one.0, c.placed.ensures one.1, c.long.ensures two.1)
