use Rattle.std.proofs.Common.{refl}
use lib.Ieee.{of_bits}
use Rattle.arith.proofs.Truth.{and_parts}
use Rattle.estimate.proofs.sizes.sized.Goals as goal

pub returns : goal.returns
unfolding of_bits
returns c = λ h.
    let two = and_parts _ _ h in
    let one = and_parts _ _ two.0 in
    record {
      first = c.within.ensures 100 one.0 refl;
      second = c.within-2.ensures 100 one.1 refl;
      coefficients = c.six_within.ensures two.1;
    }
