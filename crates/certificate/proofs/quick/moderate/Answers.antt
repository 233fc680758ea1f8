use Rattle.std.proofs.Common.{refl}
use lib.Ieee.{of_bits}
use Rattle.arith.proofs.Truth.{and_parts}
use Rattle.certificate.proofs.quick.moderate.Goals as goal

pub returns : goal.returns
unfolding of_bits
returns c = λ h.
    let three = and_parts _ _ h in
    let two = and_parts _ _ three.0 in
    let one = and_parts _ _ two.0 in
    record {
      parameters = c.parameters_within.ensures one.0;
      first = c.within.ensures 100 one.1 refl;
      second = c.within-2.ensures 100 two.1 refl;
      coefficients = c.six_within.ensures three.1;
    }
