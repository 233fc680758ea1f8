use Rattle.std.proofs.Common.{refl}
use lib.Ieee.{of_bits}
use Rattle.arith.proofs.Truth.{and_parts}
use Rattle.certificate.proofs.quick.parameters_within.Goals as goal

pub returns : goal.returns
unfolding of_bits
returns c = λ h.
    let five = and_parts _ _ h in
    let four = and_parts _ _ five.0 in
    let three = and_parts _ _ four.0 in
    let two = and_parts _ _ three.0 in
    let one = and_parts _ _ two.0 in
    record {
      start = c.within.ensures 1 one.0 refl;
      end = c.within-2.ensures 1 one.1 refl;
      left = c.within-3.ensures 1 two.1 refl;
      right = c.within-4.ensures 1 three.1 refl;
      from = c.within-5.ensures 1 four.1 refl;
      to = c.within-6.ensures 1 five.1 refl;
    }
