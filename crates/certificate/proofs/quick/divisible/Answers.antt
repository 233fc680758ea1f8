use lib.Ieee.{neg, of_bits}
use Rattle.arith.proofs.Truth.{and_parts}
use Rattle.certificate.proofs.quick.divisible.Goals as goal

pub returns : goal.returns
unfolding of_bits neg
returns c = λ h.
    let four = and_parts _ _ h in
    let three = and_parts _ _ four.0 in
    let two = and_parts _ _ three.0 in
    let one = and_parts _ _ two.0 in
    (one.0, one.1, two.1, three.1, four.1)
