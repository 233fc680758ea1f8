use Rattle.std.proofs.Common.{refl}
use lib.Ieee.{of_bits}
use Rattle.arith.proofs.Truth.{and_parts}
use Rattle.estimate.proofs.Largest.{six_all}
use Rattle.estimate.proofs.sizes.six_within.Goals as goal

pub returns : goal.returns
unfolding of_bits
returns c = λ h.
    let five = and_parts _ _ h in
    let four = and_parts _ _ five.0 in
    let three = and_parts _ _ four.0 in
    let two = and_parts _ _ three.0 in
    let one = and_parts _ _ two.0 in
    six_all _ (c.within.ensures 100 one.0 refl) (c.within-2.ensures 100 one.1 refl) (c.within-3.ensures 100 two.1 refl)
    (c.within-4.ensures 100 three.1 refl) (c.within-5.ensures 100 four.1 refl) (c.within-6.ensures 100 five.1 refl)
