use Rattle.std.proofs.Common.{refl}
use lib.Ieee.{of_bits, round}
use Rattle.figure.specs.Intersection.{power, raised, total}
use Rattle.estimate.proofs.plain.curve_powers.Goals as goal

pub returns : goal.returns
unfolding power total raised of_bits round
returns c = (refl, refl, refl, refl, refl, refl)
