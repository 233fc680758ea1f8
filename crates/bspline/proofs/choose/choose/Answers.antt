-- the literals are the table's
use Rattle.std.proofs.Common.{refl}
use lib.Ieee.{of_bits, round}
use Rattle.bspline.specs.Choose.{choose_of, factorials}
use Rattle.bspline.proofs.choose.choose.Goals as goal

pub returns : goal.returns
unfolding choose_of factorials of_bits round
returns c = refl
