use lib.Ieee.{of_bits, round}
use Rattle.certificate.proofs.halving.midpoint.Goals as goal

pub returns : goal.returns
unfolding of_bits round
returns c = rw (c.divide_by.ensures, c.add.ensures)
