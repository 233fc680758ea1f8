use lib.Ieee.{of_bits, round}
use Rattle.seed.specs.Knots.{width_of}
use Rattle.seed.proofs.knots.width.Goals as goal

pub returns : goal.returns
unfolding width_of of_bits round
returns c = rw (c.min-2.ensures, c.min.ensures)
