use Rattle.seed.specs.Knots.{around}
use Rattle.seed.proofs.knots.knots_around.Goals as goal

pub returns : goal.returns
unfolding around
returns c = rw (c.width-w.ensures, c.jump.ensures)
