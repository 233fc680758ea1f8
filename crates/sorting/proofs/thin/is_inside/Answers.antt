use lib.Ieee.{mul, of_bits, round}
use Rattle.sorting.specs.Thin.{inside, gap}
use Rattle.sorting.proofs.thin.is_inside.Goals as goal

pub returns-then-x : goal.returns-then-x
unfolding inside gap of_bits round mul
returns-then-x c = rw c.if-x.true

pub returns-else-x : goal.returns-else-x
unfolding inside gap of_bits round mul
returns-else-x c = rw c.if-x.false
