use lib.Ieee.{neg, of_bits}
use Rattle.pairs.proofs.ends.movable.Goals as goal

pub returns-then-low : goal.returns-then-low
unfolding neg of_bits
returns-then-low c = rw c.if-low.true

pub returns-else-low : goal.returns-else-low
unfolding neg of_bits
returns-else-low c = rw c.if-low.false
