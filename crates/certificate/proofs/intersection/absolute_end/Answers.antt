use Rattle.figure.specs.Figure.{absolute_end}
use Rattle.certificate.proofs.intersection.absolute_end.Goals as goal

pub returns-then-e : goal.returns-then-e
unfolding absolute_end
returns-then-e c = rw (c.if-e.true, c.largest_end.ensures)

pub returns-else-e : goal.returns-else-e
unfolding absolute_end
returns-else-e c = rw c.if-e.false
