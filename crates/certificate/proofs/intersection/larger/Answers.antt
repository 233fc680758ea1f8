use Rattle.figure.specs.Figure.{larger}
use Rattle.certificate.proofs.intersection.larger.Goals as goal

pub returns-in_err-x : goal.returns-in_err-x
unfolding larger
returns-in_err-x c = rw (c.from_residual.ensures, c.in_err-x.was)

pub returns-in_err-y : goal.returns-in_err-y
unfolding larger
returns-in_err-y c = rw (c.from_residual-in_err-y.ensures, c.in_err-y.was, c.in_ok-x.was)

pub returns : goal.returns
unfolding larger
returns c = rw (c.higher.ensures, c.in_ok-y.was, c.in_ok-x.was)
