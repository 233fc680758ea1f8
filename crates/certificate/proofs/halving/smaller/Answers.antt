use Rattle.figure.specs.Figure.{smaller}
use Rattle.certificate.proofs.halving.smaller.Goals as goal

pub returns-in_err-x : goal.returns-in_err-x
unfolding smaller
returns-in_err-x c = rw (c.from_residual.ensures, c.in_err-x.was)

pub returns-in-Some : goal.returns-in-Some
unfolding smaller
returns-in-Some c = rw (c.lower.ensures, c.in-Some.is, c.in_ok-x.was)

pub returns-in-None : goal.returns-in-None
unfolding smaller
returns-in-None c = rw (c.in-None.is, c.in_ok-x.was)
