use lib.Ieee.{of_bits, round}
use Rattle.figure.specs.Intersection.{raised}
use Rattle.certificate.proofs.Sums.{holds_six}
use Rattle.certificate.proofs.intersection.powers_of.Goals as goal

pub returns : goal.returns
unfolding raised of_bits round
returns c =
    holds_six _ _ _ _ _ _ _
    c.both-u0.ensures
    (rw (c.multiply-u1.ensures, c.both-u0.ensures))
    (rw (c.multiply-u2.ensures, c.multiply-u1.ensures, c.both-u0.ensures))
    (rw (c.multiply-u3.ensures, c.multiply-u2.ensures, c.multiply-u1.ensures, c.both-u0.ensures))
    (rw (c.multiply-u4.ensures, c.multiply-u3.ensures, c.multiply-u2.ensures, c.multiply-u1.ensures, c.both-u0.ensures))
    (rw (
      c.multiply-u5.ensures,
      c.multiply-u4.ensures,
      c.multiply-u3.ensures,
      c.multiply-u2.ensures,
      c.multiply-u1.ensures,
      c.both-u0.ensures,
    ))
