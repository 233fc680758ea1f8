-- `quick::curve_powers` meets its contract.
use native.Mathlib.Omega.{arith}
use lib.Ieee.{of_bits, round}
use Rattle.figure.specs.Intersection.{raised}
use Rattle.pairs.proofs.SpreadSums.{stands_wider}
use Rattle.certificate.proofs.Wholes.{one}
use borrow.Author.Rules.{rules}
use Rattle.certificate.proofs.quick.curve_powers.Statement.{statement}
use Rattle.certificate.proofs.quick.curve_powers.Tie as tie

returns : tie.Need-returns
unfolding raised of_bits round
returns c = λ f g Q W. (
  stands_wider 436 753 (omega arith) _ _ (c.times_number-zero.ensures 431 4 _ (omega arith) Q.0
      one.number one.not_negative),
  stands_wider 752 753 (omega arith) _ _ (c.times-one.ensures 431 320 _ _ (omega arith) Q.1 W.0),
  stands_wider 752 753 (omega arith) _ _ (c.times-two.ensures 431 320 _ _ (omega arith) Q.2 W.1),
  stands_wider 752 753 (omega arith) _ _ (c.times-three.ensures 431 320 _ _ (omega arith) Q.3 W.2),
  stands_wider 752 753 (omega arith) _ _ (c.times-four.ensures 431 320 _ _ (omega arith) Q.4 W.3),
  stands_wider 752 753 (omega arith) _ _ (c.times-five.ensures 431 320 _ _ (omega arith) Q.5 W.4),
)

pub curve_powers_spec : {M : Type 1} → statement M
curve_powers_spec = tie.close (tie.spec (λ c κs. search rules) (λ c κs. search rules) (λ c κs. search rules) (λ c κs. search rules) (λ c
    κs. search rules) (λ c κs. search rules) returns)
