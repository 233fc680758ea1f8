-- `quick::sum_4` meets its contract.
use native.Mathlib.Omega.{arith}
use lib.Ieee.{of_bits, round}
use Rattle.figure.specs.Intersection.{raised, total}
use Rattle.pairs.proofs.SpreadSums.{stands_wider}
use Rattle.certificate.proofs.Wholes.{five}
use borrow.Author.Rules.{rules}
use Rattle.certificate.proofs.quick.sum_4.Statement.{statement}
use Rattle.certificate.proofs.quick.sum_4.Tie as tie

returns : tie.Need-returns
unfolding total raised of_bits round
returns c = λ e N U. stands_wider 427 431 (omega arith) _ _
    (c.gained.ensures 426 _ _ (omega arith) (omega arith)
    (c.lead-a.ensures (N 4 (omega arith))) five.number (N 5 (omega arith)) U.0)

pub sum_4_spec : {M : Type 1} → statement M
sum_4_spec = tie.close (tie.spec (λ c. search rules) (λ c κs. search rules) (λ c. search rules) (λ c κs. search rules) returns)
