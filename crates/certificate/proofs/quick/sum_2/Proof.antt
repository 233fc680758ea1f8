-- `quick::sum_2` meets its contract.
use native.Mathlib.Omega.{arith}
use lib.Ieee.{of_bits, round}
use Rattle.figure.specs.Intersection.{raised, total}
use Rattle.pairs.proofs.SpreadSums.{stands_wider}
use Rattle.certificate.proofs.Wholes.{six, ten, three}
use borrow.Author.Rules.{rules}
use Rattle.certificate.proofs.quick.sum_2.Statement.{statement}
use Rattle.certificate.proofs.quick.sum_2.Tie as tie

returns : tie.Need-returns
unfolding total raised of_bits round
returns c = λ e N U. stands_wider 429 431 (omega arith) _ _
    (c.gained.ensures 428 _ _ (omega arith) (omega arith)
    (c.gained-c.ensures 427 _ _ (omega arith) (omega arith)
    (c.gained-b.ensures 426 _ _ (omega arith) (omega arith)
    (c.lead-a.ensures (N 2 (omega arith))) three.number (N 3 (omega arith)) U.0) six.number (N 4 (omega
    arith)) U.1) ten.number (N 5 (omega arith)) U.2)

pub sum_2_spec : {M : Type 1} → statement M
sum_2_spec = tie.close (tie.spec (λ c. search rules) (λ c κs. search rules) (λ c. search rules) (λ c κs. search rules) (λ c. search
    rules) (λ c κs. search rules) (λ c. search rules) (λ c κs. search rules) returns)
