-- `quick::sum_3` meets its contract.
use native.Mathlib.Omega.{arith}
use lib.Ieee.{of_bits, round}
use Rattle.figure.specs.Intersection.{raised, total}
use Rattle.pairs.proofs.SpreadSums.{stands_wider}
use Rattle.certificate.proofs.Wholes.{four, ten}
use borrow.Author.Rules.{rules}
use Rattle.certificate.proofs.quick.sum_3.Statement.{statement}
use Rattle.certificate.proofs.quick.sum_3.Tie as tie

returns : tie.Need-returns
unfolding total raised of_bits round
returns c = λ e N U. stands_wider 428 431 (omega arith) _ _
    (c.gained.ensures 427 _ _ (omega arith) (omega arith)
    (c.gained-b.ensures 426 _ _ (omega arith) (omega arith)
    (c.lead-a.ensures (N 3 (omega arith))) four.number (N 4 (omega arith)) U.0) ten.number (N 5 (omega arith))
    U.1)

pub sum_3_spec : {M : Type 1} → statement M
sum_3_spec = tie.close (tie.spec (λ c. search rules) (λ c κs. search rules) (λ c. search rules) (λ c κs. search rules) (λ c. search
    rules) (λ c κs. search rules) returns)
