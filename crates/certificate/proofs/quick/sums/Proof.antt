-- `quick::sums` meets its contract.
use native.Mathlib.Omega.{arith}
use lib.Ieee.{of_bits, round}
use Rattle.figure.specs.Intersection.{raised, total}
use Rattle.pairs.proofs.SpreadSums.{stands_wider}
use borrow.Author.Rules.{rules}
use Rattle.certificate.proofs.quick.sums.Statement.{statement}
use Rattle.certificate.proofs.quick.sums.Tie as tie

returns : tie.Need-returns
unfolding total raised of_bits round
returns c = λ e N U. (
  c.sum_0-zero.ensures e N U,
  c.sum_1-one.ensures e N U,
  c.sum_2-two.ensures e N U,
  c.sum_3-three.ensures e N U,
  c.sum_4-four.ensures e N U,
  stands_wider 426 431 (omega arith) _ _ (c.lead-five.ensures (N 5 (omega arith))),
)

pub sums_spec : {M : Type 1} → statement M
sums_spec = tie.close (tie.spec (λ c κs. search rules) (λ c κs. search rules) (λ c κs. search rules) (λ c κs. search rules) (λ c κs.
    search rules) (λ c. search rules) (λ c κs. search rules) returns)
