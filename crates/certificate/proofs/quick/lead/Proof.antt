-- `quick::lead` meets its contract.
use native.Mathlib.Omega.{arith}
use lib.Ieee.{of_bits, round}
use Rattle.pairs.proofs.SpreadSums.{first_stands, stands_wider}
use Rattle.certificate.proofs.Wholes.{one}
use borrow.Author.Rules.{rules}
use Rattle.certificate.proofs.quick.lead.Statement.{statement}
use Rattle.certificate.proofs.quick.lead.Tie as tie

returns : tie.Need-returns
unfolding of_bits round
returns c = λ P. stands_wider 110 426 (omega arith) _ _ (first_stands 110 (omega arith) _ _
    (c.times_number.ensures 105 4 _ (omega arith) (c.product.ensures 4 100 (omega arith) one.number P) one.number
    one.not_negative))

pub lead_spec : {M : Type 1} → statement M
lead_spec = tie.close (tie.spec (λ c κs. search rules) (λ c κs. search rules) returns)
