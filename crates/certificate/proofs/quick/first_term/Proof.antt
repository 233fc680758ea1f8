-- `quick::first_term` meets its contract.
use native.Mathlib.Omega.{arith}
use lib.Ieee.{of_bits, round}
use Rattle.pairs.proofs.SpreadSums.{first_stands}
use Rattle.certificate.proofs.Wholes.{one}
use borrow.Author.Rules.{rules}
use Rattle.certificate.proofs.quick.first_term.Statement.{statement}
use Rattle.certificate.proofs.quick.first_term.Tie as tie

returns : tie.Need-returns
unfolding of_bits round
returns c = λ e X. first_stands 760 (omega arith) _ _ (c.over_number.ensures 759 4 _ (omega arith) (c.times_number.ensures
    754 4 _
    (omega arith) X one.number one.not_negative) one.number one.from_one)

pub first_term_spec : {M : Type 1} → statement M
first_term_spec = tie.close (tie.spec (λ c κs. search rules) (λ c κs. search rules) returns)
