-- `quick::with_term` meets its contract.
use native.Mathlib.Omega.{arith}
use Rattle.pairs.proofs.SpreadSums.{stands_wider}
use borrow.Author.Rules.{rules}
use Rattle.certificate.proofs.quick.with_term.Statement.{statement}
use Rattle.certificate.proofs.quick.with_term.Tie as tie

returns : tie.Need-returns
returns c = λ a e g l h B Q C p D o. c.add.ensures a _ _ (omega arith) B (stands_wider 760 a l _ _ (c.over_number.ensures 759
    4 _ (omega arith)
    (c.times_number.ensures 754 4 _ (omega arith) Q C p) D o))

pub with_term_spec : {M : Type 1} → statement M
with_term_spec = tie.close (tie.spec (λ c κs. search rules) (λ c κs. search rules) (λ c κs. search rules) returns)
