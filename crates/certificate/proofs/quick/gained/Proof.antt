-- `quick::gained` meets its contract.
use native.Mathlib.Omega.{arith}
use Rattle.pairs.proofs.SpreadSums.{stands_wider}
use borrow.Author.Rules.{rules}
use Rattle.certificate.proofs.quick.gained.Statement.{statement}
use Rattle.certificate.proofs.quick.gained.Tie as tie

returns : tie.Need-returns
returns c = λ a e g l h X C P U. c.add.ensures a _ _ (omega arith) X (stands_wider 426 a l _ _ (c.times.ensures 105 320 _ _
    (omega arith)
    (c.product.ensures 4 100 (omega arith) C P) U))

pub gained_spec : {M : Type 1} → statement M
gained_spec = tie.close (tie.spec (λ c κs. search rules) (λ c κs. search rules) (λ c κs. search rules) returns)
