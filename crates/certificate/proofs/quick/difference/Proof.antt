-- `quick::difference` meets its contract.
use borrow.Author.Rules.{rules}
use Rattle.certificate.proofs.quick.difference.Statement.{statement}
use Rattle.certificate.proofs.quick.difference.Tie as tie

returns : tie.Need-returns
returns c = λ k l A B. c.subtract.ensures k _ _ l (c.single.ensures k A) (c.single-2.ensures k B)

pub difference_spec : {M : Type 1} → statement M
difference_spec = tie.close (tie.spec (λ c κs. search rules) (λ c κs. search rules) (λ c κs. search rules) returns)
