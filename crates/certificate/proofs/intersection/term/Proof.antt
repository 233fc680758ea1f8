-- `intersection::term` meets its contract.
use borrow.Author.Rules.{rules}
use Rattle.certificate.proofs.intersection.term.Statement.{statement}
use Rattle.certificate.proofs.intersection.term.Tie as tie

returns : tie.Need-returns
returns c = rw (c.multiply.ensures, c.product.ensures)

pub term_spec : {M : Type 1} → statement M
term_spec = tie.close (tie.spec (λ c κs. search rules) (λ c κs. search rules) returns)
