-- `intersection::offset` meets its contract.
use borrow.Author.Rules.{rules}
use Rattle.certificate.proofs.intersection.offset.Statement.{statement}
use Rattle.certificate.proofs.intersection.offset.Tie as tie

pub offset_spec : {M : Type 1} → statement M
offset_spec =
    tie.close
    (tie.spec (λ c κs. search rules) (λ c κs. search rules) (λ c κs. search rules)
    (λ c. rw (c.divide.ensures, c.difference-2.ensures, c.difference.ensures)))
