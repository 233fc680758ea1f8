-- `intersection::scale` meets its contract.
use borrow.Author.Rules.{rules}
use Rattle.certificate.proofs.intersection.scale.Statement.{statement}
use Rattle.certificate.proofs.intersection.scale.Tie as tie

pub scale_spec : {M : Type 1} → statement M
scale_spec =
    tie.close
    (tie.spec (λ c κs. search rules) (λ c κs. search rules) (λ c κs. search rules)
    (λ c. rw (c.divide.ensures, c.difference-2.ensures, c.difference.ensures)))
