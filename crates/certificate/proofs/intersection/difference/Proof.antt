-- `intersection::difference` meets its contract.
use borrow.Author.Rules.{rules}
use Rattle.certificate.proofs.intersection.difference.Statement.{statement}
use Rattle.certificate.proofs.intersection.difference.Tie as tie

pub difference_spec : {M : Type 1} → statement M
difference_spec =
    tie.close
    (tie.spec (λ c κs. search rules) (λ c κs. search rules) (λ c κs. search rules)
    (λ c. rw (c.subtract.ensures, c.finite_ends-2.ensures, c.finite_ends.ensures)))
