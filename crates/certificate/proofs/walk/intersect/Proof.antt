-- `walk::intersect` meets its contract.
use borrow.Author.Rules.{rules}
use Rattle.certificate.proofs.walk.intersect.Statement.{statement}
use Rattle.certificate.proofs.walk.intersect.Tie as tie

returns : tie.Need-returns
returns c = rw (
  c.lower.ensures,
  c.higher.ensures,
  c.six.ensures,
)

pub intersect_spec : {M : Type 1} → statement M
intersect_spec =
    tie.close
    (tie.spec (λ c. search rules) (λ c. search rules) (λ c. search rules) (λ c. search rules) (λ c. search rules) (λ c. search rules)
    (λ c. search rules) (λ c. search rules) (λ c κs. search rules) (λ c. search rules) (λ c. search rules) (λ c κs. search rules)
    (λ c. search rules) (λ c. search rules) (λ c. search rules) (λ c κs. search rules) (λ c. search rules) (λ c. search rules)
    (λ c. search rules) (λ c. search rules) (λ c. search rules) (λ c. search rules) (λ c. search rules) (λ c. search rules)
    (λ c. search rules) returns)
