-- `intersection::line_at_left` meets its contract.
use borrow.Author.Rules.{rules}
use Rattle.certificate.proofs.intersection.line_at_left.Statement.{statement}
use Rattle.certificate.proofs.intersection.line_at_left.Tie as tie

returns : tie.Need-returns
returns c =
    rw (
      c.add.ensures,
      c.finite_ends.ensures,
      c.multiply-rise.ensures,
      c.difference-3.ensures,
      c.divide-part.ensures,
      c.difference-2.ensures,
      c.difference.ensures,
    )

pub line_at_left_spec : {M : Type 1} → statement M
line_at_left_spec =
    tie.close
    (tie.spec (λ c κs. search rules) (λ c κs. search rules) (λ c κs. search rules) (λ c κs. search rules) (λ c κs. search rules)
    (λ c κs. search rules)
    (λ c κs. search rules) returns)
