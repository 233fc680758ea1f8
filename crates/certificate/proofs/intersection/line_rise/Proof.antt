-- `intersection::line_rise` meets its contract.
use borrow.Author.Rules.{rules}
use Rattle.certificate.proofs.intersection.line_rise.Statement.{statement}
use Rattle.certificate.proofs.intersection.line_rise.Tie as tie

returns : tie.Need-returns
returns c =
    rw (
      c.multiply.ensures,
      c.difference-3.ensures,
      c.divide-part.ensures,
      c.difference-2.ensures,
      c.difference.ensures,
    )

pub line_rise_spec : {M : Type 1} → statement M
line_rise_spec = tie.close (tie.spec (λ c κs. search rules) (λ c κs. search rules) (λ c κs. search rules) (λ c κs. search rules)
    (λ c κs. search rules) returns)
