-- `segment::at` meets its contract.
use borrow.Author.Rules.{rules}
use Rattle.query.specs.Segment.{at_of}
use Rattle.query.proofs.segment.at.Statement.{statement}
use Rattle.query.proofs.segment.at.Tie as tie

returns : tie.Need-returns
unfolding at_of
returns c = rw (
  c.powi-4.ensures,
  c.horner-4.ensures,
  c.powi-3.ensures,
  c.horner-3.ensures,
  c.powi-2.ensures,
  c.horner-2.ensures,
  c.powi.ensures,
  c.horner.ensures,
)

pub at_spec : {M : Type 1} → statement M
at_spec =
    tie.close
    (tie.spec
    (λ c κs. search rules)
    (λ c κs. search rules)
    (λ c κs. search rules)
    (λ c κs. search rules)
    (λ c κs. search rules)
    (λ c κs. search rules)
    (λ c κs. search rules)
    (λ c κs. search rules)
    returns)
