-- `quick::lengths_of` meets its contract.
use native.Mathlib.Omega.{arith}
use borrow.Author.Rules.{rules}
use Rattle.certificate.proofs.quick.lengths_of.Statement.{statement}
use Rattle.certificate.proofs.quick.lengths_of.Tie as tie

returns : tie.Need-returns
returns c = λ N. (
  c.difference-segment.ensures 1 (omega arith) N.end N.start,
  c.difference-interval.ensures 1 (omega arith) N.to N.from,
  c.difference-before.ensures 1 (omega arith) N.left N.start,
  c.difference-part.ensures 1 (omega arith) N.right N.left,
  c.difference-since.ensures 1 (omega arith) N.left N.from,
)

pub lengths_of_spec : {M : Type 1} → statement M
lengths_of_spec = tie.close (tie.spec (λ c κs. search rules) (λ c κs. search rules) (λ c κs. search rules) (λ c κs. search rules) (λ c
    κs. search rules) returns)
