-- `segment::coefficients` meets its contract: by cases on the set.
use borrow.Author.Tests.{lt-ltb, le-ltb}
use borrow.Author.Rules.{rules}
use Rattle.query.specs.Segment.{coefficients_of}
use Rattle.query.proofs.segment.coefficients.Statement.{statement}
use Rattle.query.proofs.segment.coefficients.Tie as tie

returns : tie.Need-returns-then-place-k
unfolding coefficients_of
returns c = rw (lt-ltb _ _ c.if-place-k.true)

returns-2 : tie.Need-returns
unfolding coefficients_of
returns-2 c = rw (le-ltb _ _ c.if-place-k.false)

pub coefficients_spec : {M : Type 1} → statement M
coefficients_spec =
    tie.close
    (tie.spec
    (λ c. search rules)
    (λ c. search rules)
    (λ c. search rules)
    (λ c. search rules)
    (λ c. search rules)
    (λ c. search rules)
    (λ c. search rules)
    (λ c. search rules)
    returns
    (λ c. search rules)
    (λ c. search rules)
    (λ c. search rules)
    (λ c. search rules)
    (λ c. search rules)
    (λ c. search rules)
    (λ c. search rules)
    (λ c. search rules)
    returns-2)
