-- `solution::put_polynomial` meets its contract.
use borrow.Author.Rules.{rules}
use Rattle.interpolation.proofs.Outcome.{polynomial_asks, polynomial_put, few_segments}
use Rattle.interpolation.proofs.solution.put_polynomial.Statement.{statement}
use Rattle.interpolation.proofs.solution.put_polynomial.Tie as tie

polynomial-requires : tie.Need-polynomial-requires
polynomial-requires c κs =
    polynomial_asks c.args.p c.args.work.now c.requires

returns : tie.Need-returns
returns c =
    let v = c.polynomial in (
      polynomial_put c.args.p c.args.work.now c.requires v.result v.new.work v.ensures.0 v.ensures.1,
      few_segments c.args.p c.args.work.now c.requires v.result v.new.work v.ensures.0 v.ensures.1,
    )

pub put_polynomial_spec : {M : Type 1} → statement M
put_polynomial_spec =
    tie.close
    (tie.spec
    (λ c. search rules)
    (λ c. search rules)
    (λ c. search rules)
    (λ c. search rules)
    (λ c. search rules)
    (λ c. search rules)
    (λ c. search rules)
    (λ c. search rules)
    (λ c. search rules)
    (λ c. search rules)
    (λ c. search rules)
    (λ c. search rules)
    (λ c. search rules)
    polynomial-requires
    (λ c. search rules)
    returns)
