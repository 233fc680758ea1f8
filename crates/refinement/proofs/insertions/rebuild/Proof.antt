-- `insertions::rebuild` meets its contract.
use borrow.Author.Rules.{rules}
use Rattle.refinement.proofs.Inserting.{polynomial_asks, polynomial_memory}
use Rattle.refinement.proofs.insertions.rebuild.Statement.{statement}
use Rattle.refinement.proofs.insertions.rebuild.Tie as tie

polynomial-requires : tie.Need-polynomial-requires
polynomial-requires c κs =
    let q = c.spline_of-s in
    polynomial_asks c.args.p c.args.work.now c.requires.0 c.requires.1 q.result q.ensures

returns : tie.Need-returns
returns c =
    let q = c.spline_of-s in
    let v = c.polynomial in
    polynomial_memory c.args.p c.args.work.now c.requires.0 c.requires.1 q.result q.ensures v.new.work v.ensures.1

pub rebuild_spec : {M : Type 1} → statement M
rebuild_spec =
    tie.close
    (tie.spec
    (λ c κs. search rules)
    (λ c. search rules)
    (λ c. search rules)
    (λ c. search rules)
    (λ c. search rules)
    (λ c. search rules)
    (λ c. search rules)
    (λ c. search rules)
    polynomial-requires
    (λ c. search rules)
    returns)
