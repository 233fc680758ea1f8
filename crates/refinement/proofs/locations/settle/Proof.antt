-- `locations::settle` meets its contract.
use borrow.Author.Rules.{rules}
use Rattle.refinement.proofs.Locating.{settled_all}
use Rattle.refinement.proofs.locations.settle.Statement.{statement}
use Rattle.refinement.proofs.locations.settle.Tie as tie

returns : tie.Need-returns
returns c =
    let a = c.args in
    let v = c.sort_once in
    settled_all a.p a.work.now c.requires.0 a.count c.requires.1 v.new.cells v.result v.ensures.0 v.ensures.1

pub settle_spec : {M : Type 1} → statement M
settle_spec =
    tie.close
    (tie.spec
    (λ c. search rules)
    (λ c. search rules)
    (λ c. search rules)
    (λ c. search rules)
    (λ c. search rules)
    (λ c. search rules)
    (λ c. search rules)
    (λ c. search rules)
    (λ c. search rules)
    (λ c κs. search rules)
    (λ c. search rules)
    returns)
