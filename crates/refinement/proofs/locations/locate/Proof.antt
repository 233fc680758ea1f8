-- `locations::locate` meets its contract.
use borrow.Author.Rules.{rules}
use Rattle.refinement.proofs.Locating.{located}
use Rattle.refinement.proofs.locations.locate.Statement.{statement}
use Rattle.refinement.proofs.locations.locate.Tie as tie

returns : tie.Need-returns
returns c =
    let a = c.args in
    let u = c.collect-count in
    let v = c.settle in
    located a.p u.result v.result a.work.now u.new.work v.new.work u.ensures.0 u.ensures.1.0 v.ensures.0
    v.ensures.1.0 v.ensures.1.1

pub locate_spec : {M : Type 1} → statement M
locate_spec = tie.close (tie.spec (λ c κs. search rules) (λ c κs. search rules) (λ c. search rules) returns)
