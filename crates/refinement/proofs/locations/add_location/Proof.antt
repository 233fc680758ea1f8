-- `locations::add_location` meets its contract.
use mathlib.Core.Path.{sym, ◌∙◌}
use borrow.Author.Rules.{rules}
use Rattle.refinement.proofs.Locating.{location_added, location_none}
use Rattle.refinement.proofs.locations.add_location.Statement.{statement}
use Rattle.refinement.proofs.locations.add_location.Tie as tie

returns : tie.Need-returns-then-is_selected
returns c =
    let a = c.args in
    let v = c.middle-x in
    location_added a.p a.work.now c.requires.0 a.i a.count c.requires.1 c.requires.2 v.result
    (sym c.if-is_selected.true ∙ c.is_selected.ensures) v.ensures

returns-2 : tie.Need-returns
returns-2 c =
    let a = c.args in
    location_none a.p a.work.now c.requires.0 a.i a.count c.requires.1 c.requires.2
    (sym c.if-is_selected.false ∙ c.is_selected.ensures)

pub add_location_spec : {M : Type 1} → statement M
add_location_spec =
    tie.close
    (tie.spec
    (λ c κs. search rules)
    (λ c κs. search rules)
    (λ c. search rules)
    (λ c. search rules)
    (λ c. search rules)
    (λ c. search rules)
    (λ c. search rules)
    (λ c. search rules)
    (λ c. search rules)
    (λ c. search rules)
    (λ c. search rules)
    returns
    (λ c. search rules)
    returns-2)
