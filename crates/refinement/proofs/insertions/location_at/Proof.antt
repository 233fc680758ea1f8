-- `insertions::location_at` meets its contract.
use borrow.Author.Rules.{rules}
use Rattle.refinement.proofs.Inserting.{location_is}
use Rattle.refinement.proofs.insertions.location_at.Statement.{statement}
use Rattle.refinement.proofs.insertions.location_at.Tie as tie

returns : tie.Need-returns
returns c =
    location_is c.args.p c.args.work.now c.args.i c.requires.1

pub location_at_spec : {M : Type 1} → statement M
location_at_spec =
    tie.close
    (tie.spec
    (λ c. search rules)
    (λ c. search rules)
    (λ c. search rules)
    (λ c. search rules)
    (λ c. search rules)
    (λ c. search rules)
    (λ c. search rules)
    returns)
