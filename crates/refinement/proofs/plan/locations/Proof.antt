-- `plan::locations` meets its contract.
use borrow.Author.Rules.{rules}
use Rattle.refinement.proofs.Memories.{locations_read}
use Rattle.refinement.proofs.plan.locations.Statement.{statement}
use Rattle.refinement.proofs.plan.locations.Tie as tie

returns : tie.Need-returns
returns c =
    locations_read c.args.p c.args.work.now c.args.count c.requires.1

pub locations_spec : {M : Type 1} → statement M
locations_spec =
    tie.close
    (tie.spec
    (λ c. search rules)
    (λ c. search rules)
    (λ c. search rules)
    (λ c. search rules)
    (λ c. search rules)
    (λ c. search rules)
    (λ c. search rules)
    (λ c. search rules)
    (λ c. search rules)
    returns)
