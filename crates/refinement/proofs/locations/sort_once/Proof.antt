-- `locations::sort_once` meets its contract.
use borrow.Author.Rules.{rules}
use Rattle.refinement.proofs.locations.sort_once.Statement.{statement}
use Rattle.refinement.proofs.locations.sort_once.Tie as tie

returns : tie.Need-returns
returns c = rw c.sort.ensures at c.dedup.ensures

pub sort_once_spec : {M : Type 1} → statement M
sort_once_spec = tie.close (tie.spec (λ c κs. search rules) (λ c κs. search rules) (λ c. search rules) returns)
