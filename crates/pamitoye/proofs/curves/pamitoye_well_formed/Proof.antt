-- `curves::pamitoye_well_formed` meets its contract.
use borrow.Author.Rules.{rules}
use Rattle.pamitoye.proofs.curves.pamitoye_well_formed.Statement.{statement}
use Rattle.pamitoye.proofs.curves.pamitoye_well_formed.Tie as tie

returns : tie.Need-returns
returns c = rw (← c.curve.ensures) c.well_formed-2.ensures

pub pamitoye_well_formed_spec : {M : Type 1} → statement M
pamitoye_well_formed_spec = tie.close (tie.spec (λ c κs. search rules) (λ c κs. search rules) returns)
