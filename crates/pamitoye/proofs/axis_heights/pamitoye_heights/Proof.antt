-- `axis_heights::pamitoye_heights` meets its contract.
use borrow.Author.Rules.{rules}
use Rattle.pamitoye.proofs.axis_heights.pamitoye_heights.Statement.{statement}
use Rattle.pamitoye.proofs.axis_heights.pamitoye_heights.Tie as tie

returns : tie.Need-returns
returns c =
    let k = c.curve.ensures in
    let e = c.number.ensures in
    rw (← k, e) c.heights.ensures

pub pamitoye_heights_spec : {M : Type 1} → statement M
pamitoye_heights_spec =
    tie.close (tie.spec (λ c κs. search rules) (λ c κs. search rules) (λ c κs. search rules) (λ c. search rules) returns)
