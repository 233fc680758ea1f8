-- `neighbours::next_down` meets its contract.
use Rattle.pairs.proofs.BitSteps.{above_infinity, not_above}
use Rattle.pairs.proofs.neighbours.next_down.Statement.{statement}
use Rattle.pairs.proofs.neighbours.next_down.Tie as tie

pub next_down_spec : {M : Type 1} → statement M
next_down_spec =
    tie.close
    (tie.spec (λ c κs. above_infinity c.args.x c.if-x.true) (λ c. c.step_down.ensures)
    (λ c. not_above c.args.x c.if-x.false))
