-- `returns::pamitoye_return_lane` meets its contract.
use mathlib.Core.Path.{sym, ap, ◌∙◌}
use borrow.Author.Rules.{rules}
use Rattle.return_lane.specs.Return.{Outcome}
use Rattle.pamitoye.proofs.returns.pamitoye_return_lane.Statement.{statement}
use Rattle.pamitoye.proofs.returns.pamitoye_return_lane.Tie as tie

returns : tie.Need-returns
returns c =
    let k = c.curve.ensures in
    let e = c.return_lane.ensures.0 in
    rw (← k) (
      c.number.ensures ∙ ap (λ (o : Outcome). o.number) e,
      (ap (λ (o : Outcome). o.after) e, λ z. c.return_lane.ensures.1 (sym c.number.ensures ∙ z)),
    )

pub pamitoye_return_lane_spec : {M : Type 1} → statement M
pamitoye_return_lane_spec =
    tie.close
    (tie.spec
    (λ c κs. search rules)
    (λ c κs. search rules)
    (λ c κs. search rules)
    (λ c. search rules)
    (λ c. search rules)
    (λ c. search rules)
    (λ c. search rules)
    returns)
