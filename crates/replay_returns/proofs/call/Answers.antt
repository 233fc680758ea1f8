use Rattle.return_lane.specs.Return.{return_of}
use Rattle.replay_returns.proofs.Returning.{returned_told}
use Rattle.replay_returns.proofs.call.Goals as goal

pub returns : goal.returns
returns c =
    returned_told (return_of _ _) _ _ c.mark_all.ensures _ _ _ _ c.return_lane-answer.ensures.lent_other_coefficients_after c.number.ensures
    c.refusal.ensures c.cells.ensures
