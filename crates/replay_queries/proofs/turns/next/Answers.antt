use Rattle.query.specs.Query.{evaluate_of}
use Rattle.replay_queries.proofs.Telling.{single_told}
use Rattle.replay_queries.proofs.turns.next.Goals as goal

pub returns-in-Ok : goal.returns-in-Ok
returns-in-Ok c =
    single_told (evaluate_of _ _ _ _) _ _ c.mark_all.ensures _ _ _ _ _ c.ask_from-found.ensures.answer c.number.ensures
    c.refusal.ensures c.cells.ensures

pub returns-in-Err : goal.returns-in-Err
returns-in-Err c =
    single_told (evaluate_of _ _ _ _) _ _ c.mark_all.ensures _ _ _ _ _ c.ask_from-found.ensures.answer c.number.ensures
    c.refusal.ensures c.cells.ensures
