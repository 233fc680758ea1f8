use Rattle.query.specs.Query.{evaluate_of}
use Rattle.replay_queries.proofs.Telling.{single_told}
use Rattle.replay_queries.proofs.calls.single.Goals as goal

pub returns : goal.returns
returns c =
    single_told (evaluate_of _ _ _ _) _ _ c.mark_all.ensures _ _ _ _ _ c.evaluate-answer.ensures c.number.ensures
    c.refusal.ensures c.cells.ensures
