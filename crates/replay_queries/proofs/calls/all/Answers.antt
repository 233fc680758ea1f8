use Rattle.query.specs.Query.{evaluate_all_of}
use Rattle.replay_queries.proofs.Telling.{all_told}
use Rattle.replay_queries.proofs.calls.all.Goals as goal

pub returns : goal.returns
returns c =
    all_told (evaluate_all_of _ _ _ _) _ _ c.mark_all.ensures _ _ _ _ _ c.evaluate_all-answers.ensures _
    c.number.ensures c.number-2.ensures c.refused_at.ensures
    c.refusal.ensures c.place.ensures c.cells.ensures
