use Rattle.replay_queries.proofs.Telling.{four_slices}
use Rattle.replay_queries.proofs.calls.cells.Goals as goal

pub returns : goal.returns
returns c = four_slices _ _ _ _ _ _ _ _ c.cells.ensures c.cells-2.ensures c.cells-3.ensures c.cells-4.ensures
