use Rattle.replay_queries.proofs.Telling.{no_place, a_place}
use Rattle.replay_queries.proofs.calls.place.Goals as goal

pub returns-then-number-eq22 : goal.returns-then-number-eq22
returns-then-number-eq22 c = a_place _ _ _ c.if-number-eq22.true c.whole.ensures

pub returns-else-number-eq22 : goal.returns-else-number-eq22
returns-else-number-eq22 c = no_place _ _ _ c.if-number-eq22.false
