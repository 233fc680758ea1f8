use Rattle.replay_queries.proofs.Telling.{no_refusal, a_refusal}
use Rattle.replay_queries.proofs.calls.refusal.Goals as goal

pub returns-then-number-ne0 : goal.returns-then-number-ne0
returns-then-number-ne0 c = a_refusal _ _ _ c.if-number-ne0.true c.whole.ensures c.text.ensures

pub returns-else-number-ne0 : goal.returns-else-number-ne0
returns-else-number-ne0 c = no_refusal _ _ c.if-number-ne0.false
