use Rattle.std.proofs.Common.{sym, ◌∙◌}
use Rattle.query.specs.Query.{evaluate_of}
use Rattle.query.proofs.Answered.{malformed}
use Rattle.query.proofs.entry.evaluate.Goals as goal

pub returns-then-not-well_formed : goal.returns-then-not-well_formed
unfolding evaluate_of
returns-then-not-well_formed c = malformed _ _ _ _ _ _ (sym c.well_formed-2.ensures ∙ c.if-not-well_formed.true)
