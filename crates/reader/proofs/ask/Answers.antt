use Rattle.std.proofs.Common.{◌≡◌, sym, ◌∙◌}
use Rattle.query.specs.Query.{evaluate_of}
use Rattle.query.proofs.Answered.{malformed}
use Rattle.reader.proofs.ask.Goals as goal

pub returns-then-not-reader-clause-answer : goal.returns-then-not-reader-clause-answer
unfolding evaluate_of
returns-then-not-reader-clause-answer c = malformed _ _ _ _ _ _ (sym c.requires ∙ c.if-not-reader.true)
