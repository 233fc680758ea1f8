use Rattle.std.proofs.Common.{rules, tests, ◌∙◌}
use Rattle.std.proofs.lemmas.Iterator.{YieldsList-from_slice}
use Rattle.std.proofs.lemmas.Iterator.Search.{all_from_yields_List}
use Rattle.replay_requests.specs.Lines.{is_plus_zero}
use Rattle.replay_requests.proofs.Testing.{each_there}
use Rattle.replay_requests.proofs.lines.is_zero.Goals as goal

pub returns-in-Some : goal.returns-in-Some
returns-in-Some c =
    let a = c.args in
    let cells = c.in-Some.cells.now in
    let there = c.in-Some.ensures.lookup.0 in
    all_from_yields_List is_plus_zero _ _ c.all.result c.all.ensures.ran (YieldsList-from_slice cells cc)
    (λ x b q k. search (rules, tests))
    ∙ each_there is_plus_zero a.buffer.now cells a.from a.to there.0 there.1 (search rules)
