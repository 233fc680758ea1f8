use Rattle.replay_requests.specs.Lines.{results_text}
use Rattle.replay_requests.proofs.Printing.{then_text}
use Rattle.replay_requests.proofs.lines.results.Goals as goal

pub returns : goal.returns
unfolding results_text
returns c =
    then_text _ _ _
    (then_text _ _ _
    (then_text _ _ _ (then_text _ _ _ c.part-5.ensures c.part-4.ensures) c.part-3.ensures)
    c.part-2.ensures)
    c.part.ensures
