use Rattle.std.proofs.Common.{ap, ◌∙◌}
use Rattle.listing.specs.Output.{printed}
use Rattle.replay_requests.specs.Lines.{results_text, buffers_of}
use Rattle.replay_requests.proofs.Printing.{then_text}
use Rattle.replay_requests.proofs.lines.accepted.Goals as goal

pub returns : goal.returns
returns c =
    then_text _ _ _
    (c.results.ensures ∙ ap (λ u. printed c.report.new.out (results_text u (buffers_of c.args.lent))) c.used_of.ensures)
    c.report.ensures
