use Rattle.std.proofs.Common.{min, ap, ◌∙◌, arith}
use Rattle.listing.specs.Output.{printed}
use Rattle.listing.proofs.Printing.{take_min}
use Rattle.replay_requests.specs.Lines.{wholes_text, report_text}
use Rattle.replay_requests.proofs.Printing.{then_text}
use Rattle.replay_requests.proofs.lines.report.Goals as goal

pub returns : goal.returns
unfolding report_text
returns c =
    let curve = c.args.curve in
    let count = take_min c.min.result curve.k curve.axes (c.min.ensures ∙ ap (min curve.k) (omega arith)) in
    let axes = c.wholes-2.ensures ∙ ap (λ t. printed c.wholes.new.out (wholes_text t)) count in
    then_text _ _ _ (then_text _ _ _ c.cells.ensures axes) c.wholes.ensures
