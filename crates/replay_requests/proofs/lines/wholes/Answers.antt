use Rattle.std.proofs.Common.{length, get_or, ap, ◌∙◌, arith}
use lib.Seq.{take-length}
use Rattle.listing.specs.Output.{printed, whole_text}
use Rattle.listing.proofs.Printing.{same_take}
use Rattle.replay_requests.specs.Lines.{wholes_text}
use Rattle.replay_requests.proofs.Printing.{wholes_none, wholes_next}
use Rattle.replay_requests.proofs.lines.wholes.Goals as goal

pub loop-n-init : goal.loop-n-init
loop-n-init c = wholes_none _

pub loop-n-preserved : goal.loop-n-preserved
loop-n-preserved c =
    let l = c.loop-n in
    let a = c.args in
    c.whole.ensures
    ∙ ap (λ g. printed g (whole_text (get_or a.list.now l.n-index 0))) l.invariant
    ∙ wholes_next a.out.now a.list.now l.n-index (omega arith)

pub returns : goal.returns
returns c =
    let l = c.loop-n in
    let a = c.args in
    l.invariant
    ∙ ap
    (λ t. printed a.out.now (wholes_text t))
    (same_take (length a.list.now) l.n-index a.list.now (omega arith) (omega arith) ∙ take-length a.list.now)
