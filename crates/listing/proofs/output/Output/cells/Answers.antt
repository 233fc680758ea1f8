use Rattle.std.proofs.Common.{length, get_or, ap, ◌∙◌, arith}
use lib.Ieee.{nan}
use lib.Seq.{take-length}
use Rattle.listing.specs.Output.{printed, cell_text, cells_text}
use Rattle.listing.proofs.Printing.{cells_none, cells_next, same_take}
use Rattle.listing.proofs.output.Output.cells.Goals as goal

pub loop-x-init : goal.loop-x-init
loop-x-init c = cells_none _

pub loop-x-preserved : goal.loop-x-preserved
loop-x-preserved c =
    let l = c.loop-x in
    let a = c.args in
    c.cell.ensures
    ∙ ap (λ g. printed g (cell_text (get_or a.list.now l.x-index nan))) l.invariant
    ∙ cells_next a.self.now a.list.now l.x-index (omega arith)

pub returns : goal.returns
returns c =
    let l = c.loop-x in
    let a = c.args in
    l.invariant
    ∙ ap
    (λ t. printed a.self.now (cells_text t))
    (same_take (length a.list.now) l.x-index a.list.now (omega arith) (omega arith) ∙ take-length a.list.now)
