use Rattle.std.proofs.Common.{ap, ◌∙◌}
use Rattle.listing.specs.Output.{printed, cells_text}
use Rattle.listing.proofs.Printing.{take_min}
use Rattle.listing.proofs.output.Output.first_cells.Goals as goal

pub returns : goal.returns
returns c =
    let a = c.args in
    c.cells.ensures ∙ ap (λ t. printed a.self.now (cells_text t)) (take_min c.min.result a.n a.list.now c.min.ensures)
