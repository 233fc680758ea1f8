-- `physical::scale_all` meets its contract.
use Rattle.selected_axes.proofs.Placed.{scale_memory}
use Rattle.selected_axes.proofs.physical.scale_all.Goals as goal

pub returns : goal.returns
returns c =
    let q = c.spline_of-s in
    let v = c.scale_controls in
    scale_memory c.args.p c.args.work.now c.requires q.result q.ensures v.new.work c.args.eps.now v.ensures
