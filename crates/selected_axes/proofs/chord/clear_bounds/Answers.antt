-- `chord::clear_bounds` meets its contract.
use Rattle.selected_axes.proofs.Placed.{cleared}
use Rattle.selected_axes.proofs.chord.clear_bounds.Goals as goal

pub returns : goal.returns
returns c =
    let k = c.block_of-b in
    let u = c.clear in
    let v = c.clear-2 in
    cleared c.args.p c.args.work.now c.requires u.new.s v.new.s k.result k.ensures.0 u.ensures v.ensures
