-- `chord::put_chord` meets its contract.
use Rattle.selected_axes.proofs.Placed.{chord_memory}
use Rattle.selected_axes.proofs.chord.put_chord.Goals as goal

pub returns : goal.returns
returns c =
    let q = c.spline_of-s in
    let v = c.put_controls in
    chord_memory c.args.p c.args.work.now c.requires q.result q.ensures v.new.work v.ensures
