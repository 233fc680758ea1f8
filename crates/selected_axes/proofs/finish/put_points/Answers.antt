-- `finish::put_points` meets its contract.
use mathlib.Core.Path.{ap, ◌∙◌}
use mathlib.Core.List.{List}
use Prim.Native.Nat.{◌+◌, ◌*◌}
use native.Mathlib.Omega.{arith}
use lib.Ieee.{Float}
use Rattle.window.proofs.Windows.{length_window}
use Rattle.refinement.specs.Memory.{memory_at}
use Rattle.selected_axes.specs.Physical.{with_points}
use Rattle.selected_axes.proofs.Placed.{points_numbers, points_written}
use Rattle.selected_axes.proofs.finish.put_points.Goals as goal

pub returns : goal.returns
returns c =
    let p = c.args.p in
    let w = c.args.work.now in
    let v = c.put_rows in
    let n = length_window p.room (p.room + p.samples * p.axes) w (omega arith) (points_numbers p w c.requires.0).1 in
    points_written p w c.requires.0 v.new.cells (omega (arith, n)) ∙ ap (λ (l : List Float). with_points l (memory_at p w)) v.ensures
