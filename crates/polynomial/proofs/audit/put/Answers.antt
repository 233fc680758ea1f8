-- The witnesses lie after the bounds, so that they are as they were when the bounds are written.
use Rattle.std.proofs.Common.{arith, ap, length, ◌≡◌, ◌+◌, ◌-◌, ◌*◌, ◌∙◌}
use Rattle.window.specs.Window.{window}
use Rattle.window.proofs.Windows.{length_window, window_after}
use Rattle.polynomial.proofs.Placed.{bounds_length}
use Rattle.polynomial.proofs.audit.put.Goals as goal

pub returns : goal.returns
returns c =
    let a = c.args in
    let p = a.p in
    let w = a.work.now in
    let e = p.bounds + (p.samples - 1) * p.axes in
    let x = c.put_bounds.new.bounds in
    let k = length_window p.bounds e w (omega arith) (omega arith) in
    let n : length x ≡ (p.samples - 1) * p.axes =
    ap length c.put_bounds.ensures ∙ bounds_length (a.i * p.axes) p.axes a.cells.now (window p.bounds e w) ∙ omega arith in
    let after = window_after p.bounds e x w p.witness (p.witness + (p.samples - 1)) (omega arith) (omega arith) (omega arith) (omega arith) in
    rw (after, c.put_bounds.ensures)
