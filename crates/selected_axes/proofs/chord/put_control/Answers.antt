-- `chord::put_control` meets its contract.
use mathlib.Core.Path.{◌≡◌, sym, ap, ◌∙◌}
use mathlib.Core.List.{List}
use Prim.Native.Nat.{◌+◌}
use native.Mathlib.Omega.{arith}
use lib.Ieee.{Float, nan, binary64, mul}
use Rattle.window.specs.Cells.{at}
use Rattle.window.specs.Rows.{list_of, written}
use Rattle.window.proofs.Written.{written_none}
use Rattle.selected_axes.proofs.Tables.{before_written, list_none, cell_next}
use Rattle.selected_axes.proofs.chord.put_control.Invariants.{cell}
use Rattle.selected_axes.proofs.chord.put_control.Goals as goal

pub loop-a-init : goal.loop-a-init
loop-a-init c =
    let a = c.args in
    sym (written_none a.to a.work.now)
    ∙ ap (λ (l : List Float). written a.to l a.work.now) (sym (list_none (cell a.work.now a.last a.u)))

pub loop-a-preserved : goal.loop-a-preserved
loop-a-preserved c =
    let a = c.args in
    let l = c.loop-a in
    let w = a.work.now in
    let f = cell w a.last a.u in
    let read : at l.work (a.last + l.a) ≡ at w (a.last + l.a) =
    ap (λ (k : List Float). at k (a.last + l.a)) l.invariant
    ∙ before_written a.to (list_of l.a f) w nan (a.last + l.a) (omega arith) (omega arith) in
    cell_next a.to l.a f l.work w (mul binary64 a.u (at l.work (a.last + l.a))) (omega arith) l.invariant
    (ap (mul binary64 a.u) read)
