-- `physical::scale_control` meets its contract.
use mathlib.Core.Path.{◌≡◌, sym, ap, ◌∙◌}
use mathlib.Core.List.{List}
use Prim.Native.Nat.{◌+◌}
use native.Mathlib.Omega.{arith}
use lib.Ieee.{Float, nan}
use Rattle.window.specs.Cells.{at}
use Rattle.window.specs.Rows.{list_of, written}
use Rattle.window.proofs.Joined.{list_length}
use Rattle.window.proofs.Written.{written_none}
use Rattle.selected_axes.specs.Physical.{scaled}
use Rattle.selected_axes.proofs.Tables.{before_written, behind_written, list_none, cell_next}
use Rattle.selected_axes.proofs.physical.scale_control.Invariants.{cell}
use Rattle.selected_axes.proofs.physical.scale_control.Goals as goal

pub loop-a-init : goal.loop-a-init
loop-a-init c =
    let a = c.args in
    let w = a.work.now in
    sym (written_none a.to w) ∙ ap (λ (l : List Float). written a.to l w) (sym (list_none (cell w a.to a.first a.eps.now)))

pub loop-a-preserved : goal.loop-a-preserved
loop-a-preserved c =
    let a = c.args in
    let l = c.loop-a in
    let w = a.work.now in
    let f = cell w a.to a.first a.eps.now in
    let v = list_of l.a f in
    let n = list_length l.a f in
    let here : at l.work (a.to + l.a) ≡ at w (a.to + l.a) = ap (λ (k : List Float). at k (a.to + l.a)) l.invariant
    ∙ behind_written a.to v w nan (a.to + l.a) (omega arith) (omega arith) in
    let there : at l.work (a.first + l.a) ≡ at w (a.first + l.a) = ap (λ (k : List Float). at k (a.first + l.a)) l.invariant
    ∙ before_written a.to v w nan (a.first + l.a) (omega arith) (omega arith) in
    let e = at a.eps.now l.a in
    cell_next a.to l.a f l.work w (scaled (at l.work (a.to + l.a)) e (at l.work (a.first + l.a))) (omega arith) l.invariant
    (ap (λ (x : Float). scaled x e (at l.work (a.first + l.a))) here ∙ ap (λ (x : Float). scaled (at w (a.to + l.a)) e x) there)
