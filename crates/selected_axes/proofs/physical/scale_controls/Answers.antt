-- `physical::scale_controls` meets its contract.
use mathlib.Core.Path.{◌≡◌, sym, ap, ◌∙◌}
use mathlib.Core.List.{List}
use Prim.Native.Nat.{ℕ, ◌+◌, ◌*◌, ◌<◌}
use native.Mathlib.Omega.{arith}
use lib.ListN.{length}
use lib.Ieee.{Float, nan}
use Rattle.window.specs.Cells.{at}
use Rattle.window.specs.Rows.{table, written}
use Rattle.window.proofs.Joined.{table_length}
use Rattle.window.proofs.Written.{written_none}
use Rattle.selected_axes.specs.Physical.{scaled}
use Rattle.selected_axes.proofs.Tables.{before_written, behind_written, table_none, row_within, row_next}
use Rattle.selected_axes.proofs.physical.scale_controls.Invariants.{cell}
use Rattle.selected_axes.proofs.physical.scale_controls.Goals as goal

pub loop-i-init : goal.loop-i-init
loop-i-init c =
    let a = c.args in
    let w = a.work.now in
    sym (written_none a.to w) ∙ ap (λ (l : List Float). written a.to l w) (sym (table_none a.d (cell w a.to a.d a.first a.eps.now)))

pub loop-i-preserved : goal.loop-i-preserved
loop-i-preserved c =
    let a = c.args in
    let l = c.loop-i in
    let w = a.work.now in
    let eps = a.eps.now in
    let F = cell w a.to a.d a.first eps in
    let v = table l.i a.d F in
    let n = table_length l.i a.d F in
    let k = row_within l.i a.m a.d a.to (length w) (omega arith) c.requires.2 in
    let here : (j : ℕ) → j < a.d → at l.work (a.to + l.i * a.d + j) ≡ at w (a.to + l.i * a.d + j) =
    λ j h. ap (λ (z : List Float). at z (a.to + l.i * a.d + j)) l.invariant
    ∙ behind_written a.to v w nan (a.to + l.i * a.d + j) (omega arith) (omega arith) in
    let there : (j : ℕ) → j < a.d → at l.work (a.first + j) ≡ at w (a.first + j) =
    λ j h. ap (λ (z : List Float). at z (a.first + j)) l.invariant
    ∙ before_written a.to v w nan (a.first + j) (omega arith) (omega arith) in
    row_next a.to a.d l.i F (λ j. scaled (at l.work (a.to + l.i * a.d + j)) (at eps j) (at l.work (a.first + j)))
    l.work c.scale_control.new.work w (omega arith) l.invariant c.scale_control.ensures
    (λ j h. ap (λ (z : Float). scaled z (at eps j) (at l.work (a.first + j))) (here j h)
    ∙ ap (λ (z : Float). scaled (at w (a.to + l.i * a.d + j)) (at eps j) z) (there j h))
