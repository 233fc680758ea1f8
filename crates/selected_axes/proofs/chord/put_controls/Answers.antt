-- `chord::put_controls` meets its contract.
use mathlib.Core.Path.{◌≡◌, sym, ap, ◌∙◌}
use mathlib.Core.List.{List}
use Prim.Native.Nat.{ℕ, ◌+◌, ◌*◌, ◌<◌}
use native.Mathlib.Omega.{arith}
use lib.ListN.{length}
use lib.Ieee.{Float, nan, binary64, mul}
use Rattle.window.specs.Cells.{at}
use Rattle.window.specs.Window.{window}
use Rattle.window.proofs.Windows.{window_before}
use Rattle.window.specs.Rows.{table, written}
use Rattle.window.proofs.Joined.{table_length}
use Rattle.window.proofs.Written.{written_none, written_length}
use Rattle.smoothing.specs.Start.{greville_of}
use Rattle.selected_axes.proofs.Tables.{before_written, table_none, row_within, row_next}
use Rattle.selected_axes.proofs.chord.put_controls.Invariants.{cell}
use Rattle.selected_axes.proofs.chord.put_controls.Goals as goal

pub loop-i-init : goal.loop-i-init
loop-i-init c =
    let a = c.args in
    let w = a.work.now in
    sym (written_none a.to w) ∙ ap (λ (l : List Float). written a.to l w) (sym (table_none a.d (cell w a.t a.m a.last)))

pub loop-i-preserved : goal.loop-i-preserved
loop-i-preserved c =
    let a = c.args in
    let l = c.loop-i in
    let w = a.work.now in
    let F = cell w a.t a.m a.last in
    let v = table l.i a.d F in
    let n = table_length l.i a.d F in
    let k = row_within l.i a.m a.d a.to (length w) (omega arith) c.requires.2 in
    let u = c.greville-u in
    let knots : window a.t (a.t + (a.m + 6)) l.work ≡ window a.t (a.t + (a.m + 6)) w =
    ap (λ (z : List Float). window a.t (a.t + (a.m + 6)) z) l.invariant
    ∙ window_before a.to (a.to + length v) v w a.t (a.t + (a.m + 6)) (omega arith) (omega arith) (omega arith) in
    let value : u.result ≡ greville_of (window a.t (a.t + (a.m + 6)) w) l.i = u.ensures
    ∙ ap (λ (z : List Float). greville_of z l.i) knots in
    let read : (j : ℕ) → j < a.d → at l.work (a.last + j) ≡ at w (a.last + j) =
    λ j h. ap (λ (z : List Float). at z (a.last + j)) l.invariant
    ∙ before_written a.to v w nan (a.last + j) (omega arith) (omega arith) in
    row_next a.to a.d l.i F (λ j. mul binary64 u.result (at l.work (a.last + j))) l.work
    c.put_control.new.work w (omega arith) l.invariant c.put_control.ensures
    (λ j h. ap (λ (z : Float). mul binary64 z (at l.work (a.last + j))) value
    ∙ ap (mul binary64 (greville_of (window a.t (a.t + (a.m + 6)) w) l.i)) (read j h))

pub shape_of-work : goal.shape_of-work
shape_of-work c =
    let a = c.args in
    let l = c.loop-i in
    let F = cell a.work.now a.t a.m a.last in
    let n = table_length l.i a.d F in
    let e : l.i ≡ a.m = omega arith in
    let q : l.i * a.d ≡ a.m * a.d = ap (λ (k : ℕ). k * a.d) e in
    ap length l.invariant ∙ written_length a.to (table l.i a.d F) a.work.now (omega arith)
