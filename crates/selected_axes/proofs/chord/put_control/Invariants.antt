-- The first a cells of the row are written.
use mathlib.Core.Path.{◌≡◌}
use Prim.Native.Nat.{ℕ, ◌+◌}
use mathlib.Core.List.{List}
use lib.Ieee.{Float, binary64, mul}
use Rattle.window.specs.Cells.{at}
use Rattle.window.specs.Rows.{list_of, written}
use Rattle.selected_axes.proofs.chord.put_control.Given as goal

abbrev pub cell : List Float → ℕ → Float → ℕ → Float
cell w last u a = mul binary64 u (at w (last + a))

abbrev pub invariant-loop-a : goal.invariant-loop-a
invariant-loop-a l = l.work ≡ written l.to (list_of l.a (cell l.fn.work l.last l.u)) l.fn.work
