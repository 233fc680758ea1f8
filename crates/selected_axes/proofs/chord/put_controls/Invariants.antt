-- The first i controls are written.
use mathlib.Core.Path.{◌≡◌}
use Prim.Native.Nat.{ℕ, ◌+◌}
use mathlib.Core.List.{List}
use lib.Ieee.{Float, binary64, mul}
use Rattle.window.specs.Cells.{at}
use Rattle.window.specs.Window.{window}
use Rattle.window.specs.Rows.{table, written}
use Rattle.smoothing.specs.Start.{greville_of}
use Rattle.selected_axes.proofs.chord.put_controls.Given as goal

abbrev pub cell : List Float → ℕ → ℕ → ℕ → ℕ → ℕ → Float
cell w t m last i a = mul binary64 (greville_of (window t (t + (m + 6)) w) i) (at w (last + a))

abbrev pub invariant-loop-i : goal.invariant-loop-i
invariant-loop-i l = l.work ≡ written l.to (table l.i l.d (cell l.fn.work l.t l.m l.last)) l.fn.work
