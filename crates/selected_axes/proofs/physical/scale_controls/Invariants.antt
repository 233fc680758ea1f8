-- The first i controls are scaled.
use mathlib.Core.Path.{◌≡◌}
use Prim.Native.Nat.{ℕ, ◌+◌, ◌*◌}
use mathlib.Core.List.{List}
use lib.Ieee.{Float}
use Rattle.window.specs.Cells.{at}
use Rattle.window.specs.Rows.{table, written}
use Rattle.selected_axes.specs.Physical.{scaled}
use Rattle.selected_axes.proofs.physical.scale_controls.Given as goal

abbrev pub cell : List Float → ℕ → ℕ → ℕ → List Float → ℕ → ℕ → Float
cell w to d first eps i a = scaled (at w (to + i * d + a)) (at eps a) (at w (first + a))

abbrev pub invariant-loop-i : goal.invariant-loop-i
invariant-loop-i l = l.work ≡ written l.to (table l.i l.d (cell l.fn.work l.to l.d l.first l.eps)) l.fn.work
