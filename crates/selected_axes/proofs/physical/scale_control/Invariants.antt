-- The first a cells are scaled.
use mathlib.Core.Path.{◌≡◌}
use Prim.Native.Nat.{ℕ, ◌+◌}
use mathlib.Core.List.{List}
use lib.Ieee.{Float}
use Rattle.window.specs.Cells.{at}
use Rattle.window.specs.Rows.{list_of, written}
use Rattle.selected_axes.specs.Physical.{scaled}
use Rattle.selected_axes.proofs.physical.scale_control.Given as goal

abbrev pub cell : List Float → ℕ → ℕ → List Float → ℕ → Float
cell w to first eps a = scaled (at w (to + a)) (at eps a) (at w (first + a))

abbrev pub invariant-loop-a : goal.invariant-loop-a
invariant-loop-a l = l.work ≡ written l.to (list_of l.a (cell l.fn.work l.to l.first l.eps)) l.fn.work
