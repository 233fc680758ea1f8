-- The knots left, added to the sum so far, give the whole sum.
use mathlib.Core.Path.{◌≡◌}
use Prim.Native.Nat.{ℕ, ◌+◌}
use mathlib.Core.List.{List}
use lib.Ieee.{Float, binary64, add}
use Rattle.arith.specs.Loop.{each}
use Rattle.window.specs.Cells.{at}
use Rattle.normal.specs.Add as systems
use Rattle.selected_axes.proofs.chord.greville.Given as goal

abbrev pub term : List Float → ℕ → ℕ → Float → Float
term t i j v = add binary64 v (at t (i + 1 + j))

abbrev pub invariant-loop-j : goal.invariant-loop-j
invariant-loop-j l = each (term l.t l.i) l.j 5 l.sum ≡ each (term l.t l.i) 0 5 systems.-0
