-- The bounds left, from the largest so far, give what all give.
use mathlib.Core.Path.{◌≡◌}
use Prim.Native.Nat.{ℕ, ◌+◌, ◌*◌}
use mathlib.Core.List.{List}
use lib.Ieee.{Float}
use Rattle.arith.specs.Loop.{each}
use Rattle.window.specs.Cells.{at}
use Rattle.float.specs.Order.{max_of}
use Rattle.smoothing.specs.Finish.{error_of}
use Rattle.selected_axes.proofs.physical.error.Given as goal

abbrev pub turn : List Float → ℕ → ℕ → ℕ → Float → Float
turn bounds d a i w = max_of w (at bounds (i * d + a))

abbrev pub invariant-loop-i : goal.invariant-loop-i
invariant-loop-i l = each (turn l.bounds l.d l.a) l.i l.n l.w ≡ error_of (l.n + 1) l.d l.bounds l.a
