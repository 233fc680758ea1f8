-- None of the cells up to i is at or above the next.
use mathlib.Core.Path.{◌≡◌}
use mathlib.Core.Bool.{Bool, false}
use mathlib.Core.List.{List}
use Prim.Native.Nat.{ℕ, ◌+◌, ◌-◌}
use lib.Ieee.{Float, le}
use Rattle.window.specs.Cells.{at}
use Rattle.request.specs.Any.{any}
use Rattle.checks.proofs.refusals.falls.Given as goal

abbrev pub test : List Float → ℕ → Bool
test s j = le (at s (j + 1)) (at s j)

abbrev pub invariant-loop-i : goal.invariant-loop-i
invariant-loop-i l = any (l.i - 1) (test l.s) ≡ false
