-- No error passed is above its tolerance.
use mathlib.Core.Path.{◌≡◌}
use mathlib.Core.Bool.{Bool, false}
use mathlib.Core.List.{List}
use Prim.Native.Nat.{ℕ}
use lib.Ieee.{Float, lt}
use Rattle.window.specs.Cells.{at}
use Rattle.request.specs.Any.{any}
use Rattle.selected_axes.proofs.physical.is_excessive.Given as goal

abbrev pub test : List Float → List Float → ℕ → Bool
test eps errors a = lt (at eps a) (at errors a)

abbrev pub invariant-loop-a : goal.invariant-loop-a
invariant-loop-a l = any l.a (test l.eps l.errors) ≡ false
