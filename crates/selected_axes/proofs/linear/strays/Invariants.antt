-- No axis passed lies further off.
use mathlib.Core.Path.{◌≡◌}
use mathlib.Core.Bool.{Bool, false, not}
use Prim.Native.Nat.{ℕ, ◌+◌, ◌≤◌}
use lib.ListN.{length}
use lib.Ieee.{le}
use Rattle.arith.specs.Operations.{floats}
use Rattle.request.specs.Any.{any}
use Rattle.smoothing.specs.Rows.{Task}
use Rattle.smoothing.specs.Start.{chord_error}
use Rattle.selected_axes.specs.First.{task_over}
use Rattle.selected_axes.proofs.linear.strays.Given as goal

abbrev pub test : Task → ℕ → ℕ → Bool
test q i a = not (le (chord_error q i a) (floats.literal 95 100))

abbrev pub invariant-loop-a : goal.invariant-loop-a
invariant-loop-a l =
    (l.from + l.d ≤ length l.y) × (l.last + l.d ≤ length l.y) × (any l.a (test (task_over l.n l.d l.s l.y) l.i) ≡ false)
