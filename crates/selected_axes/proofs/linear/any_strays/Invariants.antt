-- No waypoint passed lies further off.
use mathlib.Core.Path.{◌≡◌}
use mathlib.Core.Bool.{false}
use Rattle.request.specs.Any.{any}
use Rattle.selected_axes.specs.First.{task_over, strayed}
use Rattle.selected_axes.proofs.linear.any_strays.Given as goal

abbrev pub invariant-loop-i : goal.invariant-loop-i
invariant-loop-i l = any l.i (strayed (task_over l.n l.d l.s l.y)) ≡ false
