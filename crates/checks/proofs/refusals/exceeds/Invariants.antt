-- None of the first i coordinates exceeds it.
use mathlib.Core.Path.{◌≡◌}
use mathlib.Core.Bool.{false}
use Rattle.smoothing.specs.Checks.{exceeds}
use Rattle.checks.proofs.refusals.exceeds.Given as goal

abbrev pub invariant-loop-i : goal.invariant-loop-i
invariant-loop-i l = exceeds l.points l.d l.i l.axis l.most ≡ false
