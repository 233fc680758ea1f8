-- The first a axes are written.
use mathlib.Core.Path.{◌≡◌}
use Rattle.smoothing.specs.Request.{up_to}
use Rattle.curve.specs.Places.{padded}
use Rattle.checks.proofs.choices.all.Given as goal

abbrev pub invariant-loop-a : goal.invariant-loop-a
invariant-loop-a l = l.axes ≡ padded (up_to l.a)
