-- The axes below a that are none of those chosen are written.
use mathlib.Core.Path.{◌≡◌}
use Prim.Native.Nat.{◌≤◌}
use lib.ListN.{length, take}
use Rattle.smoothing.specs.Rows.{left_over}
use Rattle.curve.specs.Places.{padded}
use Rattle.checks.proofs.choices.others.Given as goal

abbrev pub invariant-loop-a : goal.invariant-loop-a
invariant-loop-a l =
    (l.count ≤ l.a) × (l.count ≡ length (left_over (take l.chosen.count l.chosen.axes) l.a))
    × (l.cells ≡ padded (left_over (take l.chosen.count l.chosen.axes) l.a))
