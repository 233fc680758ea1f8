-- Those of the axes below a that are not listed are counted.
use Rattle.std.proofs.Common.{◌≡◌, ◌≤◌}
use Rattle.curve.specs.Places.{others_below}
use Rattle.curve.proofs.place.axis_place.Given as goal

abbrev pub invariant-loop-a : goal.invariant-loop-a
invariant-loop-a l = (l.others ≤ l.a) × (l.others ≡ others_below l.axes l.k l.a)
