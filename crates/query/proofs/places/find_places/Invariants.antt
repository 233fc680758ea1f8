-- The first a axes have their places, and `others` of them are not listed.
use Rattle.std.proofs.Common.{◌≡◌, ℕ, ◌≤◌, ◌<◌, get_or, length}
use Rattle.curve.specs.Places.{axis_place, others_below}
use Rattle.query.proofs.places.find_places.Given as goal

abbrev pub invariant-loop-a : goal.invariant-loop-a
invariant-loop-a l = (length l.at ≡ 16) × (l.others ≡ others_below l.axes l.k l.a) × (l.others ≤ l.a)
    × ((b : ℕ) → b < l.a → get_or l.at b 0 ≡ axis_place l.axes l.k b)
