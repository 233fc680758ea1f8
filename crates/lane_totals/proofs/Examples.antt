-- Worked examples, by computation: totals of few heights.
use mathlib.Core.Path.{◌≡◌, refl}
use mathlib.Core.List.{[], ◌∷◌}
use mathlib.Core.Option.{some}
use Prim.Native.Nat.{ℕ}
use lib.IntN.{ℤ, pos, negsuc}
use lib.ListN.{get_or}
use Rattle.lane_totals.specs.Totals.{away, lane, merge, nothing, season}
use Rattle.lane_totals.specs.Lanes.{highest_of, lowest_of, step_totals, sum_of}

-- -3, 2, -5, 1
abbrev heights : ℕ → ℤ
heights j = get_or (negsuc 2 ∷ pos 2 ∷ negsuc 4 ∷ pos 1 ∷ []) j (pos 0)

-- the lowest, the highest and the sum of these four, of the first one, and of none
four : step_totals 4 heights
    ≡ record { lanes = 0; segments = 1; lowest = some (negsuc 4); highest = some (pos 2); sum = negsuc 4; turned_away = 0 }
unfolding lowest_of highest_of sum_of
four = refl

one : step_totals 1 heights
    ≡ record { lanes = 0; segments = 1; lowest = some (negsuc 2); highest = some (negsuc 2); sum = negsuc 2; turned_away = 0 }
unfolding lowest_of highest_of sum_of
one = refl

-- a lane of two segments and two that are turned away
mixed : season (away ∷ merge (merge lane (step_totals 4 heights)) (step_totals 1 heights) ∷ away ∷ [])
    ≡ record { lanes = 1; segments = 2; lowest = some (negsuc 4); highest = some (pos 2); sum = negsuc 7; turned_away = 2 }
unfolding season merge lowest_of highest_of sum_of
mixed = refl

-- no lane at all
empty : season [] ≡ nothing
unfolding season
empty = refl
