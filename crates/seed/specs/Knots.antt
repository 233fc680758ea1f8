-- The knots around the anchors, and the source's `seed`.
use Rattle.std.specs.Prelude.{List, [], ◌∷◌, ◌++◌, ℕ, Float}
use Rattle.arith.specs.Operations.{floats}
use Rattle.arith.specs.Loop.{each}
use Rattle.fraction.specs.Value.{absolute_float}
use Rattle.float.specs.Order.{max_of, min_of}
use Rattle.window.specs.Cells.{at}
use Rattle.sorting.specs.Sort.{sort_of}
use Rattle.sorting.specs.Thin.{kept_of}
use Rattle.seed.specs.Corridor.{slope_of}
use Rattle.seed.specs.Anchors.{anchors_of}

-- s[i] - s[a]
abbrev pub step_of : List Float → ℕ → ℕ → Float
step_of s a i = floats.minus (at s i) (at s a)

-- one axis of the largest change of slope at b
unfoldable pub jump_turn : List Float → List Float → ℕ → ℕ → ℕ → ℕ → ℕ → Float → Float
jump_turn s y d a b c j jump =
    max_of jump (absolute_float (floats.minus (slope_of y d b c (step_of s b c) j) (slope_of y d a b (step_of s a b) j)))

unfoldable pub jump_of : List Float → List Float → ℕ → ℕ → ℕ → ℕ → Float
jump_of s y d a b c = each (jump_turn s y d a b c) 0 d floats.zero

-- `(0.45 * h0.min(h1)).min(0.35 / ((35. / 256.) * jump))`
unfoldable pub width_of : Float → Float → Float → Float
width_of h0 h1 jump =
    min_of (floats.times (floats.literal 45 100) (min_of h0 h1))
    (floats.over (floats.literal 35 100) (floats.times (floats.over (floats.literal 35 1) (floats.literal 256 1)) jump))

-- `[s[b] - width, s[b], s[b] + width]`
unfoldable pub around : List Float → List Float → ℕ → ℕ → ℕ → ℕ → List Float
around s y d a b c =
    let width = width_of (step_of s a b) (step_of s b c) (jump_of s y d a b c) in
    floats.minus (at s b) width ∷ (at s b ∷ (floats.plus (at s b) width ∷ []))

-- `for triple in indices.windows(3)`
unfoldable pub anchor_knots : List Float → List Float → ℕ → List ℕ → List Float
anchor_knots s y d [] = []
anchor_knots s y d (a ∷ []) = []
anchor_knots s y d (a ∷ (b ∷ [])) = []
anchor_knots s y d (a ∷ (b ∷ (c ∷ rest))) = around s y d a b c ++ anchor_knots s y d (b ∷ (c ∷ rest))

-- `knots` before it is sorted
unfoldable pub raw_knots : List Float → List Float → ℕ → List Float
raw_knots s y d = anchor_knots s y d (anchors_of s y d)

-- `seed`: the parameters s, the coordinates y of d axes, waypoint after waypoint
unfoldable pub seed_of : List Float → List Float → ℕ → List Float
seed_of s y d = kept_of (sort_of (raw_knots s y d))
