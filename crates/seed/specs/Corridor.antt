-- The slope corridor of the source's `seed`, in the source's order of roundings. Document 01, module 6.
use Rattle.std.specs.Prelude.{Bool, true, false, ◌&&◌, List, ℕ, ◌+◌, ◌*◌, set, replicate, Float}
use Rattle.std.specs.Float.{inf}
use Rattle.std.specs.Float.Ieee.{le}
use Rattle.arith.specs.Operations.{floats}
use Rattle.arith.specs.Loop.{each}
use Rattle.float.specs.Order.{max_of, min_of}
use Rattle.window.specs.Cells.{at}

-- `lo` and `hi`, the least and the greatest slope of each axis, and whether the point in hand lies between
pub record Corridor : Type 0 where
  pub lo : List Float
  pub hi : List Float
  pub ok : Bool

abbrev pub corridor : List Float → List Float → Bool → Corridor
corridor lo hi ok = record { lo = lo; hi = hi; ok = ok }

-- `vec![f64::NEG_INFINITY; d]` and `vec![f64::INFINITY; d]`
abbrev pub lowest : ℕ → List Float
lowest d = replicate d (inf true)

abbrev pub highest : ℕ → List Float
highest d = replicate d (inf false)

-- axis j of waypoint i, of d axes
abbrev pub coordinate : List Float → ℕ → ℕ → ℕ → Float
coordinate y d i j = at y (i * d + j)

-- the slope from waypoint a to waypoint i, which lie ds apart
abbrev pub slope_of : List Float → ℕ → ℕ → ℕ → Float → ℕ → Float
slope_of y d a i ds j =
    floats.over (floats.minus (coordinate y d i j) (coordinate y d a j)) ds

-- 0.65 / ds
abbrev pub allowance : Float → Float
allowance ds = floats.over (floats.literal 65 100) ds

-- one axis: the bounds drawn in, and whether the slope lies between them
unfoldable pub axis_turn : List Float → List Float → ℕ → ℕ → ℕ → ℕ → Corridor → Corridor
axis_turn s y d anchor i j c =
    let ds = floats.minus (at s i) (at s anchor) in
    let slope = slope_of y d anchor i ds j in
    let low = max_of (at c.lo j) (floats.minus slope (allowance ds)) in
    let high = min_of (at c.hi j) (floats.plus slope (allowance ds)) in
    corridor (set c.lo j low) (set c.hi j high) (c.ok && (le low slope && le slope high))

-- the corridor from `anchor`, drawn in by waypoint i: the inner loop
unfoldable pub narrowed : List Float → List Float → ℕ → ℕ → ℕ → List Float → List Float → Corridor
narrowed s y d anchor i lo hi = each (axis_turn s y d anchor i) 0 d (corridor lo hi true)
