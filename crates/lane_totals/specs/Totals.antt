-- Season totals: document 02, request 13, "the number of lanes, of their segments in axis 0's set, then the lowest, the highest and the sum
-- of the heights", and "the number of lanes turned away".
use Rattle.std.specs.Prelude.{List, [], ◌∷◌, ℕ, ◌+◌, min, max, ℤ, pos, negsuc, ◌+ℤ◌}
use Rattle.std.proofs.Math.Option.{Option, some, none}

-- totals of some lanes; without a height there is no lowest and no highest
pub record Totals : Type 0 where
  pub lanes : ℕ
  pub segments : ℕ
  pub lowest : Option ℤ
  pub highest : Option ℤ
  pub sum : ℤ
  pub turned_away : ℕ

-- the lower and the higher of two whole numbers
abbrev pub lower : ℤ → ℤ → ℤ
lower (pos a) (pos b) = pos (min a b)
lower (pos a) (negsuc b) = negsuc b
lower (negsuc a) (pos b) = negsuc a
lower (negsuc a) (negsuc b) = negsuc (max a b)

abbrev pub higher : ℤ → ℤ → ℤ
higher (pos a) (pos b) = pos (max a b)
higher (pos a) (negsuc b) = pos a
higher (negsuc a) (pos b) = pos b
higher (negsuc a) (negsuc b) = negsuc (min a b)

-- one of two numbers that may be missing
abbrev pub either : (ℤ → ℤ → ℤ) → Option ℤ → Option ℤ → Option ℤ
either f none y = y
either f (some a) none = some a
either f (some a) (some b) = some (f a b)

-- no lanes
abbrev pub nothing : Totals
nothing = record { lanes = 0; segments = 0; lowest = none; highest = none; sum = pos 0; turned_away = 0 }

-- "A lane with 27, 24 or 28 adds to nothing but the sixth and last line"
abbrev pub away : Totals
away = record { lanes = 0; segments = 0; lowest = none; highest = none; sum = pos 0; turned_away = 1 }

-- a lane that counts, without its segments
abbrev pub lane : Totals
lane = record { lanes = 1; segments = 0; lowest = none; highest = none; sum = pos 0; turned_away = 0 }

-- the totals of both
unfoldable pub merge : Totals → Totals → Totals
merge a b =
    record {
      lanes = a.lanes + b.lanes;
      segments = a.segments + b.segments;
      lowest = either lower a.lowest b.lowest;
      highest = either higher a.highest b.highest;
      sum = a.sum +ℤ b.sum;
      turned_away = a.turned_away + b.turned_away;
    }

-- of all
unfoldable pub season : List Totals → Totals
season [] = nothing
season (t ∷ lanes) = merge t (season lanes)
