-- The windows of controls that new knots affect, merged: the source's `regions`.
use Rattle.std.specs.Prelude.{cond, List, [], ◌∷◌, ℕ, ◌+◌, ◌-◌, max, min, leb, Float}
use Rattle.arith.specs.Operations.{floats}
use Rattle.bspline.specs.Search.{span_of}

-- the controls from a up to z
pub record Range : Type 0 where
  pub a : ℕ
  pub z : ℕ

abbrev pub range : ℕ → ℕ → Range
range a z = record { a = a; z = z }

-- the controls that a knot at x affects, without the first and the last of the m controls
unfoldable pub range_of : List Float → ℕ → Float → Range
range_of t m x =
    let k = span_of floats t m x in range (max (k - 10) 1) (min (k + 6) (m - 1))

-- `last` and what follows it: a range that starts at most 5 controls after the last one ends is joined to it
unfoldable pub merged : List Float → ℕ → Range → List Float → List Range
merged t m last [] = last ∷ []
merged t m last (x ∷ rest) =
    let r = range_of t m x in
    let grown = merged t m (range last.a (max last.z r.z)) rest in
    let parted = last ∷ merged t m r rest in
    cond (leb r.a (last.z + 5)) grown parted

-- `regions`: of a spline with knots t and m controls, for the locations x
unfoldable pub regions_of : List Float → ℕ → List Float → List Range
regions_of t m [] = []
regions_of t m (x ∷ rest) = merged t m (range_of t m x) rest
