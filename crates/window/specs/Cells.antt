-- The cells of a lent slice, as a list of floats.
use Rattle.std.specs.Prelude.{ℕ, List, ◌++◌, T, length, drop, get_or, replicate, Float}
use Rattle.std.specs.Float.{nan, binary64}
use Rattle.std.specs.Float.Ieee.{fits, of_bits}

-- +0, by its bits
abbrev pub +0 : Float
+0 = of_bits binary64 0

-- the cell at k
abbrev pub at : List Float → ℕ → Float
at l k = get_or l k nan

-- Every cell is an f64. The model's `Float` has further numbers, which no slice holds.
abbrev pub Doubles : List Float → Type 0
Doubles l = (i : ℕ) → T (fits binary64 (at l i))

-- l with v in its first cells, its "used cells"; the others are unchanged
abbrev pub onto : {A : Type 0} → List A → List A → List A
onto v l = v ++ drop (length v) l

-- n cells of +0
abbrev pub zeros : ℕ → List Float
zeros n = replicate n +0
