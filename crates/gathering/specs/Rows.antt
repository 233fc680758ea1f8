-- One waypoint of the rows that `gathered` and `centred` of `smoothing` list.
use Rattle.std.specs.Prelude.{ℕ, ◌+◌, ◌<◌, List, get_or, Float}
use Rattle.std.specs.Float.{binary64}
use Rattle.std.specs.Float.Ieee.{sub, div}
use Rattle.window.specs.Cells.{at}

-- "an axis .. ≥ d" (3) is none of the first k
abbrev pub Below : List ℕ → ℕ → ℕ → Type 0
Below axes k d = (a : ℕ) → a < k → get_or axes a 0 < d

-- `points[(axes[a], i)]`, of the waypoint whose first row is the cell `from`
abbrev pub cell_of : List Float → List ℕ → ℕ → ℕ → Float
cell_of points axes from a = at points (from + get_or axes a 0)

-- `(points[(axes[a], i)] - points[(axes[a], 0)]) / eps[a]`
abbrev pub centred_cell : List Float → List ℕ → List Float → ℕ → ℕ → Float
centred_cell points axes eps from a = div binary64 (sub binary64 (cell_of points axes from a) (at points (get_or axes a 0))) (at eps a)
