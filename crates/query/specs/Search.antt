-- Where a parameter lies among breaks that rise from 0.
use Rattle.std.specs.Prelude.{◌≡◌, true, false, List, ℕ, ◌+◌, ◌≤◌, ◌<◌, length, T, Float}
use Rattle.std.specs.Float.{binary64}
use Rattle.std.specs.Float.Ieee.{lt, le, fits}
use Rattle.window.specs.Cells.{+0, at}
use Rattle.curve.specs.Form.{width_of}

-- "breaks rise strictly from 0": the first is not below 0, and each is below the next
abbrev pub RisingBreaks : List Float → Type 0
RisingBreaks breaks = (0 < length breaks → le +0 (at breaks 0) ≡ true)
    × ((i : ℕ) → i + 1 < length breaks → lt (at breaks i) (at breaks (i + 1)) ≡ true)

-- segment r holds x: its left break is at or below x unless it is the first, and its right break is above unless it is the last
abbrev pub Found : List Float → Float → ℕ → Type 0
Found breaks x r =
    (r + 1 < length breaks) × (0 < r → le (at breaks r) x ≡ true) × (r + 2 < length breaks → le (at breaks (r + 1)) x ≡ false)

-- a search may begin at this segment: it is one, where there are segments
abbrev pub Begins : List Float → ℕ → Type 0
Begins breaks near = 2 ≤ length breaks → near + 1 < length breaks

-- the widths of the segments lie in these cells, from the cell `from` on: a cell that is an f64 is one
abbrev pub Widths : List Float → List Float → ℕ → Type 0
Widths breaks cells from = (i : ℕ) → i + 1 < length breaks
    → (from + i < length cells) × (T (fits binary64 (at cells (from + i))) → at cells (from + i) ≡ width_of breaks i)
