-- How the code keeps a whole number from -2,000,000 to 2,000,000: as the number from 0 to 4,000,000 by which it lies above -2,000,000.
use Rattle.std.specs.Prelude.{true, false, Option, Some, None, List, map, ◌≡◌, ℕ, ◌≤◌, ◌<◌, ℤ, pos, ◌-ℤ◌, get_or, length, Float}
use Rattle.heights.specs.Controls.{beyond, whole_of, any_beyond, wholes_of}

-- the number that is kept as n
abbrev pub lowered : ℕ → ℤ
lowered n = pos n -ℤ pos 2000000

-- a rounded number: none where x is turned away, and otherwise its whole number
abbrev pub RoundedFrom : Float → Option ℕ → Type 0
RoundedFrom x None = beyond x ≡ true
RoundedFrom x (Some n) = (beyond x ≡ false) × (lowered n ≡ whole_of x) × (n ≤ 4000000)

-- six numbers that are kept so
abbrev pub Lifted : List ℕ → Type 0
Lifted l = (length l ≡ 6) × ((k : ℕ) → k < 6 → get_or l k 0 ≤ 4000000)

-- the whole controls of the Bernstein controls b: none where one is turned away
abbrev pub ControlsFrom : List Float → Option (List ℕ) → Type 0
ControlsFrom b None = any_beyond b ≡ true
ControlsFrom b (Some cells) = (any_beyond b ≡ false) × (map lowered cells ≡ wholes_of b) × Lifted cells
