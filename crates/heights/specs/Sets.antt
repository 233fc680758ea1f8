-- The set of an axis, in the words of the code: slices and numbers.
use Rattle.std.specs.Prelude.{◌≡◌, List, ℕ, ◌+◌, ◌*◌, ◌≤◌, ◌<◌, length, Float}
use Rattle.heights.specs.Controls.{AxisSet}

-- n segments of m axes, and the axis at a place
abbrev pub set_with : List Float → List Float → ℕ → ℕ → ℕ → AxisSet
set_with breaks coefficients n m at =
    record { breaks = breaks; coefficients = coefficients; segments = n; axes = m; place = at }

-- "slice lengths match", the widths behind the coefficients; and the axis is one of the set's
abbrev pub Sized : ℕ → ℕ → ℕ → List Float → List Float → Type 0
Sized n m at breaks coefficients =
    (at < m) × (m ≤ 16) × (n ≤ 20000) × (length breaks ≡ n + 1) × (6 * (n * m) ≤ length coefficients)
