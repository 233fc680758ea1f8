-- Waypoints in the cells of one lent slice, and the knots behind them.
use Rattle.std.specs.Prelude.{ℕ, ◌+◌, ◌*◌, ◌≤◌, List, ◌++◌, length, drop, Float}
use Rattle.window.specs.Window.{window}
use Rattle.sorting.specs.Sort.{sort_of}
use Rattle.seed.specs.declared.Waypoints.{Waypoints}
use Rattle.seed.specs.Knots.{raw_knots, seed_of}

-- the waypoints lie before the knots, and those within n cells
abbrev pub WaypointsLaid : Waypoints → ℕ → Type 0
WaypointsLaid p n = (p.axes ≤ 16) × (p.parameters + p.samples ≤ p.knots) × (p.points + p.samples * p.axes ≤ p.knots) × (p.knots ≤ n)

-- `s` and `y` of the source's `seed`
abbrev pub parameters_at : Waypoints → List Float → List Float
parameters_at p w = window p.parameters (p.parameters + p.samples) w

abbrev pub points_at : Waypoints → List Float → List Float
points_at p w = window p.points (p.points + p.samples * p.axes) w

-- what `seed` leaves in the cells of the raw knots: the knots kept, and then what was sorted there
unfoldable pub seeded_cells : List Float → List Float → ℕ → List Float
seeded_cells s y d = seed_of s y d ++ drop (length (seed_of s y d)) (sort_of (raw_knots s y d))
