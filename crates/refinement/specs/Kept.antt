-- What the steps of a round leave as it was.
use Rattle.std.specs.Prelude.{ℕ, ◌*◌, ◌≤◌, ◌<◌, ◌≡◌, List, get_or, Float}
use Rattle.std.specs.Float.{nan}
use Rattle.smoothing.specs.State.{spline, polynomial_in}
use Rattle.refinement.specs.declared.plan.Plan.{Plan}
use Rattle.refinement.specs.Memory.{Memory, with_locations}

-- the search for locations: all but these
abbrev pub Relocated : Memory → Memory → Type 0
Relocated x y = y ≡ with_locations y.locations x

-- the insertions: all but the spline and its polynomial
pub record Beside (x y : Memory) : Type 0 where
  pub same_s : y.s ≡ x.s
  pub same_y : y.y ≡ x.y
  pub same_bounds : y.bounds ≡ x.bounds
  pub same_witness : y.witness ≡ x.witness
  pub same_locations : y.locations ≡ x.locations

-- A fit of the window [a, z): the stored polynomial is that of the stored knots and of controls that differ from the stored ones in [a, z)
-- alone.
pub record Stale (p : Plan) (a z : ℕ) (x : Memory) : Type 0 where
  pub old : List Float
  pub breaks_were : x.breaks ≡ (polynomial_in p.axes (spline x.t old p.count)).breaks
  pub coefficients_were : x.coefficients ≡ (polynomial_in p.axes (spline x.t old p.count)).coefficients
  pub before : (i : ℕ) → i < a * p.axes → get_or old i nan ≡ get_or x.c i nan
  pub after : (i : ℕ) → z * p.axes ≤ i → get_or old i nan ≡ get_or x.c i nan
