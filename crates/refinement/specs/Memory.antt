-- The arrays of `build` in the cells of one lent slice: where each lies, and what all of them hold, as one record. With E = room and
-- d = axes: parameters E, points E * d, knots E, controls E * d, bounds E * d, witnesses E, locations 3 * E, the system of a fit
-- 7 * E + E * d, breaks E, coefficients 6 * E * d; 14 * E + 10 * E * d in all.
use Rattle.std.specs.Prelude.{ℕ, ◌+◌, ◌-◌, ◌*◌, ◌≤◌, ◌≡◌, List, take, Float}
use Rattle.window.specs.Window.{window}
use Rattle.bspline.specs.declared.Spline as placed
use Rattle.bspline.specs.Segments.{Polynomial}
use Rattle.fitting_rows.specs.declared.Place.{Place}
use Rattle.polynomial.specs.declared.audit.Parts.{Parts}
use Rattle.smoothing.specs.Rows.{Task}
use Rattle.smoothing.specs.State.{Spline, spline, State, state, Counts, polynomial_in}
use Rattle.refinement.specs.declared.plan.Plan.{Plan}
-- no span is without a width
pub use Rattle.bspline.specs.Placed.{Wide}

-- ---- where each array starts
abbrev pub block : Plan → ℕ
block p = p.room * p.axes

abbrev pub points_place : Plan → ℕ
points_place p = p.room

abbrev pub knots_place : Plan → ℕ
knots_place p = p.room + block p

abbrev pub controls_place : Plan → ℕ
controls_place p = 2 * p.room + block p

abbrev pub bounds_place : Plan → ℕ
bounds_place p = 2 * p.room + 2 * block p

abbrev pub witness_place : Plan → ℕ
witness_place p = 2 * p.room + 3 * block p

abbrev pub locations_place : Plan → ℕ
locations_place p = 3 * p.room + 3 * block p

abbrev pub system_place : Plan → ℕ
system_place p = 6 * p.room + 3 * block p

abbrev pub breaks_place : Plan → ℕ
breaks_place p = 13 * p.room + 4 * block p

abbrev pub coefficients_place : Plan → ℕ
coefficients_place p = 14 * p.room + 4 * block p

abbrev pub cells_of : Plan → ℕ
cells_of p = 14 * p.room + 10 * block p

-- ---- the offsets that `bspline`, `fit` and `audit` take
abbrev pub spline_of : Plan → placed.Spline
spline_of p = record { knots = knots_place p; controls = controls_place p; count = p.count; axes = p.axes }

abbrev pub place_of : Plan → Place
place_of p =
    record {
      knots = knots_place p;
      controls = controls_place p;
      count = p.count;
      axes = p.axes;
      parameters = 0;
      points = points_place p;
      samples = p.samples;
      system = system_place p;
    }

abbrev pub parts_of : Plan → Parts
parts_of p =
    record {
      parameters = 0;
      points = points_place p;
      bounds = bounds_place p;
      witness = witness_place p;
      breaks = breaks_place p;
      coefficients = coefficients_place p;
      segments = p.count - 5;
      samples = p.samples;
      axes = p.axes;
    }

-- the arrays lie in so many cells, and a knot more fits; the room is at most document 01's E, max(n, max_segments) + 16
pub record Roomy (p : Plan) (cells : ℕ) : Type 0 where
  pub few : p.axes ≤ 16
  pub six : 6 ≤ p.count
  pub knots_fit : p.count + 7 ≤ p.room
  pub waypoints_fit : p.samples ≤ p.room
  pub two : 2 ≤ p.samples
  pub small : p.room ≤ 20016
  pub cells_fit : cells_of p ≤ cells

-- the same plan with m controls
abbrev pub sized : Plan → ℕ → Plan
sized p m = record { axes = p.axes; samples = p.samples; room = p.room; count = m }

-- ---- what the arrays hold, under the source's names; `breaks` and `coefficients` are those of `b.polynomial()`
pub record Memory : Type 0 where
  pub s : List Float
  pub y : List Float
  pub t : List Float
  pub c : List Float
  pub bounds : List Float
  pub witness : List Float
  pub locations : List Float
  pub breaks : List Float
  pub coefficients : List Float

abbrev pub memory : (s y t c bounds witness locations breaks coefficients : List Float) → Memory
memory s y t c bounds witness locations breaks coefficients =
    record {
      s = s;
      y = y;
      t = t;
      c = c;
      bounds = bounds;
      witness = witness;
      locations = locations;
      breaks = breaks;
      coefficients = coefficients;
    }

abbrev pub memory_at : Plan → List Float → Memory
memory_at p w =
    record {
      s = window 0 (0 + p.samples) w;
      y = window (points_place p) (points_place p + p.samples * p.axes) w;
      t = window (knots_place p) (knots_place p + (p.count + 6)) w;
      c = window (controls_place p) (controls_place p + p.count * p.axes) w;
      bounds = window (bounds_place p) (bounds_place p + (p.samples - 1) * p.axes) w;
      witness = window (witness_place p) (witness_place p + (p.samples - 1)) w;
      locations = window (locations_place p) (locations_place p + 3 * p.room) w;
      breaks = window (breaks_place p) (breaks_place p + (p.count - 5) + 1) w;
      coefficients = window (coefficients_place p) (coefficients_place p + (p.count - 5) * (6 * p.axes)) w;
    }

-- the same with other controls, another polynomial, other coefficients, other bounds and witnesses, other locations
abbrev pub with_controls : List Float → Memory → Memory
with_controls c x = memory x.s x.y x.t c x.bounds x.witness x.locations x.breaks x.coefficients

abbrev pub with_polynomial : Polynomial Float → Memory → Memory
with_polynomial q x = memory x.s x.y x.t x.c x.bounds x.witness x.locations q.breaks q.coefficients

abbrev pub with_coefficients : List Float → Memory → Memory
with_coefficients k x = memory x.s x.y x.t x.c x.bounds x.witness x.locations x.breaks k

abbrev pub with_bounds : List Float → List Float → Memory → Memory
with_bounds bounds witness x = memory x.s x.y x.t x.c bounds witness x.locations x.breaks x.coefficients

abbrev pub with_locations : List Float → Memory → Memory
with_locations locations x = memory x.s x.y x.t x.c x.bounds x.witness locations x.breaks x.coefficients

-- ---- the task, the spline and the state that they hold
abbrev pub task_in : Plan → Memory → Task
task_in p x = record { n = p.samples; k = p.axes; s = x.s; y = x.y }

abbrev pub spline_in : Plan → Memory → Spline
spline_in p x = spline x.t x.c p.count

abbrev pub state_in : Plan → Counts → Memory → State
state_in p report x = state (spline_in p x) x.bounds x.witness report

-- the same of the cells, and the first `count` locations
abbrev pub task_at : Plan → List Float → Task
task_at p w = task_in p (memory_at p w)

abbrev pub spline_at : Plan → List Float → Spline
spline_at p w = spline_in p (memory_at p w)

abbrev pub state_at : Plan → Counts → List Float → State
state_at p report w = state_in p report (memory_at p w)

abbrev pub locations_at : Plan → ℕ → List Float → List Float
locations_at p count w = take count (memory_at p w).locations

-- the stored polynomial is that of the stored spline
pub record Stored (p : Plan) (x : Memory) : Type 0 where
  pub breaks_are : x.breaks ≡ (polynomial_in p.axes (spline_in p x)).breaks
  pub coefficients_are : x.coefficients ≡ (polynomial_in p.axes (spline_in p x)).coefficients
