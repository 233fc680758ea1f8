-- The arrays of an interpolation in the cells of one lent slice. With E = room and d = axes: parameters E, points E * d, knots E, the
-- system of samples + 4 controls 7 * E + E * d, breaks E, coefficients 6 * E * d; 10 * E + 8 * E * d in all.
use Rattle.std.specs.Prelude.{ℕ, ◌+◌, ◌*◌, ◌≤◌, ◌≡◌, List, Float, Result, Ok, Err}
use Rattle.window.specs.Window.{window}
use Rattle.bspline.specs.Segments.{Polynomial}
use Rattle.normal.specs.System.{System, size_of, system_of}
use Rattle.normal.specs.declared.Unsolved.{Unsolved}
use Rattle.normal.specs.Solve.{refusal_number}
use Rattle.fitting_rows.specs.declared.Place.{Place}
use Rattle.smoothing.specs.Answer.{Answer}
use Rattle.smoothing.specs.Answer.Answer.{done, refused}
use Rattle.interpolation.specs.declared.Nodes.{Nodes}

-- where breaks and coefficients start
abbrev pub breaks_place : Nodes → ℕ
breaks_place p = 9 * p.room + 2 * (p.room * p.axes)

abbrev pub coefficients_place : Nodes → ℕ
coefficients_place p = 10 * p.room + 2 * (p.room * p.axes)

-- the arrays lie in so many cells
pub record Roomy (p : Nodes) (cells : ℕ) : Type 0 where
  pub few : p.axes ≤ 16
  pub two : 2 ≤ p.samples
  pub waypoints_fit : p.samples + 16 ≤ p.room
  pub small : p.room ≤ 20016
  pub cells_fit : 10 * p.room + 8 * (p.room * p.axes) ≤ cells

-- what is given: `s`, and the rows of the other axes
abbrev pub parameters_in : Nodes → List Float → List Float
parameters_in p w = window 0 (0 + p.samples) w

abbrev pub points_in : Nodes → List Float → List Float
points_in p w = window p.room (p.room + p.samples * p.axes) w

-- what is made: `b.polynomial()`
abbrev pub polynomial_in : Nodes → ℕ → List Float → Polynomial Float
polynomial_in p segments w =
    record {
      breaks = window (breaks_place p) (breaks_place p + segments + 1) w;
      coefficients = window (coefficients_place p) (coefficients_place p + segments * (6 * p.axes)) w;
    }

-- the definition's answer: the polynomial, or the refusal
abbrev pub interpolated_in : Nodes → Result ℕ Unsolved → List Float → Answer (Polynomial Float)
interpolated_in p (Ok segments) w = done (polynomial_in p segments w)
interpolated_in p (Err e) w = refused (refusal_number e)

-- the offsets of the rows and of the system; while rows are made, the first cells of the coefficients are the controls
abbrev pub place_of : Nodes → Place
place_of p =
    record {
      knots = p.room + p.room * p.axes;
      controls = coefficients_place p;
      count = p.samples + 4;
      axes = p.axes;
      parameters = 0;
      points = p.room;
      samples = p.samples;
      system = 2 * p.room + p.room * p.axes;
    }

-- `Normal::new(0, b.m(), d)`: all controls are active
abbrev pub system_in : Place → List Float → System
system_in q w = system_of q.count q.axes (window q.system (q.system + size_of q.count q.axes) w)

-- one array after the other: the waypoints, the knots, the system, the controls
pub record NodesLaid (q : Place) (cells : ℕ) : Type 0 where
  pub few : q.axes ≤ 16
  pub two : 2 ≤ q.samples
  pub count_is : q.count ≡ q.samples + 4
  pub parameters_fit : q.parameters + q.samples ≤ q.knots
  pub points_fit : q.points + q.samples * q.axes ≤ q.knots
  pub knots_fit : q.knots + (q.count + 6) ≤ q.system
  pub system_fits : q.system + size_of q.count q.axes ≤ q.controls
  pub controls_fit : q.controls + q.count * q.axes ≤ cells
