-- The other axes: the source's `interpolate`, over their gathered rows.
use Rattle.std.specs.Prelude.{ℕ, ◌+◌, ◌-◌, ◌*◌, List, slice_index_or, slice_set, Float}
use Rattle.std.specs.Float.{binary64}
use Rattle.std.specs.Float.Ieee.{sub, mul}
use Rattle.arith.specs.Operations.{floats}
use Rattle.arith.specs.Loop.{each}
use Rattle.window.specs.Window.{window}
use Rattle.window.specs.Cells.{+0, at, zeros}
use Rattle.float.specs.Power.{power_of}
use Rattle.bspline.specs.Choose.{factorials}
use Rattle.bspline.specs.Search.{span_of}
use Rattle.bspline.specs.Values.{values_of}
use Rattle.bspline.specs.Powers.{powers_of}
use Rattle.bspline.specs.Segments.{Polynomial, polynomial_of}
use Rattle.normal.specs.System.{System, new_of}
use Rattle.normal.specs.Add.{row_of, add_of}
use Rattle.normal.specs.Solve.{solve_of}
use Rattle.fitting_rows.specs.Samples.{point_of}
use Rattle.smoothing.specs.Answer.{Answer, unless}
use Rattle.smoothing.specs.Start.{open_knots}

-- n parameters s, and the rows of d axes
module _ (n d : ℕ) (s rows : List Float) where
  -- `t`: a knot at every inner waypoint, `&s[1..n - 1]`; and the number of controls
  abbrev pub waypoint_knots : List Float
  waypoint_knots = open_knots (window 1 (n - 1) s)

  abbrev pub control_count : ℕ
  control_count = n + 4

  -- `system.add(start, &v, &target, 1., &b.c)`: the controls are +0 still
  unfoldable pub equation : ℕ → List Float → List Float → System → System
  equation start basis target x = add_of 0 control_count d (row_of (zeros (control_count * d)) d start basis floats.one target) x

  -- waypoint i
  unfoldable pub waypoint_turn : ℕ → System → System
  waypoint_turn i x =
      let span = span_of floats waypoint_knots control_count (at s i) in
      equation (span - 5) (values_of floats waypoint_knots span (at s i)) (point_of rows d i) x

  -- `std::array::from_fn(|i| power[i][r] * FACT[r] * h.powi(r as i32))`
  unfoldable pub derivative_of : List Float → Float → ℕ → List Float
  derivative_of powers h r =
      let factorial = slice_index_or (factorials floats) r floats.outside in
      each (λ i v. slice_set v i (mul binary64 (mul binary64 (at powers (6 * i + r)) factorial) (power_of floats h r))) 0 6 (zeros 6)

  -- `for r in 1..=2`, at an end x whose interval is h wide; target 0 for up to 16 axes, as in `row_of`
  unfoldable pub end_turns : Float → Float → System → System
  end_turns x h a =
      let span = span_of floats waypoint_knots control_count x in
      let powers = powers_of floats waypoint_knots span x in
      each (λ r a. equation (span - 5) (derivative_of powers h r) (zeros 16) a) 1 3 a

  -- `for (x, h) in [(0., s[1] - s[0]), (1., s[n - 1] - s[n - 2])]`
  unfoldable pub interpolation_system : System
  interpolation_system =
      end_turns floats.one (sub binary64 (at s (n - 1)) (at s (n - 2)))
      (end_turns +0 (sub binary64 (at s 1) (at s 0)) (each waypoint_turn 0 n (new_of control_count d)))

  -- `b.c = system.solve()?; Ok(b.polynomial())`; 9, 10, 11
  unfoldable pub interpolate_of : Answer (Polynomial Float)
  interpolate_of =
      let o = solve_of control_count d interpolation_system in
      unless o.number (polynomial_of floats waypoint_knots o.system.right d control_count)
