-- What the distance theorem says (document 01, "Demand 3 is the distance rule"): for every exact fraction t, the curve lies within the
-- figure of the line. Nothing here is rounded: a fraction is a whole number over a whole number above 0, and two are compared by cross
-- products.
use Rattle.std.specs.Prelude.{ℕ, ◌+◌, ◌<◌, ◌≤◌, T, Float}
use Rattle.std.specs.Float.{binary64}
use Rattle.std.specs.Float.Ieee.{eq, lt, of_bits}
use Rattle.std.specs.Float.Ieee.Scale.{finite}
use Rattle.window.specs.Cells.{+0}
use Rattle.fraction.specs.Fraction.{Fraction, ◌≤f◌, add_fractions, divide_fractions, multiply_fractions, negate_fraction, subtract_fractions}
use Rattle.fraction.specs.Polynomial.{fraction_polynomial}
use Rattle.fraction.specs.Value.{exact_fraction}
use Rattle.figure.specs.Figure.{Axis}

-- x 0 .. x count rise strictly from 0 to 1. So breaks do in a well-formed curve (24), and so do the normalised parameters (5, 6).
pub record Rises (count : ℕ) (x : ℕ → Float) : Type 0 where
  pub from_zero : T (eq (x 0) +0)
  pub rising : (i : ℕ) → i < count → T (lt (x i) (x (i + 1)))
  pub to_one : T (eq (x count) (of_bits binary64 0x3ff0_0000_0000_0000))

-- t lies in [a, b], "ends included"
pub record LiesIn (a b : Float) (t : Fraction) : Type 0 where
  pub above : exact_fraction a ≤f t
  pub below : t ≤f exact_fraction b

-- a segment and an interval of the axis that t lies in
pub record Covered (x : Axis) (t : Fraction) : Type 0 where
  pub segment : ℕ
  pub interval : ℕ
  pub a_segment : segment < x.segments
  pub an_interval : interval < x.intervals
  pub in_segment : LiesIn (x.break segment) (x.break (segment + 1)) t
  pub in_interval : LiesIn (x.parameter interval) (x.parameter (interval + 1)) t

-- "The curve is the sum over k from 0 to 5 of that segment's p_k·((t - a)/(b - a))^k"
abbrev pub curve_at : Axis → ℕ → Fraction → Fraction
curve_at x m t =
    let a = exact_fraction (x.break m) in
    let b = exact_fraction (x.break (m + 1)) in
    fraction_polynomial 5 (λ k. exact_fraction (x.coefficient m k)) (divide_fractions (subtract_fractions t a) (subtract_fractions b a))

-- "the line y_i + ((t - s_i)/(s_(i+1) - s_i))·(y_(i+1) - y_i)"
abbrev pub line_at : Axis → ℕ → Fraction → Fraction
line_at x i t =
    let s = exact_fraction (x.parameter i) in
    let s' = exact_fraction (x.parameter (i + 1)) in
    let y = exact_fraction (x.waypoint i) in
    let y' = exact_fraction (x.waypoint (i + 1)) in
    add_fractions y (multiply_fractions (divide_fractions (subtract_fractions t s) (subtract_fractions s' s)) (subtract_fractions y' y))

-- "The distance is at most the figure": the distance rule, for the axis x and the figure F. It holds for every segment m and every interval
-- i that t lies in: at a break for the segments on both sides, at a waypoint for the lines on both sides.
-- All its numbers are finite, so that `exact_fraction` is what they are worth.
pub record DistanceRule (x : Axis) (F : Float) : Type 0 where
  pub finite_figure : T (finite F)
  pub finite_breaks : (m : ℕ) → m ≤ x.segments → T (finite (x.break m))
  pub finite_parameters : (i : ℕ) → i ≤ x.intervals → T (finite (x.parameter i))
  pub finite_coefficients : (m k : ℕ) → m < x.segments → k ≤ 5 → T (finite (x.coefficient m k))
  pub finite_waypoints : (i : ℕ) → i ≤ x.intervals → T (finite (x.waypoint i))
  pub distance : (t : Fraction) (m i : ℕ) → m < x.segments → i < x.intervals → LiesIn (x.break m) (x.break (m + 1)) t
      → LiesIn (x.parameter i) (x.parameter (i + 1)) t
      → (negate_fraction (exact_fraction F) ≤f subtract_fractions (curve_at x m t) (line_at x i t))
      × (subtract_fractions (curve_at x m t) (line_at x i t) ≤f exact_fraction F)
