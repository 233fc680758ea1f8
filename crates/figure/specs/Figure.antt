-- The certified figure of an axis: document 01, "The certified figure"; with a depth: document 02, request 8.
use Rattle.std.specs.Prelude.{ℕ, zero, suc, ◌+◌, T, Float}
use Rattle.std.proofs.Math.Bool.{cond}
use Rattle.std.specs.Float.Ieee.{lt}
use Rattle.std.specs.Float.Ieee.Scale.{finite}
use Rattle.arith.specs.Loop.{each}
use Rattle.window.specs.Cells.{+0}
use Rattle.fraction.specs.Fraction.{◌≤f◌}
use Rattle.fraction.specs.Value.{exact_fraction}
use Rattle.fraction.specs.Pair.{Ends, highest, largest_absolute, lowest, none, pair}
use Rattle.figure.specs.Operations.{ends}
use Rattle.figure.specs.Intersection.{Intersection, difference_bernstein}
use Rattle.figure.specs.Halving.{left_half, right_half}

-- a figure, or none
pub data Figure : Type 0 where
  figure : Float → Figure
  no_figure : Figure

-- the larger of two; none, where one is none
unfoldable pub larger : Figure → Figure → Figure
larger (figure x) (figure y) = figure (highest x y)
larger (figure x) no_figure = no_figure
larger no_figure g = no_figure

-- "the largest absolute end" of a pair
unfoldable pub absolute_end : Ends → Figure
absolute_end (pair a b) = figure (largest_absolute a b)
absolute_end none = no_figure

-- the largest absolute end over six pairs
unfoldable pub six_figure : (ℕ → Ends) → Figure
unfolding larger absolute_end
six_figure p = each (λ k so_far. larger so_far (absolute_end (p k))) 0 6 (figure +0)

-- "the smaller of its own and the larger of its two halves; if a half has none, its own"; none, where its own is none
unfoldable pub smaller : Figure → Figure → Figure
smaller (figure x) (figure y) = figure (lowest x y)
smaller (figure x) no_figure = figure x
smaller no_figure g = no_figure

-- The figure of six Bernstein pairs with a depth. At 0 it is their own; above 0 they are "split into two halves .. and each half is treated
-- with one less depth".
unfoldable pub halved_figure : ℕ → (ℕ → Ends) → Figure
halved_figure zero p = six_figure p
halved_figure (suc depth) p = smaller (six_figure p) (larger (halved_figure depth (left_half ends p)) (halved_figure depth (right_half ends p)))

-- the figure of an intersection: that of its six Bernstein pairs
unfoldable pub intersection_figure : ℕ → Intersection → Figure
intersection_figure depth x = halved_figure depth (difference_bernstein ends x)

-- The segment from a to b with the coefficients p, and the interval from s to s' with the waypoints y and y'. left is the larger of a and
-- s, right the smaller of b and s'; of equal ones (0 and -0 are) either will do, since they enter differences alone, whose ends depend on
-- the exact result.
abbrev pub meeting : Float → Float → (ℕ → Float) → Float → Float → Float → Float → Intersection
meeting a b p s s' y y' =
    record {
      start = a;
      end = b;
      coefficient = p;
      left = highest a s;
      right = lowest b s';
      from = s;
      to = s';
      first = y;
      second = y';
    }

-- What is certified: the segments of an axis, and its waypoints.
pub record Axis : Type 0 where
  -- segment m lies from break m to break m + 1 and has the coefficients p_0 .. p_5
  pub segments : ℕ
  pub break : ℕ → Float
  pub coefficient : ℕ → ℕ → Float
  -- interval i lies from parameter i to parameter i + 1 and has the waypoints i and i + 1: s and y in document 01
  pub intervals : ℕ
  pub parameter : ℕ → Float
  pub waypoint : ℕ → Float

-- interval i with segment m
unfoldable pub intersection : Axis → ℕ → ℕ → Intersection
intersection x i m = meeting (x.break m) (x.break (m + 1)) (x.coefficient m) (x.parameter i) (x.parameter (i + 1)) (x.waypoint i)
    (x.waypoint (i + 1))

module _ (depth : ℕ) (x : Axis) where
  -- the largest so far with that of interval i and segment m, if "left below right"
  unfoldable pub with_intersection : ℕ → ℕ → Figure → Figure
  unfolding intersection larger intersection_figure
  with_intersection i m so_far = cond (lt (intersection x i m).left (intersection x i m).right)
      (larger so_far (intersection_figure depth (intersection x i m))) so_far

  -- The figure: the largest over all intersections, interval after interval and in each segment after segment. An absolute end is at least
  -- 0, so the largest is taken from 0 on.
  unfoldable pub figure_of : Figure
  unfolding with_intersection
  figure_of = each (λ i. each (with_intersection i) 0 x.segments) 0 x.intervals (figure +0)

-- A deeper figure beside a shallower one: both are none; or both are figures, and the deeper one is "never larger". Figures are finite.
abbrev pub NoLarger : Figure → Figure → Type 0
NoLarger (figure x) (figure y) = T (finite x) × T (finite y) × (exact_fraction x ≤f exact_fraction y)
NoLarger (figure x) no_figure = ⊥
NoLarger no_figure (figure y) = ⊥
NoLarger no_figure no_figure = Unit {0}
