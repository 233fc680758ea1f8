-- What is asked of an intersection's numbers before its figure is estimated.
use Rattle.std.specs.Prelude.{◌<◌, ℕ, false, true, ◌≡◌, T, Float}
use Rattle.std.specs.Float.{binary64}
use Rattle.std.specs.Float.Ieee.{fits, le, lt, neg, of_bits, sub}
use Rattle.figure.specs.Intersection.{Intersection}
use Rattle.figure.specs.Figure.{Figure, figure}
use Rattle.pairs.specs.Spreads.{Number}
use Rattle.estimate.specs.Plain.{larger_size}

-- 2, 2^-60 and 2^-400
abbrev pub two : Float
two = of_bits binary64 0x4000_0000_0000_0000

abbrev pub short_length : Float
short_length = of_bits binary64 0x3c30_0000_0000_0000

abbrev pub small_size : Float
small_size = of_bits binary64 0x26f0_0000_0000_0000

-- coefficients and waypoints are at most 2^100 in size
pub record Sized (x : Intersection) : Type 0 where
  pub first : Number 100 x.first
  pub second : Number 100 x.second
  pub coefficients : (k : ℕ) → k < 6 → Number 100 (x.coefficient k)

-- two numbers, the first at most the second
pub record AtMost (a b : Float) : Type 0 where
  pub first_double : T (fits binary64 a)
  pub second_double : T (fits binary64 b)
  pub is : le a b ≡ true

-- the parameters are at most 2 in size, and left and right lie in the segment and in the interval
pub record Placed (x : Intersection) : Type 0 where
  pub start : AtMost (neg two) x.start
  pub end : AtMost x.end two
  pub from : AtMost (neg two) x.from
  pub to : AtMost x.to two
  pub start_left : AtMost x.start x.left
  pub left_right : AtMost x.left x.right
  pub right_end : AtMost x.right x.end
  pub from_left : AtMost x.from x.left
  pub right_to : AtMost x.right x.to

-- segment and interval are at least 2^-60 long
abbrev pub Long : Intersection → Type 0
Long x = AtMost short_length (sub binary64 x.end x.start) × AtMost short_length (sub binary64 x.to x.from)

-- the largest size of coefficients and waypoints, and at least 2^-400
abbrev pub size_of : Intersection → Float
size_of x = larger_size (larger_size (larger_size (larger_size (larger_size (larger_size (larger_size (larger_size small_size x.first) x.second)
    (x.coefficient 0)) (x.coefficient 1)) (x.coefficient 2)) (x.coefficient 3)) (x.coefficient 4)) (x.coefficient 5)

-- there is a figure, and it is not above s
pub record NotAbove (g : Figure) (s : Float) : Type 0 where
  pub most : Float
  pub is : g ≡ figure most
  pub not_above : lt s most ≡ false
