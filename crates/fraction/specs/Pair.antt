-- Pairs of ends (document 01, "The certified figure"): "For +, -, times and divide: all combinations of ends, each rounded once; lowest and
-- highest taken; then every finite end is moved to the next number outward, exact results too. An end not finite before or after the move,
-- or a divisor whose low end is not above 0, gives no figure." Since document 02, request 7, this speaks of times and divide; for + and -
-- "the low end becomes the largest f64 not above the exact result and the high end the smallest not below; an exact zero is +0"
-- (DirectedSum).
use Rattle.std.specs.Prelude.{Bool, ◌&&◌, cond, false, true, T, Float}
use Rattle.std.specs.Float.{Format}
use Rattle.std.specs.Float.Ieee.{div, lt, mul, neg, of_bits}
use Rattle.std.specs.Float.Ieee.Scale.{finite}
use Rattle.fraction.specs.DirectedSum.{downward_sum, upward_sum}
use Rattle.fraction.specs.NextNumber.{next_down, next_up}
use Rattle.fraction.specs.Rational.{◌≤q◌, ℚ}
use Rattle.fraction.specs.Value.{absolute_float, value}

-- a low end and a high end, or none
pub data Ends : Type 0 where
  pair : Float → Float → Ends
  none : Ends

-- whether there is a pair
abbrev pub is_pair : Ends → Bool
is_pair (pair a b) = true
is_pair none = false

-- "enters as a pair of equal ends"
abbrev pub point : Float → Ends
point x = pair x x

-- the lower and the higher of two; the first, where neither is lower
unfoldable pub lowest : Float → Float → Float
lowest x y = cond (lt y x) y x

unfoldable pub highest : Float → Float → Float
highest x y = cond (lt x y) y x

-- the lowest and the highest of four
abbrev pub lowest_of : Float → Float → Float → Float → Float
lowest_of p q r s = lowest (lowest p q) (lowest r s)

abbrev pub highest_of : Float → Float → Float → Float → Float
highest_of p q r s = highest (highest p q) (highest r s)

-- the two ends, if both are finite
unfoldable pub finite_ends : Float → Float → Ends
finite_ends a b = cond (finite a && finite b) (pair a b) none

-- each end moved to the next number outward; none, where an end is then not finite
unfoldable pub moved : Format → Ends → Ends
moved f (pair a b) = finite_ends (next_down f a) (next_up f b)
moved f none = none

-- the step that products and quotients share: of four rounded combinations the lowest and the highest, if finite, moved outward
unfoldable pub outward : Format → Float → Float → Float → Float → Ends
outward f p q r s = moved f (finite_ends (lowest_of p q r s) (highest_of p q r s))

-- x + y: the sum of the low ends downward and that of the high ends upward, if both are finite
unfoldable pub add_pairs : Format → Ends → Ends → Ends
add_pairs f none y = none
add_pairs f (pair a b) none = none
add_pairs f (pair a b) (pair c d) = finite_ends (downward_sum f a c) (upward_sum f b d)

-- x - y: the same of x and -y, which lies from -d to -c
unfoldable pub subtract_pairs : Format → Ends → Ends → Ends
subtract_pairs f none y = none
subtract_pairs f (pair a b) none = none
subtract_pairs f (pair a b) (pair c d) = finite_ends (downward_sum f a (neg d)) (upward_sum f b (neg c))

-- x * y: all combinations of ends, each rounded once, then the shared step
unfoldable pub multiply_pairs : Format → Ends → Ends → Ends
multiply_pairs f none y = none
multiply_pairs f (pair a b) none = none
multiply_pairs f (pair a b) (pair c d) = outward f (mul f a c) (mul f a d) (mul f b c) (mul f b d)

-- x / y: the same; none, where the divisor's low end is not above 0
unfoldable pub divide_pairs : Format → Ends → Ends → Ends
divide_pairs f none y = none
divide_pairs f (pair a b) none = none
divide_pairs f (pair a b) (pair c d) = cond (lt (of_bits f 0) c) (outward f (div f a c) (div f a d) (div f b c) (div f b d)) none

-- "the largest absolute end"
unfoldable pub largest_absolute : Float → Float → Float
largest_absolute a b = highest (absolute_float a) (absolute_float b)

-- x lies between two finite ends
pub record Between (a b : Float) (x : ℚ) : Type 0 where
  pub low_finite : T (finite a)
  pub high_finite : T (finite b)
  pub above : value a ≤q x
  pub below : x ≤q value b

-- x lies in the pair
abbrev pub Contains : Ends → ℚ → Type 0
Contains (pair a b) x = Between a b x
Contains none x = ⊥
