-- What the quick computation's numbers stand for: a spread has the ends of a pair, where all numbers are of a known size.
use Rattle.std.specs.Prelude.{◌^◌, ℕ, ◌≡◌, T, false, Float, pos}
use Rattle.std.specs.Float.{binary64, fin}
use Rattle.std.specs.Float.Ieee.{fits, of_bits}
use Rattle.std.specs.Float.Ieee.Scale.{finite}
use Rattle.fraction.specs.DirectedSum.{plain_zero, upward_sum}
use Rattle.fraction.specs.Pair.{Ends, lowest, pair}
use Rattle.fraction.specs.Rational.{◌≤q◌, negq, wholeq, ℚ}
use Rattle.fraction.specs.Value.{value}
use Rattle.pairs.specs.Structs.{largest_number}
use Rattle.pairs.specs.declared.spread.Spread.{Spread}

-- 2^a
abbrev pub power_of_two : ℕ → ℚ
power_of_two a = wholeq (pos (2 ^ a))

-- and as a number
abbrev pub power : ℕ → Float
power a = fin false 1 (pos a)

-- x is a finite f64, at most 2^a in size
pub record Number (a : ℕ) (x : Float) : Type 0 where
  pub is_double : T (fits binary64 x)
  pub is_finite : T (finite x)
  pub at_least : negq (power_of_two a) ≤q value x
  pub at_most : value x ≤q power_of_two a

-- x, but the largest number for what is not below it, and +0 for either zero
abbrev pub bounded : Float → Float
bounded x = plain_zero binary64 (lowest largest_number x)

-- minus the shortest length that is divided by: -2^-60
abbrev pub shortest : Float
shortest = of_bits binary64 0xbc30_0000_0000_0000

-- r is the exact x + y rounded upward, with either zero
abbrev pub UpwardSum : Float → Float → Float → Type 0
UpwardSum x y r = T (fits binary64 r) × (plain_zero binary64 r ≡ upward_sum binary64 x y)

-- e is a pair, and s has its ends, the low one with its sign turned; a zero's sign is left free. All are at most 2^a in size.
pub record Stands (a : ℕ) (e : Ends) (s : Spread) : Type 0 where
  pub low : Float
  pub high : Float
  pub is : e ≡ pair low high
  pub low_number : Number a low
  pub high_number : Number a high
  pub below_number : Number a s.below
  pub above_number : Number a s.above
  pub below_value : value s.below ≡ negq (value low)
  pub above_value : value s.above ≡ value high
  pub ordered : value low ≤q value high
