-- The operations that the certified figure is computed with, over any type of numbers. Its formulas (Intersection) are written once over
-- them: at `ends` they are document 01's, in pairs of ends; at exact fractions they are what these pairs enclose.
use Rattle.std.specs.Prelude.{ℕ, false, Float}
use Rattle.std.specs.Float.{binary64}
use Rattle.std.specs.Float.Ieee.{round}
use Rattle.fraction.specs.Pair.{Ends, add_pairs, divide_pairs, finite_ends, multiply_pairs, point, subtract_pairs}

pub record Operations (A : Type 0) : Type 0 where
  -- a number that is read
  pub number : Float → A
  -- a binomial, 0 or 1
  pub whole : ℕ → A
  pub plus : A → A → A
  pub minus : A → A → A
  pub times : A → A → A
  pub over : A → A → A

-- End pairs: "Every number read, and every binomial, 0 and 1 below, enters as a pair of equal ends." A number read that is not finite is no
-- pair:
-- "An end not finite .. gives no figure".
abbrev pub ends : Operations Ends
ends =
    record {
      number = λ x. finite_ends x x;
      whole = λ n. point (round binary64 false n 1);
      plus = add_pairs binary64;
      minus = subtract_pairs binary64;
      times = multiply_pairs binary64;
      over = divide_pairs binary64;
    }
