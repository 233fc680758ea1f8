-- The operations that an algorithm uses, over any type of numbers, and those of an `f64`. A definition over `Arith A` is written once: the
-- code is proved equal to its instance at `floats`, and Piegl and Tiller's definitions to its instance at exact fractions.
use Rattle.std.specs.Prelude.{Bool, false, ℕ, Float}
use Rattle.std.specs.Float.{nan, binary64}
use Rattle.std.specs.Float.Ieee.{add, sub, mul, div, le, of_bits, round}

pub record Arith (A : Type 0) : Type 0 where
  -- what a read outside a list gives
  pub outside : A
  pub zero : A
  pub one : A
  pub plus : A → A → A
  pub minus : A → A → A
  pub times : A → A → A
  pub over : A → A → A
  -- the literal n / d
  pub literal : ℕ → ℕ → A
  pub at_most : A → A → Bool

-- the source's `f64`: each operation rounds once, as IEEE 754 says
abbrev pub floats : Arith Float
floats =
    record {
      outside = nan;
      zero = of_bits binary64 0;
      one = of_bits binary64 0x3ff0_0000_0000_0000;
      plus = add binary64;
      minus = sub binary64;
      times = mul binary64;
      over = div binary64;
      literal = round binary64 false;
      at_most = le;
    }
