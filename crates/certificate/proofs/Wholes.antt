-- The binomials, as the code writes them.
use mathlib.Core.Bool.{false}
use mathlib.Core.Path.{◌≡◌, refl}
use Prim.Native.Nat.{ℕ}
use lib.Ieee.{binary64, of_bits, round}
use lib.Ieee.Bits.{of_bits-fits}
use Rattle.fraction.specs.Rational.{◌≤q◌, at_mostq, negq, 𝟘, 𝟙}
use Rattle.fraction.specs.Value.{value}
use Rattle.pairs.specs.Spreads.{Number}

-- the pattern b is the whole number n's, from 1 to 10
pub record Whole (b n : ℕ) : Type 0 where
  pub number : Number 4 (of_bits binary64 b)
  pub not_negative : 𝟘 ≤q value (of_bits binary64 b)
  pub from_one : 𝟙 ≤q value (of_bits binary64 b)
  pub is : of_bits binary64 b ≡ round binary64 false n 1

pub one : Whole 0x3ff0_0000_0000_0000 1
unfolding of_bits round at_mostq negq
one =
    record {
      number = record { is_double = of_bits-fits binary64 0x3ff0_0000_0000_0000; is_finite = tt; at_least = tt; at_most = tt };
      not_negative = tt;
      from_one = tt;
      is = refl;
    }

pub two : Whole 0x4000_0000_0000_0000 2
unfolding of_bits round at_mostq negq
two =
    record {
      number = record { is_double = of_bits-fits binary64 0x4000_0000_0000_0000; is_finite = tt; at_least = tt; at_most = tt };
      not_negative = tt;
      from_one = tt;
      is = refl;
    }

pub three : Whole 0x4008_0000_0000_0000 3
unfolding of_bits round at_mostq negq
three =
    record {
      number = record { is_double = of_bits-fits binary64 0x4008_0000_0000_0000; is_finite = tt; at_least = tt; at_most = tt };
      not_negative = tt;
      from_one = tt;
      is = refl;
    }

pub four : Whole 0x4010_0000_0000_0000 4
unfolding of_bits round at_mostq negq
four =
    record {
      number = record { is_double = of_bits-fits binary64 0x4010_0000_0000_0000; is_finite = tt; at_least = tt; at_most = tt };
      not_negative = tt;
      from_one = tt;
      is = refl;
    }

pub five : Whole 0x4014_0000_0000_0000 5
unfolding of_bits round at_mostq negq
five =
    record {
      number = record { is_double = of_bits-fits binary64 0x4014_0000_0000_0000; is_finite = tt; at_least = tt; at_most = tt };
      not_negative = tt;
      from_one = tt;
      is = refl;
    }

pub six : Whole 0x4018_0000_0000_0000 6
unfolding of_bits round at_mostq negq
six =
    record {
      number = record { is_double = of_bits-fits binary64 0x4018_0000_0000_0000; is_finite = tt; at_least = tt; at_most = tt };
      not_negative = tt;
      from_one = tt;
      is = refl;
    }

pub ten : Whole 0x4024_0000_0000_0000 10
unfolding of_bits round at_mostq negq
ten =
    record {
      number = record { is_double = of_bits-fits binary64 0x4024_0000_0000_0000; is_finite = tt; at_least = tt; at_most = tt };
      not_negative = tt;
      from_one = tt;
      is = refl;
    }

-- 1 has the size 2^0
pub unit : Number 0 (of_bits binary64 0x3ff0_0000_0000_0000)
unfolding of_bits at_mostq negq
unit = record { is_double = of_bits-fits binary64 0x3ff0_0000_0000_0000; is_finite = tt; at_least = tt; at_most = tt }
