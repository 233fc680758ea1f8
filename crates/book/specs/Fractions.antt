-- Exact fractions as the numbers of the generic definitions of crate `bspline`: what `floats` is for the code, `fractions` is for the book.
use Rattle.std.specs.Prelude.{pos}
use Rattle.arith.specs.Operations.{Arith}
use Rattle.fraction.specs.Rational.{ℚ, wholeq, ◌+q◌, ◌-q◌, ◌*q◌, ◌/q◌, at_mostq, 𝟘, 𝟙}

-- exact arithmetic with a given division
abbrev pub fractions_by : (ℚ → ℚ → ℚ) → Arith ℚ
fractions_by divide =
    record {
      outside = 𝟘;
      zero = 𝟘;
      one = 𝟙;
      plus = ◌+q◌;
      minus = ◌-q◌;
      times = ◌*q◌;
      over = divide;
      literal = λ n d. divide (wholeq (pos n)) (wholeq (pos d));
      at_most = at_mostq;
    }

-- With the quotient of fractions, where 0/0 is 0: the book's convention for the quotients of eq. 2.5 (section 2.2).
abbrev pub fractions : Arith ℚ
fractions = fractions_by ◌/q◌
