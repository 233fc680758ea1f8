-- The operations of ℚ are those of the fractions as they are written.
use mathlib.Core.Path.{◌≡◌, refl}
use std.Quotient.{cls}
use Rattle.fraction.specs.Fraction.{Fraction, add_fractions, divide_fractions, multiply_fractions, subtract_fractions}
use Rattle.fraction.specs.Rational.{◌*q◌, ◌+q◌, ◌-q◌, ◌/q◌, inverse, negq}

pub sum_written : (x y : Fraction) → cls x +q cls y ≡ cls (add_fractions x y)
unfolding ◌+q◌
sum_written x y = refl

pub difference_written : (x y : Fraction) → cls x -q cls y ≡ cls (subtract_fractions x y)
unfolding ◌+q◌ negq
difference_written x y = refl

pub product_written : (x y : Fraction) → cls x *q cls y ≡ cls (multiply_fractions x y)
unfolding ◌*q◌
product_written x y = refl

pub quotient_written : (x y : Fraction) → cls x /q cls y ≡ cls (divide_fractions x y)
unfolding ◌*q◌ inverse
quotient_written x y = refl
