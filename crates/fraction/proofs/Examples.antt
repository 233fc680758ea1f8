-- Worked examples, by computation: what document 01's definition of an end pair and document 02's request 7 ask of single cases. Document
-- 01's rows for the next number stand in the table of starred lines (`float/specs/Samples`).
use mathlib.Core.Bool.{true}
use mathlib.Core.Path.{◌≡◌, refl}
use native.Mathlib.Omega.{arith}
use lib.Ieee.{Float, add, binary64, climb, div, eq, fin, is_nan, lt, mul, neg, odd, of_bits, of_fields, round, size, span, sum, to_bits, units}
use lib.IntN.{pos}
use Rattle.fraction.specs.DirectedSum.{downward_sum, plain_zero, upward_sum}
use Rattle.fraction.specs.NextNumber.{next_down, next_up}
use Rattle.fraction.specs.Pair.{Contains, add_pairs, divide_pairs, finite_ends, highest, lowest, moved, multiply_pairs, none, outward, pair, point, subtract_pairs}
use Rattle.fraction.specs.Rational.{◌+q◌, at_mostq}
use Rattle.fraction.specs.Value.{fraction}

abbrev one : Float
one = of_bits binary64 0x3ff0_0000_0000_0000

abbrev three : Float
three = of_bits binary64 0x4008_0000_0000_0000

-- the pair of 1 / 3 holds 1 / 3, which no f64 is
pub one_third : Contains (divide_pairs binary64 (point one) (point three)) (fraction (pos 1) 3 (omega arith))
unfolding divide_pairs outward moved finite_ends lowest highest div lt next_up next_down is_nan of_bits of_fields to_bits round size span climb
    units odd at_mostq
one_third = record { low_finite = tt; high_finite = tt; above = tt; below = tt }

-- 1 * 1 is exactly 1, and its ends are moved all the same: "exact results too"
pub one_by_one : multiply_pairs binary64 (point one) (point one) ≡ pair (of_bits binary64 0x3fef_ffff_ffff_ffff)
    (of_bits binary64 0x3ff0_0000_0000_0001)
unfolding multiply_pairs outward moved finite_ends lowest highest mul lt next_up next_down is_nan of_bits of_fields to_bits round size span climb
    units odd
one_by_one = refl

-- ---- request 7
-- what the sums below are computed by
unfoldable pub steps : Unit {0}
unfolding add_pairs subtract_pairs finite_ends downward_sum upward_sum plain_zero at_mostq ◌+q◌ add sum eq neg next_down is_nan of_bits of_fields
    to_bits round size span climb units odd
steps = tt

-- 1 + 1 is exactly 2, and so are its ends
pub one_and_one : add_pairs binary64 (point one) (point one) ≡ point (of_bits binary64 0x4000_0000_0000_0000)
unfolding steps
one_and_one = refl

-- 1 + 2^-60 is no f64: its ends are 1 and the next number up
pub one_and_little : add_pairs binary64 (point one) (point (of_bits binary64 0x3c30_0000_0000_0000)) ≡ pair one
    (of_bits binary64 0x3ff0_0000_0000_0001)
unfolding steps
one_and_little = refl

-- "an exact zero is +0": -0 + -0, and 1 - 1
pub zeros : (add_pairs binary64 (point (fin true 0 (pos 0))) (point (fin true 0 (pos 0))) ≡ point (of_bits binary64 0))
    × (subtract_pairs binary64 (point one) (point one) ≡ point (of_bits binary64 0))
unfolding steps
zeros = (refl, refl)

-- past the largest number there is no pair
pub too_large : add_pairs binary64 (point (of_bits binary64 0x7fef_ffff_ffff_ffff)) (point one) ≡ none
unfolding steps
too_large = refl
