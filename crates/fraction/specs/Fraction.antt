-- Exact fractions (document 01: "An exact fraction is a whole number over a whole number above 0, compared by cross products"). Public
-- theorems can be stated on these; they are proved in ℚ (Rational), where equal fractions are equal.
use Rattle.std.specs.Prelude.{Bool, ◌≡◌, ◌*◌, ◌+◌, ◌<◌, suc, zero, ℕ, leb, ◌*ℤ◌, ◌+ℤ◌, negsuc, neg_ℤ, pos, ℤ}
use Rattle.std.proofs.Common.{mul-pos, arith}
use Rattle.fraction.specs.Integer.{◌≤z◌, negative_part, positive_part}

-- a whole number over a whole number above 0
pub record Fraction : Type 0 where
  pub numerator : ℤ
  pub denominator : ℕ
  pub positive : 0 < denominator

-- a / c is b / d where a * d is b * c
infix 4 ◌≈◌ ◌≤f◌
abbrev pub ◌≈◌ : Fraction → Fraction → Type 0
x ≈ y = x.numerator *ℤ pos y.denominator ≡ y.numerator *ℤ pos x.denominator

-- a / c ≤ b / d where a * d ≤ b * c
abbrev pub ◌≤f◌ : Fraction → Fraction → Type 0
x ≤f y = x.numerator *ℤ pos y.denominator ≤z y.numerator *ℤ pos x.denominator

-- the same, as a test
abbrev pub fraction_at_most : Fraction → Fraction → Bool
fraction_at_most x y = leb (positive_part (x.numerator *ℤ pos y.denominator) + negative_part (y.numerator *ℤ pos x.denominator))
    (positive_part (y.numerator *ℤ pos x.denominator) + negative_part (x.numerator *ℤ pos y.denominator))

-- a / c + b / d is (a * d + b * c) / (c * d)
abbrev pub add_fractions : Fraction → Fraction → Fraction
add_fractions x y = record {
  numerator = x.numerator *ℤ pos y.denominator +ℤ y.numerator *ℤ pos x.denominator;
  denominator = x.denominator * y.denominator;
  positive = mul-pos x.positive y.positive;
}

-- -(a / c)
abbrev pub negate_fraction : Fraction → Fraction
negate_fraction x = record { numerator = neg_ℤ x.numerator; denominator = x.denominator; positive = x.positive }

-- x - y
abbrev pub subtract_fractions : Fraction → Fraction → Fraction
subtract_fractions x y = add_fractions x (negate_fraction y)

-- (a / c) * (b / d) is (a * b) / (c * d)
abbrev pub multiply_fractions : Fraction → Fraction → Fraction
multiply_fractions x y = record {
  numerator = x.numerator *ℤ y.numerator;
  denominator = x.denominator * y.denominator;
  positive = mul-pos
      x.positive y.positive;
}

-- z / 1
abbrev pub whole_fraction : ℤ → Fraction
whole_fraction z = record { numerator = z; denominator = 1; positive = omega arith }

-- 1 / x: the denominator over the numerator, with the numerator's sign; and 0 for 0
abbrev pub inverse_fraction : ℤ → ℕ → Fraction
inverse_fraction (pos zero) d = record { numerator = pos 0; denominator = 1; positive = omega arith }
inverse_fraction (pos (suc n)) d = record { numerator = pos d; denominator = suc n; positive = omega arith }
inverse_fraction (negsuc n) d = record { numerator = neg_ℤ (pos d); denominator = suc n; positive = omega arith }

-- x / y, for a y above 0 (and 0 for a y of 0)
abbrev pub divide_fractions : Fraction → Fraction → Fraction
divide_fractions x y = multiply_fractions x (inverse_fraction y.numerator y.denominator)

-- f 0 + .. + f n
abbrev pub sum_fractions : ℕ → (ℕ → Fraction) → Fraction
sum_fractions zero f = f zero
sum_fractions (suc n) f = add_fractions (f zero) (sum_fractions n (λ i. f (suc i)))

-- u ^ k
abbrev pub power_fraction : Fraction → ℕ → Fraction
power_fraction u zero = whole_fraction (pos 1)
power_fraction u (suc k) = multiply_fractions u (power_fraction u k)
