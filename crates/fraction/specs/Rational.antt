-- The rational numbers ℚ: exact fractions, with those that are equal by cross products made equal. So an equation of fractions is one
-- with ≡, and the ring solver (Ring) and the order lemmas (Order) apply.
use Rattle.std.specs.Prelude.{Bool, cond, not, T, pos, ℤ}
use Rattle.std.proofs.Math.Bool.{Bool-set}
use std.Quotient.{/_rec, /_rec₂, /_set, cls, eq/}
use Rattle.fraction.specs.Fraction.{Fraction, ◌≈◌, add_fractions, fraction_at_most, inverse_fraction, multiply_fractions, negate_fraction, whole_fraction}
use Rattle.fraction.specs.WellDefined.{add_respects_left, add_respects_right, inverse_respects, le_respects_left, le_respects_right, mul_respects_left, mul_respects_right, neg_respects}

-- the fractions, up to ≈
abbrev pub ℚ : Type 0
ℚ = std.Quotient.◌/◌ Fraction ◌≈◌

-- z / 1
abbrev pub wholeq : ℤ → ℚ
wholeq z = cls (whole_fraction z)

-- 0 and 1
abbrev pub 𝟘 : ℚ
𝟘 = wholeq (pos 0)

abbrev pub 𝟙 : ℚ
𝟙 = wholeq (pos 1)

infixl 6 ◌+q◌ ◌-q◌
infixl 7 ◌*q◌ ◌/q◌
-- the operations of Fraction
unfoldable pub ◌+q◌ : ℚ → ℚ → ℚ
unfolding /_rec₂
◌+q◌ =
    /_rec₂ /_set (λ a b. cls (add_fractions a b))
    (λ a a' b h. eq/ (add_fractions a b) (add_fractions a' b) (add_respects_left a a' b h)) (λ a b b' h. eq/ (add_fractions a b)
    (add_fractions a b') (add_respects_right a b b' h))

unfoldable pub ◌*q◌ : ℚ → ℚ → ℚ
unfolding /_rec₂
◌*q◌ =
    /_rec₂ /_set (λ a b. cls (multiply_fractions a b))
    (λ a a' b h. eq/ (multiply_fractions a b) (multiply_fractions a' b) (mul_respects_left a a' b h))
    (λ a b b' h. eq/ (multiply_fractions a b) (multiply_fractions a b') (mul_respects_right a b b' h))

unfoldable pub negq : ℚ → ℚ
unfolding /_rec
negq = /_rec /_set (λ a. cls (negate_fraction a)) (λ a a' h. eq/ (negate_fraction a) (negate_fraction a') (neg_respects a a' h))

-- x - y
abbrev pub ◌-q◌ : ℚ → ℚ → ℚ
x -q y = x +q negq y

-- 1 / x; the inverse of 0 is 0
unfoldable pub inverse : ℚ → ℚ
unfolding /_rec
inverse =
    /_rec /_set (λ a. cls (inverse_fraction a.numerator a.denominator))
    (λ a b h. eq/ (inverse_fraction a.numerator a.denominator) (inverse_fraction b.numerator b.denominator)
    (inverse_respects a.numerator a.denominator a.positive b.numerator b.denominator b.positive h))

-- x / y; a quotient by 0 is 0
abbrev pub ◌/q◌ : ℚ → ℚ → ℚ
x /q y = x *q inverse y

-- whether x ≤ y, by cross products
unfoldable pub at_mostq : ℚ → ℚ → Bool
unfolding /_rec₂
at_mostq = /_rec₂ Bool-set fraction_at_most le_respects_left le_respects_right

infix 4 ◌≤q◌ ◌<q◌
-- x ≤ y, and x < y
abbrev pub ◌≤q◌ : ℚ → ℚ → Type 0
x ≤q y = T (at_mostq x y)

abbrev pub ◌<q◌ : ℚ → ℚ → Type 0
x <q y = T (not (at_mostq y x))

-- y is above 0
abbrev pub Above : ℚ → Type 0
Above y = 𝟘 <q y

-- |x|
unfoldable pub absolute : ℚ → ℚ
absolute x = cond (at_mostq 𝟘 x) x (negq x)
