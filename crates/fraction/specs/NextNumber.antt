-- IEEE 754's next_up and next_down (5.3.1), from the bits, for every value. As a number, a pattern is its place among the numbers of its
-- sign:
-- from 0 on up to +∞, and from the sign's weight `top f`, which is -0, on up to -∞.
use Rattle.std.specs.Prelude.{cond, ◌*◌, ◌+◌, ◌-◌, suc, ℕ, T, eqb, ltb, Float}
use Rattle.std.specs.Float.{Format, nan}
use Rattle.std.specs.Float.Ieee.{fits, hid, is_nan, le, lt, of_bits, ones, to_bits, top}

-- the pattern of the next number up: one more for a number that is not negative, up to +∞, which stays; from -0 to the smallest number
-- above 0; one less for a negative number
abbrev pub up_bits : Format → ℕ → ℕ
up_bits f b = cond (ltb b (ones f * hid f)) (suc b) (cond (ltb b (top f)) b (cond (eqb b (top f)) 1 (b - 1)))

-- the pattern of the next number down: from +0 to the largest number below 0; one less for a positive number; one more for a negative
-- number or -0, up to -∞, which stays
abbrev pub down_bits : Format → ℕ → ℕ
down_bits f b = cond (eqb b 0) (suc (top f)) (cond (ltb b (top f)) (b - 1) (cond (ltb b (top f + ones f * hid f)) (suc b) b))

-- the least number above x; NaN for NaN, +∞ for +∞ and for the largest number
unfoldable pub next_up : Format → Float → Float
next_up f x = cond (is_nan x) nan (of_bits f (up_bits f (to_bits f x)))

-- the greatest number below x; NaN for NaN, -∞ for -∞ and for the lowest number
unfoldable pub next_down : Format → Float → Float
next_down f x = cond (is_nan x) nan (of_bits f (down_bits f (to_bits f x)))

-- ---- what they are, by the tests `lt` and `le`: proved in `proofs/Adjacent`. An infinity counts as a number here, as it does for the
-- tests.
-- y is the least number above x: it is above x, and at or below every w of the format that is above x
abbrev pub LeastAbove : Format → Float → Float → Type 0
LeastAbove f x y = T (lt x y) × ((w : Float) → T (fits f w) → T (lt x w) → T (le y w))

-- y is the greatest number below x
abbrev pub GreatestBelow : Format → Float → Float → Type 0
GreatestBelow f x y = T (lt y x) × ((w : Float) → T (fits f w) → T (lt w x) → T (le w y))
