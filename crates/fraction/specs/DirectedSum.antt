-- Sums of floats rounded downward and upward (document 02, request 7): "the low end becomes the largest f64 not above the exact result and
-- the high end the smallest not below; an exact zero is +0."
use Rattle.std.specs.Prelude.{Bool, ◌&&◌, cond, false, not, ◌≡◌, T, Float}
use Rattle.std.specs.Float.{Format, fin, inf, nan}
use Rattle.std.specs.Float.Ieee.{add, eq, fits, neg, of_bits}
use Rattle.std.specs.Float.Ieee.Scale.{finite}
use Rattle.fraction.specs.NextNumber.{next_down}
use Rattle.fraction.specs.Rational.{◌+q◌, ◌≤q◌, at_mostq, ℚ, 𝟘}
use Rattle.fraction.specs.Value.{BoundsAbove, BoundsBelow, value}

-- ---- what they are, with nothing of how they are found
-- w is "the largest f64 not above" z, and +0 if it is a zero. Below the lowest finite number it is -∞.
pub record Downward (f : Format) (z : ℚ) (w : Float) : Type 0 where
  pub of_format : T (fits f w)
  pub not_above : BoundsBelow w z
  pub largest : (v : Float) → T (fits f v) → T (finite v) → value v ≤q z → BoundsAbove w (value v)
  pub zero : T (finite w) → value w ≡ 𝟘 → w ≡ of_bits f 0

-- w is "the smallest not below" z, and +0 if it is a zero. Above the largest finite number it is +∞.
pub record Upward (f : Format) (z : ℚ) (w : Float) : Type 0 where
  pub of_format : T (fits f w)
  pub not_below : BoundsAbove w z
  pub smallest : (v : Float) → T (fits f v) → T (finite v) → z ≤q value v → BoundsBelow w (value v)
  pub zero : T (finite w) → value w ≡ 𝟘 → w ≡ of_bits f 0

-- ---- how they are found
-- whether x is above z: +∞ is, -∞ and a NaN are not
abbrev pub is_above : Float → ℚ → Bool
is_above nan z = false
is_above (inf s) z = not s
is_above (fin s m e) z = not (at_mostq (value (fin s m e)) z)

-- +0 for either zero
unfoldable pub plain_zero : Format → Float → Float
plain_zero f x = cond (eq x (of_bits f 0)) (of_bits f 0) x

-- x + y downward: the rounded sum, or the next number down where that is above the exact one. Where x or y is not finite, it is what +
-- gives.
unfoldable pub downward_sum : Format → Float → Float → Float
downward_sum f x y =
    plain_zero f (cond (finite x && finite y && is_above (add f x y) (value x +q value y)) (next_down f (add f x y)) (add f x y))

-- x + y upward: minus the sum downward of -x and -y
unfoldable pub upward_sum : Format → Float → Float → Float
upward_sum f x y = plain_zero f (neg (downward_sum f (neg x) (neg y)))
