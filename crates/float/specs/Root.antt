-- The square root of a float, as IEEE 754 has it (square_root, clause 5.4.1, and round_ties_to_even, clause 4.3.1): of the numbers of the
-- format the one nearest to the exact root, a tie to the even one. `SquareRoot` says so, how the root rounds being told by comparing
-- squares of exact fractions (document 01); `sqrt_of` is a function that computes it. That each is the other is proved: `proofs/SquareRoot`.
use Rattle.std.specs.Prelude.{◌≡◌, true, false, cond, ◌⊎◌, ℕ, zero, suc, ◌+◌, ◌*◌, ◌/◌, ◌%◌, ◌^◌, T, leb, eqb, pos, Float}
use Rattle.std.proofs.Common.{pow_pos}
use Rattle.std.specs.Float.{nan, inf, fin, Format}
use Rattle.std.specs.Float.Ieee.{low, up, down, size, round, fits, to_bits}
use Rattle.std.specs.Float.Ieee.Scale.{finite}
use Rattle.std.specs.Float.Ieee.Positive.{positive}
use Rattle.fraction.specs.Value.{fraction, value}
use Rattle.fraction.specs.Rational.{ℚ, ◌≤q◌, ◌<q◌, ◌+q◌, ◌*q◌}
use Rattle.fraction.specs.NextNumber.{next_down, next_up}

-- ---- what the square root is
-- the middle between two numbers, squared
abbrev pub middle² : Float → Float → ℚ
middle² a b =
    let m = fraction (pos 1) 2 (pow_pos 1) *q (value a +q value b) in m *q m

-- the last digit of r is 0
abbrev pub Even : Format → Float → Type 0
Even f r = to_bits f r % 2 ≡ 0

-- a is less than b, or equal where a tie goes to r
abbrev pub Before : Format → Float → ℚ → ℚ → Type 0
Before f r a b = (a <q b) ⊎ ((a ≤q b) × Even f r)

-- r is the number nearest to the root of x, a finite number above 0: r is above 0, it and the number after it are finite, and x lies
-- between the squares of the middles between r and its two neighbours
pub record NearestRoot (f : Format) (x r : Float) : Type 0 where
  pub held : T (fits f r)
  pub above : T (positive r)
  pub inside : T (finite (next_up f r))
  pub lower : Before f r (middle² (next_down f r) r) (value x)
  pub upper : Before f r (value x) (middle² r (next_up f r))

-- r is the square root of x. A NaN and every number below 0 give a NaN, a zero gives itself, +infinity gives itself.
unfoldable pub SquareRoot : Format → Float → Float → Type 0
SquareRoot f nan r = r ≡ nan
SquareRoot f (inf true) r = r ≡ nan
SquareRoot f (inf false) r = r ≡ inf false
SquareRoot f (fin s zero e) r = r ≡ fin s zero e
SquareRoot f (fin true (suc m) e) r = r ≡ nan
SquareRoot f (fin false (suc m) e) r = NearestRoot f (fin false (suc m) e) r

-- ---- a function that computes it
-- r or r + 1: the larger whose square is at most n
unfoldable pub grow : ℕ → ℕ → ℕ
grow n r = r + cond (leb (suc r * suc r) n) 1 0

-- the whole part of the root of an n below 4 ^ k, a binary digit at a time
unfoldable pub floor_in : ℕ → ℕ → ℕ
unfolding grow
floor_in zero n = 0
floor_in (suc k) n = grow n (2 * floor_in k (n / 4))

-- the whole part of the root of n
unfoldable pub isqrt : ℕ → ℕ
unfolding floor_in size
isqrt n = floor_in (size n) n

-- 1 where s is less than the root of n
abbrev pub sticky : ℕ → ℕ → ℕ
sticky s n = cond (eqb (s * s) n) 0 1

-- The root of n units, where a unit is the format's smallest number, 2 ^ -low. In units the root is that of n * 2 ^ low: from s to below s
-- + 1.
-- It is handed to the model's rounding as s, or as s and a half where it is not s itself: no number of the format, and no middle of two,
-- lies between s and s + 1, since the root has more digits than the format keeps.
unfoldable pub root_of : Format → ℕ → Float
unfolding isqrt round
root_of f n =
    let s = isqrt (n * 2 ^ low f) in round f false (2 * s + sticky s (n * 2 ^ low f)) (2 * 2 ^ low f)

-- the square root of x, case by case as `SquareRoot` has it
unfoldable pub sqrt_of : Format → Float → Float
unfolding root_of
sqrt_of f nan = nan
sqrt_of f (inf s) = cond s nan (inf s)
sqrt_of f (fin s zero e) = fin s zero e
sqrt_of f (fin s (suc m) e) = cond s nan (root_of f (suc m * up e * 2 ^ low f / down e))
