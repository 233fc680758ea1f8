-- The whole number of a float's bits.
use Rattle.std.specs.Prelude.{ℕ, ◌+◌, ◌*◌, ◌/◌, ◌^◌}
use Rattle.fraction.specs.Magnitude.{magnitude}

-- the number with the bits b, whose sign is clear, a whole number of units of 2 ^ -1074, to the nearest whole number, halves up
unfoldable pub whole_place : ℕ → ℕ
whole_place b = (2 * magnitude (2 ^ 52) b + 2 ^ 1074) / (2 * 2 ^ 1074)
