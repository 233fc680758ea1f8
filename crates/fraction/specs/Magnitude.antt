-- The values of a binary format in the order of their bit patterns.
use Rattle.std.specs.Prelude.{◌*◌, ◌-◌, ◌/◌, ◌^◌, ℕ}

-- The magnitude of the finite pattern b with the sign clear, in units of the format's smallest number; h is the weight of the exponent's
-- field.
-- b = k * h + q stands for q * 2 ^ k, where h ≤ q < 2 * h, or k = 0 and q < h (IEEE 754, 3.4).
abbrev pub magnitude : ℕ → ℕ → ℕ
magnitude h b = (b - (b / h - 1) * h) * 2 ^ (b / h - 1)
