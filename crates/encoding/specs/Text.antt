-- An f64 as text: 16 upper-case hex digits of its bits, as document 01 has them in the output of `lane`; `NaN` for a NaN, whose bits the
-- language does not see.
use Rattle.std.specs.Prelude.{ℕ, zero, suc, ◌+◌, ◌/◌, ◌%◌, cond, List, [], ◌∷◌, ltb, Float}
use Rattle.std.specs.Float.{binary64}
use Rattle.std.specs.Float.Ieee.{is_nan, to_bits}

-- the ASCII code of a digit below 16: `0` to `9`, then `A` to `F`
abbrev pub digit_of : ℕ → ℕ
digit_of n = cond (ltb n 10) (48 + n) (55 + n)

-- the last k hex digits of n, the most significant first, before what follows
unfoldable pub hex_digits : ℕ → ℕ → List ℕ → List ℕ
hex_digits zero n after = after
hex_digits (suc k) n after = hex_digits k (n / 16) (digit_of (n % 16) ∷ after)

-- the ASCII codes of `NaN`
abbrev pub nan_text : List ℕ
nan_text = 78 ∷ (97 ∷ (78 ∷ []))

unfoldable pub float_text : Float → List ℕ
float_text x = cond (is_nan x) nan_text (hex_digits 16 (to_bits binary64 x) [])
