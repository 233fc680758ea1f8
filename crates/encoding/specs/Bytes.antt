-- Numbers of bytes, low byte first, as document 01 has them in a job.
use Rattle.std.specs.Prelude.{ℕ, zero, suc, ◌+◌, ◌*◌, List, [], ◌∷◌, ◌++◌, Float}
use Rattle.std.specs.Float.{binary64}
use Rattle.std.specs.Float.Ieee.{of_bits}
use Rattle.window.specs.Window.{window}

-- the whole number of the bytes
unfoldable pub low_first : List ℕ → ℕ
low_first [] = 0
low_first (b ∷ bs) = b + 256 * low_first bs

-- the f64 whose bit pattern the bytes are: a NaN for any NaN's pattern
abbrev pub float_of : List ℕ → Float
float_of bytes = of_bits binary64 (low_first bytes)

-- n values of eight bytes each, one after the other: value i is that of the bytes from 8 * i up to 8 * i + 8
unfoldable pub each_of : {A : Type 0} → (List ℕ → A) → ℕ → List ℕ → List A
each_of value zero bytes = []
each_of value (suc i) bytes = each_of value i bytes ++ (value (window (8 * i) (8 * i + 8) bytes) ∷ [])

-- whole numbers, and f64s
abbrev pub wholes_of : ℕ → List ℕ → List ℕ
wholes_of n bytes = each_of low_first n bytes

abbrev pub floats_of : ℕ → List ℕ → List Float
floats_of n bytes = each_of float_of n bytes
