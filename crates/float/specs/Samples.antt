-- Document 01's starred lines ("Lanes to try") about the float leaves, as the rows of a table. A line's answer is a list of whole numbers,
-- a float standing by its bits, so that lines about other definitions can join the table.
use Rattle.std.specs.Prelude.{List, [], ◌∷◌, ℕ, Float}
use Rattle.std.specs.Float.{binary64}
use Rattle.std.specs.Float.Ieee.{to_bits, of_bits}
use Rattle.fraction.specs.NextNumber.{next_up}
use Rattle.float.specs.Root.{sqrt_of}

-- what the definitions give, and what document 01 says
pub record Line : Type 0 where
  pub given : List ℕ
  pub told : List ℕ

-- f of the float that has the bits x is the float that has the bits y
abbrev float : (Float → Float) → ℕ → ℕ → Line
float f x y = record { given = to_bits binary64 (f (of_bits binary64 x)) ∷ []; told = y ∷ [] }

unfoldable pub float_lines : List Line
unfolding next_up sqrt_of to_bits of_bits
float_lines =
    -- the root of 4 is 2
    float (sqrt_of binary64) 0x4010_0000_0000_0000 0x4000_0000_0000_0000
    -- the root of 2 ^ -1074 is 2 ^ -537
    ∷ float (sqrt_of binary64) 1 0x1e60_0000_0000_0000
    -- the next above 1 is 1 + 2 ^ -52
    ∷ float (next_up binary64) 0x3ff0_0000_0000_0000 0x3ff0_0000_0000_0001
    -- the next above -0 is 2 ^ -1074
    ∷ float (next_up binary64) 0x8000_0000_0000_0000 1
    ∷ []
