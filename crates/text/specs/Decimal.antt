-- Whole numbers in decimal: document 01, "Fields: ..", and document 02, request 13, "one decimal number to a line". Text is a list of ASCII
-- codes.
use Rattle.std.specs.Prelude.{ℕ, zero, suc, ◌+◌, ◌/◌, ◌%◌, cond, List, [], ◌∷◌, ◌++◌, ltb, ℤ, pos, negsuc}

-- a whole number in decimal, without zeros in front, of at most k digits
unfoldable pub decimal_in : ℕ → ℕ → List ℕ
decimal_in zero n = []
decimal_in (suc k) n = cond (ltb n 10) ((48 + n) ∷ []) (decimal_in k (n / 10) ++ ((48 + n % 10) ∷ []))

-- 64 bits have at most 20 digits
abbrev pub decimal_of : ℕ → List ℕ
decimal_of n = decimal_in 20 n

-- the same with a sign before a number below 0
abbrev pub whole_text : ℤ → List ℕ
whole_text (pos n) = decimal_of n
whole_text (negsuc n) = 45 ∷ decimal_of (suc n)
