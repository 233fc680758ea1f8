-- Text that is gathered in a buffer and written out when it is full: oracle/README.md has the form of the lines.
use Rattle.std.specs.Prelude.{ℕ, zero, suc, ◌+◌, ◌/◌, ◌%◌, min, cond, List, [], ◌∷◌, ◌++◌, length, nat_lt, slice_set, Float}
use Rattle.encoding.specs.Text.{float_text}

-- a buffer, and where its next byte goes, after one byte more: a full buffer is begun anew
unfoldable pub put : List ℕ × ℕ → ℕ → List ℕ × ℕ
put g b = cond (nat_lt g.1 (length g.0)) (slice_set g.0 g.1 b, g.1 + 1) (slice_set g.0 0 b, min 1 (length g.0))

-- the same after some bytes more
unfoldable pub printed : List ℕ × ℕ → List ℕ → List ℕ × ℕ
printed g [] = g
printed g (b ∷ bs) = printed (put g b) bs

-- the decimal digits of a number that has at most k
unfoldable pub decimal_digits : ℕ → ℕ → List ℕ
decimal_digits zero n = []
decimal_digits (suc k) n = cond (nat_lt n 10) ((48 + n) ∷ []) (decimal_digits k (n / 10) ++ ((48 + n % 10) ∷ []))

-- a blank, and a whole number below 2^64 in decimal
abbrev pub whole_text : ℕ → List ℕ
whole_text n = 32 ∷ decimal_digits 20 n

-- a blank, and an f64 as 16 hex digits, or `NaN`
abbrev pub cell_text : Float → List ℕ
cell_text x = 32 ∷ float_text x

unfoldable pub cells_text : List Float → List ℕ
cells_text [] = []
cells_text (x ∷ xs) = cell_text x ++ cells_text xs

-- the end of a line
abbrev pub end_text : List ℕ
end_text = 10 ∷ []

-- ` refused`
abbrev pub refused_word : List ℕ
refused_word = 32 ∷ (114 ∷ (101 ∷ (102 ∷ (117 ∷ (115 ∷ (101 ∷ (100 ∷ [])))))))

-- that, the refusal's number, and the end of the line
unfoldable pub refused_text : ℕ → List ℕ
refused_text number = refused_word ++ (whole_text number ++ end_text)

-- `damaged at byte`
abbrev pub damaged_words : List ℕ
damaged_words = 100 ∷ (97 ∷ (109 ∷ (97 ∷ (103 ∷ (101 ∷ (100 ∷ (32 ∷ (97 ∷ (116 ∷ (32 ∷ (98 ∷ (121 ∷ (116 ∷ (101 ∷ []))))))))))))))

-- those, the place of the case that does not read, and the end of the line
unfoldable pub damaged_text : ℕ → List ℕ
damaged_text place = damaged_words ++ (whole_text place ++ end_text)
