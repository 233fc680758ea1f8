-- Lines, and the word that a refusal's line begins with. Text is a list of ASCII codes.
use Rattle.std.specs.Prelude.{ℕ, List, [], ◌∷◌, ◌++◌}

-- the end of a line
abbrev pub newline : List ℕ
newline = 10 ∷ []

abbrev pub line : List ℕ → List ℕ
line text = text ++ newline

-- "one blank between"
abbrev pub field : List ℕ → List ℕ
field text = 32 ∷ text

-- `refused`
abbrev pub refused_word : List ℕ
refused_word = 114 ∷ (101 ∷ (102 ∷ (117 ∷ (115 ∷ (101 ∷ (100 ∷ []))))))
