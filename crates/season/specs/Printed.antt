-- The text of a run: document 02, request 13, "one decimal number to a line in this order"; "`none` for lowest and highest"; "`refused 30`
-- and no totals". Text is a list of ASCII codes.
use Rattle.std.specs.Prelude.{List, [], ◌∷◌, ◌++◌, ℕ, ℤ}
use Rattle.std.proofs.Math.Option.{Option, some, none}
use Rattle.text.specs.Decimal.{decimal_of, whole_text}
use Rattle.text.specs.Lines.{line, field, refused_word}
use Rattle.lane_totals.specs.Totals.{Totals}
use Rattle.season.specs.Files.{run_of}

-- `none`
abbrev pub none_word : List ℕ
none_word = 110 ∷ (111 ∷ (110 ∷ (101 ∷ [])))

-- a number, or `none`
abbrev pub maybe_text : Option ℤ → List ℕ
maybe_text (some z) = whole_text z
maybe_text none = none_word

-- the six lines
unfoldable pub lines_of : Totals → List ℕ
lines_of t =
    line (decimal_of t.lanes) ++ (line (decimal_of t.segments) ++ (line (maybe_text t.lowest) ++ (line (maybe_text t.highest)
    ++ (line (whole_text t.sum) ++ line (decimal_of t.turned_away)))))

-- `refused 30`
abbrev pub refusal : List ℕ
refusal = line (refused_word ++ field (51 ∷ (48 ∷ [])))

unfoldable pub printed_of : Option Totals → List ℕ
printed_of (some t) = lines_of t
printed_of none = refusal

-- from the bytes of an input to the text of its run
abbrev pub totals_of : List ℕ → List ℕ
totals_of input = printed_of (run_of input)
