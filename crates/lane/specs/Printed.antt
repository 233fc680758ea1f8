-- The text of an answer: document 01, "Fields: segments, interpolated segments, refinements, fitting rows, checked intervals; then a line
-- of 16 upper-case hex digits for each axis's max error. A refusal prints one line, `refused` and its number, for 14 also the 16 digits of
-- the ratio, one blank between". Text is a list of ASCII codes.
use Rattle.std.specs.Prelude.{ℕ, List, [], ◌∷◌, ◌++◌, Float}
use Rattle.encoding.specs.Text.{float_text}
use Rattle.text.specs.Decimal.{decimal_of}
use Rattle.text.specs.Lines.{newline, field, refused_word}
use Rattle.smoothing.specs.Answer.{Answer}
use Rattle.smoothing.specs.Answer.Answer.{done, refused, exhausted}
use Rattle.smoothing.specs.Build.{Result}
use Rattle.building.specs.declared.Report.{Report}
use Rattle.building.specs.Outcome.{report_of}

-- `accepted`
abbrev pub accepted_word : List ℕ
accepted_word = 97 ∷ (99 ∷ (99 ∷ (101 ∷ (112 ∷ (116 ∷ (101 ∷ (100 ∷ [])))))))

-- the first line of an accepted lane
unfoldable pub counts_text : Report → List ℕ
counts_text r =
    accepted_word ++ (field (decimal_of r.segments) ++ (field (decimal_of r.interpolated_segments)
    ++ (field (decimal_of r.refinements) ++ (field (decimal_of r.fitting_rows)
    ++ (field (decimal_of r.checked_intervals) ++ newline)))))

-- a line for each error
abbrev pub error_line : Float → List ℕ
error_line x = float_text x ++ newline

unfoldable pub error_lines : List Float → List ℕ
error_lines [] = []
error_lines (x ∷ xs) = error_line x ++ error_lines xs

-- a refusal's number
unfoldable pub refusal_text : ℕ → List ℕ
refusal_text n = refused_word ++ field (decimal_of n)

unfoldable pub printed_of : Answer Result → List ℕ
printed_of (done x) = counts_text (report_of x) ++ error_lines x.report.errors
printed_of (refused n) = refusal_text n ++ newline
printed_of (exhausted x) = refusal_text 14 ++ (field (float_text x) ++ newline)
