-- Worked examples, by computation: what document 02's request 13 asks at the edges.
use mathlib.Core.Path.{◌≡◌, refl}
use mathlib.Core.List.{List, [], ◌∷◌}
use mathlib.Core.Option.{Option, some, none}
use Prim.Native.Nat.{ℕ}
use lib.IntN.{pos, negsuc}
use Rattle.forms.specs.Read.{got}
use Rattle.forms.specs.Groups.{read_groups}
use Rattle.text.specs.Decimal.{decimal_in}
use Rattle.lane_totals.specs.Totals.{merge, season}
use Rattle.lane_totals.specs.Lanes.{lane_totals}
use Rattle.season.specs.Files.{counted, files_of}
use Rattle.season.specs.Printed.{lines_of, printed_of, refusal, totals_of}

-- what a run over few bytes is computed by
unfoldable pub steps : Unit {0}
unfolding files_of read_groups lane_totals merge season lines_of printed_of decimal_in
steps = tt

-- "A run in which no lane counted prints three zeros .. and `none`": 0, 0, none, none, 0, 0 of an empty input
empty : totals_of [] ≡ 48 ∷ 10 ∷ 48 ∷ 10 ∷ 110 ∷ 111 ∷ 110 ∷ 101 ∷ 10 ∷ 110 ∷ 111 ∷ 110 ∷ 101 ∷ 10 ∷ 48 ∷ 10 ∷ 48 ∷ 10 ∷ []
unfolding steps
empty = refl

-- two counts of 0, files that do not read: 2 is the sixth line
two_of_no_byte : totals_of (0 ∷ 0 ∷ []) ≡ 48 ∷ 10 ∷ 48 ∷ 10 ∷ 110 ∷ 111 ∷ 110 ∷ 101 ∷ 10 ∷ 110 ∷ 111 ∷ 110 ∷ 101 ∷ 10 ∷ 48 ∷ 10 ∷ 50 ∷ 10
    ∷ []
unfolding steps
two_of_no_byte = refl

-- "a bad leading count": padded, cut off, of four groups
bad_counts : totals_of (128 ∷ 0 ∷ []) ∷ totals_of (0 ∷ 129 ∷ []) ∷ totals_of (129 ∷ 129 ∷ 129 ∷ 1 ∷ 7 ∷ []) ∷ []
    ≡ refusal ∷ refusal ∷ refusal ∷ []
unfolding steps
bad_counts = refl

-- "a short file", also after one that is whole: "no totals"
short_files : totals_of (1 ∷ []) ∷ totals_of (1 ∷ 7 ∷ 2 ∷ 7 ∷ []) ∷ [] ≡ refusal ∷ refusal ∷ []
unfolding steps
short_files = refl

-- the line of a refusal: refused 30
refusal_text_law : refusal ≡ 114 ∷ 101 ∷ 102 ∷ 117 ∷ 115 ∷ 101 ∷ 100 ∷ 32 ∷ 51 ∷ 48 ∷ 10 ∷ []
refusal_text_law = refl

-- 60,001 bytes, whatever follows
too_long : (rest : List ℕ) (next : List ℕ → Option (List (List ℕ))) → counted (got 60001 rest) next ≡ none
too_long rest next = refl

-- six lines: 2, 3, -7, 12, -40, 1
six : lines_of (record { lanes = 2; segments = 3; lowest = some (negsuc 6); highest = some (pos 12); sum = negsuc 39; turned_away = 1 })
    ≡ 50 ∷ 10 ∷ 51 ∷ 10 ∷ 45 ∷ 55 ∷ 10 ∷ 49 ∷ 50 ∷ 10 ∷ 45 ∷ 52 ∷ 48 ∷ 10 ∷ 49 ∷ 10 ∷ []
unfolding steps
six = refl
