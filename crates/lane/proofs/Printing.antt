-- Texts put together.
use mathlib.Core.Path.{◌≡◌, refl, sym, ap, ◌∙◌}
use mathlib.Core.List.{List, [], ◌∷◌, ◌++◌, append_assoc, append-nil}
use Prim.Native.Nat.{ℕ, ◌+◌, ◌<◌}
use native.Mathlib.Omega.{arith}
use native.Mathlib.Numerals.{add-one}
use lib.ListN.{length, take, get_or}
use lib.Seq.{take-suc}
use lib.Ieee.{Float}
use types.Run.{OneOf, miss}
use denote.Enum.Declared.{tag_of}
use Rattle.encoding.specs.Text.{float_text}
use Rattle.smoothing.specs.Answer.{Answer, number_of}
use Rattle.smoothing.specs.Answer.Answer.{done, refused, exhausted}
use Rattle.smoothing.proofs.Accepted.{refused_done, exhausted_done, done_same}
use Rattle.smoothing.specs.Build.{Result}
use Rattle.building.specs.declared.Report.{Report}
use Rattle.building.specs.declared.Answer.{Answer as Told}
use Rattle.building.specs.declared.Answer.TheVariants.{Accepted, RefinementsUsedUp, BadPoints, NoAxes, BadAxes, BadTolerance, BadParameters, BadRange, Overflow, InitialSegments, BadDiagonal, BadPivot, BadSolution, NotAbove, NotFinite, SegmentsUsedUp, BadMidpoint, ErrorAboveTolerance, AboveDomain, ShortSlice, PointCells, ToleranceTooFine}
use Rattle.building.specs.contracts.Answer.{the_type}
use Rattle.building.specs.Outcome.{outcome_of, reported}
use Rattle.text.specs.Decimal.{decimal_of}
use Rattle.text.specs.Lines.{newline, field, refused_word}
use Rattle.text.proofs.Putting.{both_there}
use Rattle.lane.specs.Printed.{accepted_word, counts_text, error_line, error_lines, refusal_text, printed_of}

-- a blank and a text
pub field_there : (o₀ o₁ o₂ d t : List ℕ) → o₁ ≡ o₀ ++ (32 ∷ []) → o₂ ≡ o₁ ++ d → d ≡ t → o₂ ≡ o₀ ++ field t
field_there o₀ o₁ o₂ d t e f g = both_there o₀ o₁ o₂ (32 ∷ []) d e f ∙ ap (λ (x : List ℕ). o₀ ++ (32 ∷ x)) g

-- ---- the lines
-- one line more
pub error_more : (xs : List Float) (x : Float) → error_lines (xs ++ (x ∷ [])) ≡ error_lines xs ++ error_line x
unfolding error_lines
error_more [] x = append-nil (error_line x)
error_more (y ∷ xs) x = rw (error_more xs x) (sym (append_assoc (error_line y) (error_lines xs) (error_line x)))

pub lines_next : (o₀ o₁ o₂ : List ℕ) (errors : List Float) (i : ℕ) (z : Float) → i < length errors → o₁ ≡ o₀ ++ error_lines (take i errors)
    → o₂ ≡ o₁ ++ error_line (get_or errors i z) → o₂ ≡ o₀ ++ error_lines (take (i + 1) errors)
lines_next o₀ o₁ o₂ errors i z h e f =
    let x = get_or errors i z in
    let more : error_lines (take i errors) ++ error_line x ≡ error_lines (take (i + 1) errors) =
    sym (error_more (take i errors) x) ∙ ap error_lines (sym (take-suc errors i z h) ∙ ap (λ (n : ℕ). take n errors) (sym (add-one i))) in
    both_there o₀ o₁ o₂ (error_lines (take i errors)) (error_line x) e f ∙ ap (λ (t : List ℕ). o₀ ++ t) more

-- seven texts, one after the other
seven : (a b c d e f g : List ℕ) → (((((a ++ b) ++ c) ++ d) ++ e) ++ f) ++ g ≡ a ++ (b ++ (c ++ (d ++ (e ++ (f ++ g)))))
seven a b c d e f g =
    append_assoc ((((a ++ b) ++ c) ++ d) ++ e) f g
    ∙ append_assoc (((a ++ b) ++ c) ++ d) e (f ++ g)
    ∙ append_assoc ((a ++ b) ++ c) d (e ++ (f ++ g))
    ∙ append_assoc (a ++ b) c (d ++ (e ++ (f ++ g)))
    ∙ append_assoc a b (c ++ (d ++ (e ++ (f ++ g))))

pub counts_are : (r : Report) (a b c d e f g : List ℕ) → a ≡ accepted_word → b ≡ a ++ field (decimal_of r.segments)
    → c ≡ b ++ field (decimal_of r.interpolated_segments) → d ≡ c ++ field (decimal_of r.refinements)
    → e ≡ d ++ field (decimal_of r.fitting_rows) → f ≡ e ++ field (decimal_of r.checked_intervals) → g ≡ f ++ newline → g
    ≡ counts_text r
unfolding counts_text
counts_are r a b c d e f g ea eb ec ed ee ef eg =
    rw (eg, ef, ee, ed, ec, eb, ea)
    (seven accepted_word (field (decimal_of r.segments)) (field (decimal_of r.interpolated_segments))
    (field (decimal_of r.refinements))
    (field (decimal_of r.fitting_rows)) (field (decimal_of r.checked_intervals)) newline)

-- ---- the texts of refusals
pub refusal_is : (n : ℕ) (a b : List ℕ) → a ≡ refused_word → b ≡ a ++ field (decimal_of n) → b ≡ refusal_text n
unfolding refusal_text
refusal_is n a b e f = f ∙ ap (λ (t : List ℕ). t ++ field (decimal_of n)) e

pub refused_is : (n : ℕ) (a b : List ℕ) → a ≡ refusal_text n → b ≡ a ++ newline → b ≡ printed_of (refused n)
unfolding printed_of
refused_is n a b e f = f ∙ ap (λ (t : List ℕ). t ++ newline) e

pub exhausted_is : (x : Float) (a b c d : List ℕ) → a ≡ refusal_text 14 → b ≡ a ++ (32 ∷ []) → c ≡ b ++ float_text x → d ≡ c ++ newline
    → d ≡ printed_of (exhausted x)
unfolding printed_of
exhausted_is x a b c d ea eb ec ed =
    let e = field_there a b c (float_text x) (float_text x) eb ec refl in
    both_there a c d (field (float_text x)) newline e ed ∙ ap (λ (t : List ℕ). t ++ (field (float_text x) ++ newline)) ea

-- ---- what is told of an answer

pub accepted_told : (r : Report) (errors : List Float) (y : Answer Result) → done r ≡ reported y
    → ((x : Result) → y ≡ done x → errors ≡ x.report.errors) → counts_text r ++ error_lines errors ≡ printed_of y
unfolding printed_of reported
accepted_told r errors (done x) e h = rw (done_same e, h x refl)
accepted_told r errors (refused n) e h = absurd (refused_done (sym e))
accepted_told r errors (exhausted x) e h = absurd (exhausted_done (sym e))

pub exhausted_told : (x : Float) (y : Answer Result) → ◌≡◌ {A = Answer Report} (exhausted x) (reported y) → printed_of (exhausted x)
    ≡ printed_of y
unfolding reported
exhausted_told x (done z) e = absurd (exhausted_done e)
exhausted_told x (refused n) e = absurd (let z : ◌≡◌ {A = ℕ} 0 1 = cc in omega arith)
exhausted_told x (exhausted z) e = let f : x ≡ z = cc in rw f

pub refused_told : (n : ℕ) (y : Answer Result) → ◌≡◌ {A = Answer Report} (refused n) (reported y) → printed_of (refused n) ≡ printed_of y
unfolding reported
refused_told n (done z) e = absurd (refused_done e)
refused_told n (refused m) e = let f : n ≡ m = cc in rw f
refused_told n (exhausted z) e = absurd (let z : ◌≡◌ {A = ℕ} 0 1 = cc in omega arith)

-- an answer that is neither an acceptance nor 14 is a refusal by its number
abbrev pub refusals : List ℕ
refusals = 1 ∷ 2 ∷ 3 ∷ 4 ∷ 5 ∷ 6 ∷ 7 ∷ 8 ∷ 9 ∷ 10 ∷ 11 ∷ 12 ∷ 13 ∷ 15 ∷ 16 ∷ 17 ∷ 18 ∷ 19 ∷ 20 ∷ 21 ∷ []

pub refusal_told : (a : Told) → OneOf refusals (tag_of the_type a) → outcome_of a ≡ refused (number_of (outcome_of a))
unfolding number_of
refusal_told (Accepted r) h = absurd (miss refusals 0 tt h)
refusal_told (RefinementsUsedUp x) h = absurd (miss refusals 14 tt h)
refusal_told BadPoints h = refl
refusal_told NoAxes h = refl
refusal_told BadAxes h = refl
refusal_told BadTolerance h = refl
refusal_told BadParameters h = refl
refusal_told BadRange h = refl
refusal_told Overflow h = refl
refusal_told InitialSegments h = refl
refusal_told BadDiagonal h = refl
refusal_told BadPivot h = refl
refusal_told BadSolution h = refl
refusal_told NotAbove h = refl
refusal_told NotFinite h = refl
refusal_told SegmentsUsedUp h = refl
refusal_told BadMidpoint h = refl
refusal_told ErrorAboveTolerance h = refl
refusal_told AboveDomain h = refl
refusal_told ShortSlice h = refl
refusal_told PointCells h = refl
refusal_told ToleranceTooFine h = refl
