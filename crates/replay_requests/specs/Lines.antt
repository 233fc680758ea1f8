-- The line of a built request: oracle/README.md, kind `build`, and a further word where a lent cell or a count of segments is not as it
-- should be.
use Rattle.std.specs.Prelude.{ℕ, ◌+◌, ◌-◌, Bool, true, false, cond, ◌&&◌, eqb, leb, ltb, Option, Some, None, Float}
use Rattle.std.specs.Prelude.{List, [], ◌∷◌, ◌++◌, length, take, drop}
use Rattle.std.specs.List.{list_all}
use denote.Ref.{Bor}
use Rattle.std.specs.Float.{binary64}
use Rattle.std.specs.Float.Ieee.{of_bits, eq, lt, div}
use Rattle.curve.specs.declared.Curve.{Curve}
use Rattle.smoothing.specs.Answer.{Answer, number_of}
use Rattle.smoothing.specs.Answer.Answer.{done, refused, exhausted}
use Rattle.building.specs.declared.Report.{Report}
use Rattle.building.specs.declared.entry.Built.{Built}
use Rattle.building.specs.Outcome.{outcome_of}
use Rattle.listing.specs.Output.{whole_text, cell_text, cells_text, end_text, refused_word}
use Rattle.listing.specs.Sizes.{breaks_of, rows_of}
use Rattle.replay_requests.specs.declared.parts.Lent.{Lent}

-- `build`
abbrev pub build_word : List ℕ
build_word = 98 ∷ (117 ∷ (105 ∷ (108 ∷ (100 ∷ []))))

-- ` cells`
abbrev pub cells_word : List ℕ
cells_word = 32 ∷ (99 ∷ (101 ∷ (108 ∷ (108 ∷ (115 ∷ [])))))

-- the end of the line: the word first where something is not as it should be
abbrev pub ending : Bool → List ℕ
ending true = end_text
ending false = cells_word ++ end_text

-- each whole number of a list
unfoldable pub wholes_text : List ℕ → List ℕ
wholes_text [] = []
wholes_text (x ∷ xs) = whole_text x ++ wholes_text xs

-- the report's counts, the axes, and the ends of the parameter
unfoldable pub report_text : Report → Curve → List ℕ
report_text r c =
    wholes_text (r.segments ∷ (r.interpolated_segments ∷ (r.refinements ∷ (r.fitting_rows ∷ (r.checked_intervals ∷ [])))))
    ++ (wholes_text (take c.k c.axes) ++ cells_text (c.start ∷ (c.end ∷ [])))

-- the cells of each result that an accepted request uses
abbrev pub used_cells : Curve → Lent ℕ
used_cells c =
    record {
      work = 0;
      breaks = breaks_of c.segments;
      coefficients = rows_of c.k c.segments;
      other_breaks = breaks_of c.other_segments;
      other_coefficients = rows_of (c.d - c.k) c.other_segments;
      errors = c.k;
    }

abbrev pub nothing_used : Lent ℕ
nothing_used = record { work = 0; breaks = 0; coefficients = 0; other_breaks = 0; other_coefficients = 0; errors = 0 }

-- the buffers that are lent
abbrev pub buffers_of : Lent (Bor (List Float)) → Lent (List Float)
buffers_of l =
    record {
      work = l.work.now;
      breaks = l.breaks.now;
      coefficients = l.coefficients.now;
      other_breaks = l.other_breaks.now;
      other_coefficients = l.other_coefficients.now;
      errors = l.errors.now;
    }

-- the first n cells of a part, which begins at cell 8
abbrev pub part_text : List Float → ℕ → List ℕ
part_text buffer n = cells_text (take n (drop 8 buffer))

-- the used cells of the results
unfoldable pub results_text : Lent ℕ → Lent (List Float) → List ℕ
results_text used l =
    part_text l.errors used.errors
    ++ (part_text l.breaks used.breaks
    ++ (part_text l.coefficients used.coefficients
    ++ (part_text l.other_breaks used.other_breaks ++ part_text l.other_coefficients used.other_coefficients)))

-- the report of an accepted request
abbrev pub report_in : Answer Report → Option Report
report_in (done r) = Some r
report_in (refused n) = None
report_in (exhausted x) = None

-- the ratio that 14 carries
abbrev pub ratio_in : Answer Report → Option Float
ratio_in (done r) = None
ratio_in (refused n) = None
ratio_in (exhausted x) = Some x

abbrev pub ratio_text : Option Float → List ℕ
ratio_text (Some x) = cell_text x
ratio_text None = []

-- the report and the results, or a refusal's number and ratio
abbrev pub told_text : Option Report → ℕ → Option Float → Curve → Lent (List Float) → List ℕ
told_text (Some r) number ratio c l = report_text r c ++ results_text (used_cells c) l
told_text None number ratio c l = refused_word ++ (whole_text number ++ ratio_text ratio)

-- whether there are cells from `from` up to `to`, each as asked
abbrev pub each_of : (Float → Bool) → List Float → ℕ → ℕ → Bool
each_of test buffer from to = cond (leb from to && leb to (length buffer)) (list_all test (take (to - from) (drop from buffer))) false

abbrev pub is_mark : Float → Bool
is_mark x = eq x (of_bits binary64 0xa68f_d907_e5ee_75a5)

-- +0 and not -0: 1 over -0 is not above 0
abbrev pub is_plus_zero : Float → Bool
is_plus_zero x = eq x (of_bits binary64 0) && lt (of_bits binary64 0) (div binary64 (of_bits binary64 0x3ff0_0000_0000_0000) x)

-- of a part from cell 8 to `end` only the first `used` cells were written, and none around it
abbrev pub part_kept : List Float → ℕ → ℕ → Bool
part_kept buffer end used =
    leb end (length buffer) && leb (used + 8) end && each_of is_mark buffer 0 8 && each_of is_mark buffer (used + 8) (end + 8)

-- a part from cell 8 to `end` is cleared, and none around it was written
abbrev pub part_cleared : List Float → ℕ → Bool
part_cleared buffer end =
    leb end (length buffer) && each_of is_mark buffer 0 8 && each_of is_plus_zero buffer 8 end && each_of is_mark buffer end (end + 8)

-- nothing but the used cells of the results was written
abbrev pub results_kept : Lent ℕ → Lent ℕ → Lent (List Float) → Bool
results_kept p used l =
    part_kept l.breaks p.breaks used.breaks
    && part_kept l.coefficients p.coefficients used.coefficients
    && part_kept l.other_breaks p.other_breaks used.other_breaks
    && part_kept l.other_coefficients p.other_coefficients used.other_coefficients
    && part_kept l.errors p.errors used.errors

-- 18, 19 and 20 leave the work slice as it was, all else clears it
abbrev pub work_left : List Float → ℕ → ℕ → Bool
work_left buffer end number = cond (ltb 17 number && ltb number 21) (part_kept buffer end 0) (part_cleared buffer end)

-- a refused request uses no cell
abbrev pub used_by : Option Report → Curve → Lent ℕ
used_by (Some r) c = used_cells c
used_by None c = nothing_used

-- an accepted curve has the report's segments
abbrev pub is_told : Option Report → Curve → Bool
is_told (Some r) c = eqb c.segments r.segments && eqb c.other_segments r.interpolated_segments
is_told None c = true

-- every lent cell is as it should be, and the curve is the report's
abbrev pub as_promised : Option Report → ℕ → Curve → Lent ℕ → Lent (List Float) → Bool
as_promised told number c p l = is_told told c && work_left l.work p.work number && results_kept p (used_by told c) l

-- the whole line
unfoldable pub built_text : Built → Lent ℕ → Lent (List Float) → List ℕ
built_text b p l =
    let answer = outcome_of b.answer in
    let told = report_in answer in
    let number = number_of answer in
    build_word ++ (told_text told number (ratio_in answer) b.curve l ++ ending (as_promised told number b.curve p l))
