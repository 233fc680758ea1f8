-- What writing and reading a lane file answer, and what every lent slice holds afterwards: document 02, request 1.
use Rattle.std.specs.Prelude.{◌≡◌, Result, Ok, Err, Bool, true, false, cond, not, ◌||◌, List, ℕ, ◌+◌, ◌-◌, ltb, length, take}
use Rattle.window.specs.Cells.{onto}
use Rattle.forms.specs.Read.{Read, got, bad}
use Rattle.forms.specs.Form.{read_whole}
use Rattle.curve.specs.declared.Curve.{Curve}
use Rattle.curve.specs.declared.Mode.TheVariants.{Error}
use Rattle.curve.specs.Form.{well_formed, no_curve}
use Rattle.lane_file.specs.File.{break_count, coefficient_count, Contents, file_form}
use Rattle.lane_file.specs.Curves.{Cells, cells, Storable, slices_of, file_of, cleared, curve_of, cells_of}
use Rattle.lane_file.specs.declared.refusal.Refusal.{Refusal}
use Rattle.lane_file.specs.declared.refusal.Refusal.TheVariants.{DoesNotRead, NotWellFormed, TooShort}

-- the papers' number of a refusal
abbrev pub refusal_number : Refusal → ℕ
refusal_number DoesNotRead = 27
refusal_number NotWellFormed = 24
refusal_number TooShort = 19

-- ---- writing
-- the number of an answer, the bytes of the file, and the lent slice after it
pub record WriteOutcome : Type 0 where
  pub number : ℕ
  pub count : ℕ
  pub bytes : List ℕ

abbrev pub write_outcome : ℕ → ℕ → List ℕ → WriteOutcome
write_outcome number count bytes = record { number = number; count = count; bytes = bytes }

-- an answer of the code: 0, or the refusal's number; and the bytes of the file
abbrev pub write_number : Result ℕ Refusal → ℕ
write_number (Ok count) = 0
write_number (Err r) = refusal_number r

abbrev pub write_count : Result ℕ Refusal → ℕ
write_count (Ok count) = count
write_count (Err r) = 0

-- "Only well-formed curves are written", "writing tests 24 then 19", "The writer leaves the rest of its slice."
unfoldable pub write_of : Curve → Cells → List ℕ → WriteOutcome
write_of c s lent =
    cond (not (well_formed c (slices_of s))) (write_outcome 24 0 lent)
    (cond (ltb (length lent) (length (file_of c s))) (write_outcome 19 0 lent)
    (write_outcome 0 (length (file_of c s)) (onto (file_of c s) lent)))

-- ---- reading
-- the number of an answer, the curve, and the lent slices after it
pub record ReadOutcome : Type 0 where
  pub number : ℕ
  pub curve : Curve
  pub cells : Cells

abbrev pub read_outcome : ℕ → Curve → Cells → ReadOutcome
read_outcome number curve cells = record { number = number; curve = curve; cells = cells }

-- an answer of the code: 0, or the refusal's number; and the curve, which on a refusal is the one without axes
abbrev pub read_number : Result Curve Refusal → ℕ
read_number (Ok c) = 0
read_number (Err r) = refusal_number r

abbrev pub curve_in : Result Curve Refusal → Curve
curve_in (Ok c) = c
curve_in (Err r) = no_curve Error

-- a lent slice is too short
abbrev pub too_short : Cells → Cells → Bool
too_short s lent =
    ltb (length lent.breaks) (length s.breaks) || ltb (length lent.coefficients) (length s.coefficients)
    || ltb (length lent.other_breaks) (length s.other_breaks)
    || ltb (length lent.other_coefficients) (length s.other_coefficients)

abbrev pub onto_cells : Cells → Cells → Cells
onto_cells s lent =
    cells (onto s.breaks lent.breaks) (onto s.coefficients lent.coefficients)
    (onto s.other_breaks lent.other_breaks) (onto s.other_coefficients lent.other_coefficients)

-- the curve and its cells, into lent slices: 24, 19
unfoldable pub read_into : Curve → Cells → Cells → ReadOutcome
read_into c s lent =
    cond (not (well_formed c (slices_of s))) (read_outcome 24 (no_curve Error) lent)
    (cond (too_short s lent) (read_outcome 19 (no_curve Error) lent)
    (read_outcome 0 c (onto_cells s lent)))

-- "reading 27, 24, 19"
unfoldable pub read_as : Read Contents → Cells → ReadOutcome
read_as bad lent = read_outcome 27 (no_curve Error) lent
read_as (got x rest) lent = read_into (curve_of x) (cells_of x.patterns) lent

abbrev pub read_of : List ℕ → Cells → ReadOutcome
read_of file lent = read_as (read_whole file_form file) lent

-- "a written file reads back to its curve, bit by bit", into slices that are long enough
abbrev pub ReadsBack : Curve → Cells → List ℕ → Type 0
ReadsBack c s file = (lent : Cells) → too_short s lent ≡ false → read_of file lent ≡ read_outcome 0 (cleared c) (onto_cells s lent)

-- what holds of the file that was written for a curve
pub record WritePromised (c : Curve) (s : Cells) (file : List ℕ) : Type 0 where
  pub back : ReadsBack c s file
  -- "Equal curves, bit by bit, give equal files"
  pub equal : (c' : Curve) (s' : Cells) → well_formed c' (slices_of s') ≡ true → Storable c' s' → cleared c ≡ cleared c' → s ≡ s'
      → file_of c' s' ≡ file
  -- "unequal ones unequal files"
  pub unequal : (c' : Curve) (s' : Cells) → well_formed c' (slices_of s') ≡ true → Storable c' s' → file_of c' s' ≡ file
      → (cleared c ≡ cleared c') × (s ≡ s')

-- the used cells of lent slices, widths included
abbrev pub used_cells : Curve → Cells → Cells
used_cells c s =
    cells (take (break_count c.segments) s.breaks) (take (coefficient_count c.segments c.k + c.segments) s.coefficients)
    (take (break_count c.other_segments) s.other_breaks)
    (take (coefficient_count c.other_segments (c.d - c.k) + c.other_segments) s.other_coefficients)

-- a curve that was read is well formed, in slices of exactly its used cells, and its file is the one that was read
pub record ReadPromised (file : List ℕ) (c : Curve) (s : Cells) : Type 0 where
  pub formed : well_formed c (slices_of (used_cells c s)) ≡ true
  pub again : file_of c (used_cells c s) ≡ file
