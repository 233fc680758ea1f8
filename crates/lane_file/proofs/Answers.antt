-- What the definitions give at each return of the code.
use mathlib.Core.Path.{◌≡◌, sym, ap, ◌∙◌, subst}
use mathlib.Core.Bool.{true, false}
use mathlib.Core.List.{List}
use Prim.Native.Nat.{ℕ, ◌-◌, ◌≤◌, ◌<◌}
use native.Mathlib.Omega.{arith}
use borrow.Author.Tests.{lt-ltb, le-ltb}
use lib.ListN.{length, take, drop}
use lib.Seq.{take_at}
use Rattle.curve.specs.declared.Curve.{Curve}
use Rattle.curve.specs.declared.Mode.TheVariants.{Error}
use Rattle.curve.specs.Form.{well_formed, no_curve}
use Rattle.window.specs.Cells.{onto}
use Rattle.forms.specs.Read.{Read, bad}
use Rattle.forms.specs.Form.{read_whole}
use Rattle.lane_file.specs.declared.head.FoundHead.{FoundHead}
use Rattle.lane_file.specs.File.{Contents, file_form}
use Rattle.lane_file.specs.Curves.{Cells, cells, Storable, slices_of, file_of}
use Rattle.lane_file.specs.Reading.{set_place, other_place, cells_at, curve_at, FileAt}
use Rattle.lane_file.specs.Outcome.{write_outcome, write_of, WritePromised, read_outcome, too_short, onto_cells, read_into, read_as, read_of, used_cells, ReadPromised}
use Rattle.encoding.specs.Bytes.{float_of}
use Rattle.encoding.proofs.Laws.{length_each}
use Rattle.lane_file.proofs.Promises.{reads_back, equal_files, same_curve}
use Rattle.lane_file.proofs.Again.{file_again}
use Rattle.lane_file.proofs.Forming.{cells_length}

-- ---- writing
-- the promises about the file of a curve
promised : (c : Curve) (s : Cells) → well_formed c (slices_of s) ≡ true → Storable c s → WritePromised c s (file_of c s)
promised c s w h = record {
  back = reads_back c s w h;
  equal = λ c' s' w' h' e f. sym (equal_files c c' s s' w w' h h' e f);
  unequal = λ c' s' w' h' e. same_curve c c' s s' w w' h h' (sym e);
}

module _ (c : Curve) (s : Cells) (lent : List ℕ) where
  -- an answer's number, the bytes of the file, and the lent slice
  abbrev pub Answered : ℕ → ℕ → List ℕ → Type 0
  Answered number count after =
      (write_outcome number count after ≡ write_of c s lent) × (number ≡ 0 → WritePromised c s (take count after))

  pub not_formed : well_formed c (slices_of s) ≡ false → Answered 24 0 lent
  unfolding write_of
  not_formed w = (rw w, λ e. absurd (omega arith))

  pub too_short_law : well_formed c (slices_of s) ≡ true → length lent < length (file_of c s) → Answered 19 0 lent
  unfolding write_of
  too_short_law w h = (rw (w, lt-ltb (length lent) (length (file_of c s)) h), λ e. absurd (omega arith))

  pub put_whole : (count : ℕ) (after : List ℕ) → well_formed c (slices_of s) ≡ true → Storable c s → length (file_of c s) ≤ length lent
      → count ≡ length (file_of c s) → after ≡ onto (file_of c s) lent → Answered 0 count after
  unfolding write_of
  put_whole count after w held h n e = (
    rw (w, le-ltb (length lent) (length (file_of c s)) h, n, e),
    λ z. subst (λ (l : List ℕ). WritePromised c s l) (sym (front count after n e)) (promised c s w held),
  )
    where
      front : (count : ℕ) (after : List ℕ) → count ≡ length (file_of c s) → after ≡ onto (file_of c s) lent → take count after ≡ file_of c s
      front count after n e =
          ap (take count) e ∙ take_at (file_of c s) (drop (length (file_of c s)) lent) count (sym n)

-- ---- reading
module _ (l : List ℕ) (lent : Cells) where
  pub not_read : read_whole file_form l ≡ bad → read_outcome 27 (no_curve Error) lent ≡ read_of l lent
  unfolding read_as
  not_read e = rw e

  module _ (f : FoundHead) (x : FileAt l f) where
    read_in_law : read_into (curve_at l f) (cells_at l f) lent ≡ read_of l lent
    unfolding read_as
    read_in_law =
        (λ i. read_into (sym x.curve i) (sym x.cells i) lent) ∙ ap (λ (o : Read Contents). read_as o lent) (sym x.read)

    pub read_not_formed : well_formed (curve_at l f) (slices_of (cells_at l f)) ≡ false → read_outcome 24 (no_curve Error) lent ≡ read_of l lent
    unfolding read_into
    read_not_formed w = rw w at read_in_law

    module _ (w : well_formed (curve_at l f) (slices_of (cells_at l f)) ≡ true) where
      pub read_too_short : too_short (cells_at l f) lent ≡ true → read_outcome 19 (no_curve Error) lent ≡ read_of l lent
      unfolding read_into
      read_too_short s = rw (w, s) at read_in_law

      pub read_done : too_short (cells_at l f) lent ≡ false
          → read_outcome 0 (curve_at l f) (onto_cells (cells_at l f) lent) ≡ read_of l lent
      unfolding read_into
      read_done s = rw (w, s) at read_in_law

-- what was taken out of a file
pub taken : (l : List ℕ) (lent : Cells) (f : FoundHead) → FileAt l f → well_formed (curve_at l f) (slices_of (cells_at l f)) ≡ true
    → ReadPromised l (curve_at l f) (onto_cells (cells_at l f) lent)
taken l lent f x w =
    record {
      formed = ap (λ (s : Cells). well_formed (curve_at l f) (slices_of s)) used ∙ w;
      again =
          ap (file_of (curve_at l f)) used ∙ (λ i. file_of (sym x.curve i) (sym x.cells i))
          ∙ file_again x.contents x.good ((λ i. well_formed (x.curve i) (slices_of (x.cells i))) ∙ w) ∙ sym x.spelled;
    }
  where
    s : Cells
    s = cells_at l f

    used : used_cells (curve_at l f) (onto_cells s lent) ≡ s
    used =
        λ i. cells (take_at s.breaks (drop (length s.breaks) lent.breaks) _ (length_each float_of _ _) i)
        (take_at s.coefficients (drop (length s.coefficients) lent.coefficients) _
        (cells_length l (set_place f) f.segments f.k) i)
        (take_at s.other_breaks (drop (length s.other_breaks) lent.other_breaks) _ (length_each float_of _ _) i)
        (take_at s.other_coefficients (drop (length s.other_coefficients) lent.other_coefficients) _
        (cells_length l (other_place f) f.other_segments (f.d - f.k)) i)
