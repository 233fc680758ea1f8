-- "Equal curves, bit by bit, give equal files, unequal ones unequal files, and a written file reads back to its curve, bit by bit."
use mathlib.Core.Path.{◌≡◌, refl, sym, ap, ◌∙◌}
use mathlib.Core.Bool.{Bool, true, false, not, cond}
use mathlib.Core.List.{List, [], ◌∷◌, map}
use Prim.Native.Nat.{ℕ, suc, ◌-◌, ◌≤◌}
use native.Mathlib.Omega.{arith}
use lib.Dec.{T}
use lib.ListN.{length, take}
use lib.Seq.{length-take-le, get_or-take}
use lib.Ieee.{Float, binary64, fits}
use lib.Ieee.Bits.{of_bits-to_bits}
use Rattle.window.specs.Cells.{at}
use Rattle.forms.specs.Read.{Read, got, bad, Bytes}
use Rattle.forms.specs.Form.{read_whole}
use Rattle.forms.proofs.Exact.{whole_back, whole_only, injective}
use Rattle.curve.specs.declared.Curve.{Curve}
use Rattle.curve.specs.declared.Mode.{Mode}
use Rattle.curve.specs.declared.Mode.TheVariants.{Error, Clamp}
use Rattle.curve.specs.Places.{padded}
use Rattle.curve.specs.Form.{Slices, axes_formed, well_formed, no_curve}
use Rattle.curve.proofs.Formed.{formed, axes_same}
use Rattle.curve.proofs.Padded.{padded_at, padded_front}
use Rattle.lane_file.specs.File.{Contents, contents, file_form}
use Rattle.lane_file.specs.Curves.{Cells, cells, Storable, number_of, pattern_of, slices_of, without_widths, widened, mode_number, mode_of, head_of, patterns_of, file_of, cleared, curve_of, cells_of}
use Rattle.lane_file.specs.Outcome.{read_outcome, too_short, onto_cells, read_into, read_as, read_of, ReadsBack}
use Rattle.lane_file.proofs.Spelling.{file_exact}
use Rattle.lane_file.proofs.Widths.{set_back, others_back}
use Rattle.lane_file.proofs.FormedCurves.{formed_small, contents_good}

-- ---- which bytes read: the spellings, and no others
pub reads_only : (x : Contents) (l rest : List ℕ) → Bytes l → read_whole file_form l ≡ got x rest → (l ≡ file_form.write x) × file_form.Good x
reads_only x l rest B e = whole_only file_form file_exact x l rest B e

pub spelling_reads : (x : Contents) → file_form.Good x → read_whole file_form (file_form.write x) ≡ got x []
spelling_reads x g = whole_back file_form file_exact x g

-- the bytes are the spelling of something
pub record Spelled (l : List ℕ) : Type 0 where
  pub contents : Contents
  pub good : file_form.Good contents
  pub spelled : l ≡ file_form.write contents

-- a file that reads is refused with 24 or 19 alone
into_number : (c : Curve) (s lent : Cells) → (read_into c s lent).number ≡ 27 → ⊥
unfolding read_into
into_number c s lent = go (well_formed c (slices_of s)) (too_short s lent)
  where
    go : (w t : Bool) → (cond (not w) (read_outcome 24 (no_curve Error) lent) (cond t (read_outcome 19 (no_curve Error) lent)
        (read_outcome 0 c (onto_cells s lent)))).number ≡ 27 → ⊥
    go false t e = absurd (omega (arith, e))
    go true false e = absurd (omega (arith, e))
    go true true e = absurd (omega (arith, e))

-- 27 exactly where they are not
module _ (l : List ℕ) (lent : Cells) where
  pub not_spelled : (read_of l lent).number ≡ 27 → Spelled l → ⊥
  unfolding read_as
  not_spelled e x =
      let r : read_whole file_form l ≡ got x.contents [] = ap (read_whole file_form) x.spelled ∙ spelling_reads x.contents x.good in
      into_number (curve_of x.contents) (cells_of x.contents.patterns) lent
      (ap (λ (o : Read Contents). (read_as o lent).number) (sym r) ∙ e)

  pub spelled : Bytes l → ((read_of l lent).number ≡ 27 → ⊥) → Spelled l
  unfolding read_as
  spelled B other = go (read_whole file_form l) refl other
    where
      go : (o : Read Contents) → read_whole file_form l ≡ o → ((read_as o lent).number ≡ 27 → ⊥) → Spelled l
      go bad e other = absurd (other refl)
      go (got x rest) e other =
          let s = reads_only x l rest B e in record { contents = x; good = s.1; spelled = s.0 }

-- ---- a curve's numbers come back
numbers_back : (l : List Float) → ((i : ℕ) → T (fits binary64 (at l i))) → map number_of (map pattern_of l) ≡ l
numbers_back [] f = refl
numbers_back (x ∷ l) f = λ i. of_bits-to_bits binary64 x (f 0) i ∷ numbers_back l (λ j. f (suc j)) i

mode_back : (m : Mode) → mode_of (mode_number m) ≡ m
mode_back Error = refl
mode_back Clamp = refl

module _ (c : Curve) (s : Cells) (h : Storable c s) where
  pub cells_back : well_formed c (slices_of s) ≡ true → cells_of (patterns_of c s) ≡ s
  cells_back w =
      let f = formed c (slices_of s) w in
      let k = set_back s.breaks s.coefficients h.breaks h.coefficients c.k c.segments f.set_formed_law in
      let ok = others_back s.other_breaks s.other_coefficients h.other_breaks h.other_coefficients (c.d - c.k)
      c.other_segments f.others_formed_law in
      (λ i. widened (cells (numbers_back s.breaks h.breaks i) (without_widths c s).coefficients
      (numbers_back s.other_breaks h.other_breaks i) (without_widths c s).other_coefficients))
      ∙ (λ i. cells s.breaks (k i) s.other_breaks (ok i))

  pub curve_back : curve_of (contents (head_of c) (patterns_of c s)) ≡ cleared c
  curve_back = λ i. record {
    d = c.d;
    k = c.k;
    axes = padded (take c.k c.axes);
    start = of_bits-to_bits binary64 c.start h.start i;
    end = of_bits-to_bits binary64 c.end h.end i;
    mode = mode_back c.mode i;
    segments = c.segments;
    other_segments = c.other_segments;
  }

-- what the cells of `axes` from k on hold does not matter
pub cleared_formed : (c : Curve) (t : Slices) → well_formed c t ≡ true → well_formed (cleared c) t ≡ true
unfolding well_formed
cleared_formed c t w =
    let f = formed c t w in
    let same : axes_formed (padded (take c.k c.axes)) c.k c.d ≡ true =
    axes_same c.axes (padded (take c.k c.axes)) c.k c.d
    (λ i l. padded_at (take c.k c.axes) i (omega (arith, f.k_high, f.d_high, l)) ∙ get_or-take c.k c.axes i 0 l)
    f.axes_formed_law in
    rw same (rw f.axes_formed_law at w)

-- ---- the three promises
module _ (c : Curve) (s : Cells) (w : well_formed c (slices_of s) ≡ true) (h : Storable c s) where
  pub file_back : read_whole file_form (file_of c s) ≡ got (contents (head_of c) (patterns_of c s)) []
  file_back = spelling_reads (contents (head_of c) (patterns_of c s)) (contents_good c s w h)

  pub reads_back : ReadsBack c s (file_of c s)
  unfolding read_as read_into
  reads_back lent room =
      ap (λ (o : Read Contents). read_as o lent) file_back
      ∙ (λ i. read_into (curve_back c s h i) (cells_back c s h w i) lent)
      ∙ rw (cleared_formed c (slices_of s) w, room)

-- the axes that are written
axes_stay : (c : Curve) → c.k ≤ 16 → length c.axes ≡ 16 → take c.k (padded (take c.k c.axes)) ≡ take c.k c.axes
axes_stay c h e =
    let l = take c.k c.axes in
    let n : length l ≡ c.k = length-take-le c.k c.axes (omega arith) in
    ap (λ (k : ℕ). take k (padded l)) (sym n) ∙ padded_front l (omega arith)

file_stays : (c : Curve) (s : Cells) → well_formed c (slices_of s) ≡ true → Storable c s → file_of (cleared c) s ≡ file_of c s
file_stays c s w h =
    let z = formed_small c s w in
    ap (λ (axes : List ℕ). file_form.write (contents (record {
      d = c.d;
      k = c.k;
      axes = axes;
      mode = mode_number c.mode;
      segments = c.segments;
      other_segments = c.other_segments;
    }) (patterns_of c s))) (axes_stay c (omega (arith, z.k_high, z.d_high)) h.axes)

-- two curves that a file can hold
module _ (c c' : Curve) (s s' : Cells) (w : well_formed c (slices_of s) ≡ true) (w' : well_formed c' (slices_of s') ≡ true) (h : Storable c s)
    (h' : Storable c' s') where
  pub equal_files : cleared c ≡ cleared c' → s ≡ s' → file_of c s ≡ file_of c' s'
  equal_files e f = sym (file_stays c s w h) ∙ (λ i. file_of (e i) (f i)) ∙ file_stays c' s' w' h'

  pub same_curve : file_of c s ≡ file_of c' s' → (cleared c ≡ cleared c') × (s ≡ s')
  same_curve e =
      let x = injective file_form file_exact (contents (head_of c) (patterns_of c s)) (contents (head_of c') (patterns_of c' s'))
      (contents_good c s w h) (contents_good c' s' w' h') e in (
        sym (curve_back c s h) ∙ ap curve_of x ∙ curve_back c' s' h',
        sym (cells_back c s h w) ∙ ap (λ (x : Contents). cells_of x.patterns) x ∙ cells_back c' s' h' w',
      )
