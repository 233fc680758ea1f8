-- Lengths of lent slices that are never too short.
use mathlib.Core.Path.{◌≡◌, refl, ap, ◌∙◌}
use mathlib.Core.Bool.{Bool, true, false}
use mathlib.Core.List.{List, map}
use Prim.Native.Nat.{ℕ, ◌+◌, ◌*◌, ◌/◌, ◌≤◌}
use native.Mathlib.Omega.{arith}
use borrow.Author.Tests.{le-ltb}
use lib.ListN.{length, length-map, length-append}
use Rattle.forms.specs.Read.{Read, got, bad, Bytes}
use Rattle.forms.specs.Form.{read_whole}
use Rattle.forms.proofs.Putting.{groups_most}
use Rattle.curve.specs.declared.Curve.{Curve}
use Rattle.curve.specs.Form.{well_formed}
use Rattle.lane_file.specs.File.{head_form, patterns_form, Contents, file_form}
use Rattle.lane_file.specs.Curves.{Cells, Storable, number_of, width_patterns, slices_of, file_of, curve_of, cells_of}
use Rattle.lane_file.specs.Outcome.{write_of, too_short, read_into, read_as, read_of}
use Rattle.lane_file.proofs.FormedCurves.{formed_small, rows_lengths}
use Rattle.lane_file.proofs.Parts.{head_length, file_length, patterns_length}
use Rattle.lane_file.proofs.Promises.{reads_only}
use Rattle.lane_file.proofs.Widths.{widths_length}

-- ---- writing
abbrev pub enough_bytes : Cells → ℕ
enough_bytes s = 41 + 8 * (length s.breaks + length s.coefficients + length s.other_breaks + length s.other_coefficients)

file_most : (c : Curve) (s : Cells) → well_formed c (slices_of s) ≡ true → Storable c s → length (file_of c s) ≤ enough_bytes s
file_most c s w h =
    let z = formed_small c s w in
    let n = rows_lengths c s z in
    let head = head_length c (omega (arith, z.d_high)) (omega (arith, z.k_high, z.d_high)) h.axes
    (λ i l. omega (arith, z.axes i l)) in
    omega (
      arith,
      file_length c s,
      head,
      n.0,
      n.1,
      z.k_high,
      z.d_high,
      groups_most 3 c.segments,
      groups_most 3 c.other_segments,
    )

module _ (c : Curve) (s : Cells) (lent : List ℕ) where
  refused : well_formed c (slices_of s) ≡ false → (write_of c s lent).number ≡ 24
  unfolding write_of
  refused w = rw w

  written : well_formed c (slices_of s) ≡ true → length (file_of c s) ≤ length lent → (write_of c s lent).number ≡ 0
  unfolding write_of
  written w h = rw (w, le-ltb (length lent) (length (file_of c s)) h)

  -- a slice of so many bytes is never too short for a file
  pub never_short_file : Storable c s → enough_bytes s ≤ length lent → (write_of c s lent).number ≡ 19 → ⊥
  never_short_file h room = go (well_formed c (slices_of s)) refl
    where
      go : (w : Bool) → well_formed c (slices_of s) ≡ w → (write_of c s lent).number ≡ 19 → ⊥
      go false w e = absurd (omega (arith, refused w, e))
      go true w e =
          let most = file_most c s w h in absurd (omega (arith, written w (omega (arith, most, room)), e))

-- ---- reading
module _ (c : Curve) (s lent : Cells) where
  not_formed : well_formed c (slices_of s) ≡ false → (read_into c s lent).number ≡ 24
  unfolding read_into
  not_formed w = rw w

  done : well_formed c (slices_of s) ≡ true → too_short s lent ≡ false → (read_into c s lent).number ≡ 0
  unfolding read_into
  done w h = rw (w, h)

  into : too_short s lent ≡ false → (read_into c s lent).number ≡ 19 → ⊥
  into h = go (well_formed c (slices_of s)) refl
    where
      go : (w : Bool) → well_formed c (slices_of s) ≡ w → (read_into c s lent).number ≡ 19 → ⊥
      go false w e = absurd (omega (arith, not_formed w, e))
      go true w e = absurd (omega (arith, done w h, e))

-- the cells of a file
module _ (l : List ℕ) (x : Contents) (spelled : l ≡ file_form.write x) where
  abbrev s : Cells
  s = cells_of x.patterns

  -- breaks, and coefficients with widths, of both sets
  cells_most : (length s.breaks ≤ length l / 8) × (length s.coefficients ≤ length l / 8)
      × (length s.other_breaks ≤ length l / 8) × (length s.other_coefficients ≤ length l / 8)
  cells_most =
      let p = x.patterns in
      let n = ap length spelled ∙ length-append (head_form.write x.head) ((patterns_form x.head).write p) in
      let m = patterns_length x.head p in
      let b = length-map p.breaks number_of in
      let ob = length-map p.other_breaks number_of in
      let w = widths_length (map number_of p.breaks) in
      let ow = widths_length (map number_of p.other_breaks) in
      let k = length-append p.coefficients (width_patterns (map number_of p.breaks)) in
      let ok = length-append p.other_coefficients (width_patterns (map number_of p.other_breaks)) in (
        omega (arith, n, m, b),
        omega (arith, n, m, b, w, k),
        omega (arith, n, m, ob),
        omega (arith, n, m, ob, ow, ok),
      )

  not_short : (lent : Cells) → length l / 8 ≤ length lent.breaks → length l / 8 ≤ length lent.coefficients
      → length l / 8 ≤ length lent.other_breaks → length l / 8 ≤ length lent.other_coefficients → too_short s lent ≡ false
  not_short lent h₁ h₂ h₃ h₄ =
      let z = cells_most in
      rw (
        le-ltb (length lent.breaks) (length s.breaks) (omega (arith, z.0, h₁)),
        le-ltb (length lent.coefficients) (length s.coefficients) (omega (arith, z.1, h₂)),
        le-ltb (length lent.other_breaks) (length s.other_breaks) (omega (arith, z.2, h₃)),
        le-ltb (length lent.other_coefficients) (length s.other_coefficients) (omega (arith, z.3, h₄)),
      )

-- slices with an eighth as many cells as the file has bytes are never too short for its curve
pub never_short_slices : (l : List ℕ) (lent : Cells) → Bytes l → length l / 8 ≤ length lent.breaks
    → length l / 8 ≤ length lent.coefficients → length l / 8 ≤ length lent.other_breaks
    → length l / 8 ≤ length lent.other_coefficients → (read_of l lent).number ≡ 19 → ⊥
unfolding read_as
never_short_slices l lent B h₁ h₂ h₃ h₄ = go (read_whole file_form l) refl
  where
    go : (o : Read Contents) → read_whole file_form l ≡ o → (read_as o lent).number ≡ 19 → ⊥
    go bad e f = absurd (omega (arith, f))
    go (got x rest) e f =
        into (curve_of x) (cells_of x.patterns) lent (not_short l x (reads_only x l rest B e).0 lent h₁ h₂ h₃ h₄) f
