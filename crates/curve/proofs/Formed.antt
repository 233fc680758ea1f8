-- What a well-formed curve gives: numbers within their bounds, and lengths that match.
use mathlib.Core.Path.{◌≡◌, refl, sym, ap, ◌∙◌}
use mathlib.Core.Bool.{true, not, ◌&&◌}
use mathlib.Core.List.{List}
use Prim.Native.Nat.{ℕ, ◌+◌, ◌-◌, ◌*◌, ◌≤◌, ◌<◌}
use native.Mathlib.Omega.{arith}
use borrow.Author.Tests.{leb-true, ltb-true, eqb-true, le-leb, lt-ltb, eq-eqb}
use lib.Dec.{T, leb, ltb, eqb}
use lib.ListN.{length, get_or, length-append}
use lib.Seq.{get_or-append-add}
use lib.Ieee.{Float, nan, binary64, fits, of_bits, to_bits, eq}
use lib.Ieee.Fits.{sub-fits}
use Rattle.arith.proofs.Truth.{and_parts}
use Rattle.window.specs.Cells.{+0, at}
use Rattle.window.specs.Rows.{list_of}
use Rattle.window.proofs.Joined.{list_at, list_length}
use Rattle.curve.specs.declared.Curve.{Curve}
use Rattle.curve.specs.Form.{Slices, axes_formed, breaks_rise, set_formed, others_formed, range_formed, well_formed}
use Rattle.curve.specs.Form.{width_of, with_widths, widths_kept}
use Rattle.curve.specs.Places.{position_of}
use Rattle.curve.proofs.Placing.{Distinct}
use Rattle.curve.proofs.SameBits.{same_bits}
use Rattle.arith.proofs.Firsts.{every_all, every_at, first_all, first_same}

-- what the definition of a well-formed set asks, part by part
pub record SetParts (m n : ℕ) (breaks coefficients : List Float) : Type 0 where
  pub some : 1 ≤ n
  pub most : n ≤ 20000
  pub breaks_length : length breaks ≡ n + 1
  pub coefficients_length : length coefficients ≡ 6 * (n * m) + n
  pub from_zero : eq (at breaks 0) +0 ≡ true
  pub rising : breaks_rise breaks n ≡ true
  pub to_one : eq (at breaks n) (of_bits binary64 0x3ff0_0000_0000_0000) ≡ true
  pub kept : widths_kept (6 * (n * m)) n breaks coefficients ≡ true

pub set_parts : (m n : ℕ) (breaks coefficients : List Float) → set_formed m n breaks coefficients ≡ true
    → SetParts m n breaks coefficients
unfolding set_formed
set_parts m n b c h =
    let zero = eq (at b 0) +0 in
    let one = eq (at b n) (of_bits binary64 0x3ff0_0000_0000_0000) in
    let t1 = leb 1 n && leb n 20000 in
    let t2 = t1 && eqb (length b) (n + 1) in
    let t3 = t2 && eqb (length c) (6 * (n * m) + n) in
    let segments = breaks_rise b n && widths_kept (6 * (n * m)) n b c in
    let p6 = and_parts (t3 && zero && one) segments h in
    let p5 = and_parts (breaks_rise b n) (widths_kept (6 * (n * m)) n b c) p6.1 in
    let p4 = and_parts (t3 && zero) one p6.0 in
    let p3 = and_parts t3 zero p4.0 in
    let p2 = and_parts t2 (eqb (length c) (6 * (n * m) + n)) p3.0 in
    let p1 = and_parts t1 (eqb (length b) (n + 1)) p2.0 in
    let p0 = and_parts (leb 1 n) (leb n 20000) p1.0 in
    record {
      some = leb-true 1 n p0.0;
      most = leb-true n 20000 p0.1;
      breaks_length = eqb-true (length b) (n + 1) p1.1;
      coefficients_length = eqb-true (length c) (6 * (n * m) + n) p2.1;
      from_zero = p3.1;
      rising = p5.0;
      to_one = p4.1;
      kept = p5.1;
    }

pub set_formed_law : (m n : ℕ) (breaks coefficients : List Float) → SetParts m n breaks coefficients
    → set_formed m n breaks coefficients ≡ true
unfolding set_formed
set_formed_law m n b c s =
    rw (
      le-leb 1 n s.some,
      le-leb n 20000 s.most,
      eq-eqb (length b) (n + 1) s.breaks_length,
      eq-eqb (length c) (6 * (n * m) + n) s.coefficients_length,
      s.from_zero,
      s.rising,
      s.to_one,
      s.kept,
    )

-- ---- widths: of f64s, those of which the bits are the same are one number
module _ (from n : ℕ) (breaks cells : List Float) where
  pub kept_width : widths_kept from n breaks cells ≡ true → (i : ℕ) → i < n → T (fits binary64 (at cells (from + i)))
      → at cells (from + i) ≡ width_of breaks i
  unfolding widths_kept
  kept_width h i l F =
      same_bits (at cells (from + i)) (width_of breaks i) F (sub-fits binary64 (at breaks (i + 1)) (at breaks i))
      (eqb-true (to_bits binary64 (at cells (from + i))) (to_bits binary64 (width_of breaks i))
      (every_at (λ i. eqb (to_bits binary64 (at cells (from + i))) (to_bits binary64 (width_of breaks i))) n h i l))

  pub widths_kept_law : ((i : ℕ) → i < n → at cells (from + i) ≡ width_of breaks i) → widths_kept from n breaks cells ≡ true
  unfolding widths_kept
  widths_kept_law h =
      every_all (λ i. eqb (to_bits binary64 (at cells (from + i))) (to_bits binary64 (width_of breaks i))) n
      (first_all (λ i. not (eqb (to_bits binary64 (at cells (from + i))) (to_bits binary64 (width_of breaks i)))) n
      (λ i l. rw (h i l, eq-eqb (to_bits binary64 (width_of breaks i)) (to_bits binary64 (width_of breaks i)) refl)))

-- coefficients with the widths behind them
module _ (breaks coefficients : List Float) where
  pub with_length : length (with_widths breaks coefficients) ≡ length coefficients + (length breaks - 1)
  with_length =
      length-append coefficients (list_of (length breaks - 1) (width_of breaks)) ∙ ap (λ (k : ℕ). length coefficients + k)
      (list_length (length breaks - 1) (width_of breaks))

  pub with_kept : (from n : ℕ) → length coefficients ≡ from → length breaks - 1 ≡ n
      → widths_kept from n breaks (with_widths breaks coefficients) ≡ true
  with_kept from n e f = widths_kept_law from n breaks (with_widths breaks coefficients)
      (λ i l. ap (λ (k : ℕ). at (with_widths breaks coefficients) (k + i)) (sym e)
      ∙ get_or-append-add coefficients (list_of (length breaks - 1) (width_of breaks)) i nan
      ∙ list_at (length breaks - 1) (width_of breaks) nan i (omega arith))

-- what the definition of a well-formed curve asks, part by part
pub record Formed (c : Curve) (s : Slices) : Type 0 where
  pub d_low : 1 ≤ c.d
  pub d_high : c.d ≤ 16
  pub k_low : 1 ≤ c.k
  pub k_high : c.k ≤ c.d
  pub axes_formed_law : axes_formed c.axes c.k c.d ≡ true
  pub set_formed_law : set_formed c.k c.segments s.breaks s.coefficients ≡ true
  pub others_formed_law : others_formed (c.d - c.k) c.other_segments s.other_breaks s.other_coefficients ≡ true
  pub range_formed_law : range_formed c.start c.end ≡ true

pub formed : (c : Curve) (s : Slices) → well_formed c s ≡ true → Formed c s
unfolding well_formed
formed c s h =
    let others = others_formed (c.d - c.k) c.other_segments s.other_breaks s.other_coefficients in
    let set = set_formed c.k c.segments s.breaks s.coefficients in
    let axes = axes_formed c.axes c.k c.d in
    let t1 = leb 1 c.d && leb c.d 16 in
    let t2 = t1 && leb 1 c.k in
    let t3 = t2 && leb c.k c.d in
    let t4 = t3 && axes in
    let t5 = t4 && set in
    let p6 = and_parts (t5 && others) (range_formed c.start c.end) h in
    let p5 = and_parts t5 others p6.0 in
    let p4 = and_parts t4 set p5.0 in
    let p3 = and_parts t3 axes p4.0 in
    let p2 = and_parts t2 (leb c.k c.d) p3.0 in
    let p1 = and_parts t1 (leb 1 c.k) p2.0 in
    let p0 = and_parts (leb 1 c.d) (leb c.d 16) p1.0 in
    record {
      d_low = leb-true 1 c.d p0.0;
      d_high = leb-true c.d 16 p0.1;
      k_low = leb-true 1 c.k p1.1;
      k_high = leb-true c.k c.d p2.1;
      axes_formed_law = p3.1;
      set_formed_law = p4.1;
      others_formed_law = p5.1;
      range_formed_law = p6.1;
    }

pub well_formed_law : (c : Curve) (s : Slices) → Formed c s → well_formed c s ≡ true
unfolding well_formed
well_formed_law c s f =
    rw (
      le-leb 1 c.d f.d_low,
      le-leb c.d 16 f.d_high,
      le-leb 1 c.k f.k_low,
      le-leb c.k c.d f.k_high,
      f.axes_formed_law,
      f.set_formed_law,
      f.others_formed_law,
      f.range_formed_law,
    )

pub axes_good : (axes : List ℕ) (k d : ℕ) → axes_formed axes k d ≡ true → Distinct axes k d
unfolding axes_formed
axes_good axes k d h i l =
    let a = get_or axes i 0 in
    let p = and_parts (ltb a d) (eqb (position_of axes i a) i)
    (every_at (λ j. ltb (get_or axes j 0) d && eqb (position_of axes j (get_or axes j 0)) j) k h i l) in
    (ltb-true a d p.0, eqb-true (position_of axes i a) i p.1)

-- only the first k cells matter
pub axes_same : (axes axes' : List ℕ) (k d : ℕ) → ((i : ℕ) → i < k → get_or axes' i 0 ≡ get_or axes i 0) → axes_formed axes k d ≡ true
    → axes_formed axes' k d ≡ true
unfolding axes_formed
axes_same axes axes' k d cell h =
    every_all (λ i. ltb (get_or axes' i 0) d && eqb (position_of axes' i (get_or axes' i 0)) i) k
    (first_all (λ i. not (ltb (get_or axes' i 0) d && eqb (position_of axes' i (get_or axes' i 0)) i)) k
    (λ i l. let a = get_or axes i 0 in
    let good = axes_good axes k d h i l in
    let same : position_of axes' i a ≡ i =
    first_same (λ j. eqb (get_or axes' j 0) a) (λ j. eqb (get_or axes j 0) a) i (λ j b. ap (λ (x : ℕ). eqb x a) (cell j (omega arith)))
    ∙ good.1 in
    rw (cell i l, lt-ltb a d good.0, same, eq-eqb i i refl)))
