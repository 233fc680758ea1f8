-- Widths as bit patterns behind the coefficients of a set.
use mathlib.Core.Path.{◌≡◌, refl, sym, ap, ◌∙◌}
use mathlib.Core.Bool.{Bool, true, false, cond, ◌&&◌}
use mathlib.Core.List.{List, [], ◌∷◌, ◌++◌, map}
use Prim.Native.Nat.{ℕ, ◌+◌, ◌-◌, ◌^◌, ◌<◌}
use native.Mathlib.Omega.{arith}
use borrow.Author.Tests.{eqb-true}
use lib.Dec.{T, eqb}
use lib.ListN.{length, take, drop, get_or, length-map, length-drop, take-append-drop}
use lib.Seq.{get_or-drop, ext_get_or}
use lib.Ieee.{Float, nan, inf, fin, binary64, fits, is_nan, lt}
use lib.Ieee.Bits.{of_bits-to_bits, to_bits-of_bits, of_bits-fits}
use lib.Ieee.Fits.{sub-fits}
use lib.Ieee.Positive.{above}
use Rattle.arith.proofs.Truth.{and_parts}
use Rattle.arith.proofs.Firsts.{every_at}
use Rattle.window.specs.Cells.{at}
use Rattle.window.specs.Rows.{list_of}
use Rattle.window.proofs.Joined.{list_length, list_at, map_at}
use Rattle.curve.specs.Form.{width_of, with_widths, set_formed, others_formed}
use Rattle.curve.proofs.Formed.{set_parts, kept_width}
use Rattle.curve.proofs.SameBits.{width_above}
use Rattle.lane_file.specs.File.{coefficient_count}
use Rattle.lane_file.specs.Curves.{number_of, pattern_of, width_patterns}

-- ---- one width
above_number : (x : Float) → T (above x) → is_nan x ≡ false
unfolding is_nan
above_number nan h = absurd h
above_number (inf s) h = refl
above_number (fin s m e) h = refl

-- a pattern that stands for a number above 0 is the number's
number_above : (n : ℕ) (w : Float) → n < 2 ^ 64 → T (above w) → number_of n ≡ w → n ≡ pattern_of w
number_above n w h a e =
    let k : is_nan (number_of n) ≡ false = ap is_nan e ∙ above_number w a in
    sym (to_bits-of_bits binary64 n h (rw k tt)) ∙ ap pattern_of e

-- ---- all of a set
pub widths_length : (b : List Float) → length (width_patterns b) ≡ length b - 1
widths_length b = list_length (length b - 1) (λ i. pattern_of (width_of b i))

map_append : (c d : List ℕ) → map number_of (c ++ d) ≡ map number_of c ++ map number_of d
map_append [] d = refl
map_append (x ∷ c) d = ap (λ (l : List Float). number_of x ∷ l) (map_append c d)

widths_numbers : (b : List Float) → map number_of (width_patterns b) ≡ list_of (length b - 1) (width_of b)
widths_numbers b =
    let n = length b - 1 in
    let w = width_patterns b in
    let p = length-map w number_of in
    let q = widths_length b in
    let r = list_length n (width_of b) in
    ext_get_or nan (map number_of w) (list_of n (width_of b)) (omega (arith, p, q, r))
    (λ i l. map_at number_of w i 0 nan (omega (arith, p, l))
    ∙ ap number_of (list_at n (λ i. pattern_of (width_of b i)) 0 i (omega (arith, p, q, l)))
    ∙ of_bits-to_bits binary64 (width_of b i) (sub-fits binary64 (at b (i + 1)) (at b i))
    ∙ sym (list_at n (width_of b) nan i (omega (arith, p, q, l))))

-- the cells with widths, as f64
pub widened_numbers : (b : List Float) (c : List ℕ) → map number_of (c ++ width_patterns b) ≡ with_widths b (map number_of c)
widened_numbers b c = map_append c (width_patterns b) ∙ ap (λ (l : List Float). map number_of c ++ l) (widths_numbers b)

-- a well-formed set keeps these patterns
module _ (b : List Float) (c : List ℕ) (fit : (i : ℕ) → T (fits binary64 (at b i))) (held : (i : ℕ) → get_or c i 0 < 2 ^ 64) where
  pub set_back : (m n : ℕ) → set_formed m n b (map number_of c) ≡ true → take (coefficient_count n m) c ++ width_patterns b ≡ c
  set_back m n h =
      let z = set_parts m n b (map number_of c) h in
      let k = coefficient_count n m in
      let p = length-map c number_of in
      let s = z.coefficients_length in
      let e = z.breaks_length in
      let q = widths_length b in
      let d = length-drop k c in
      let cell : (i : ℕ) → i < length b - 1 → get_or c (k + i) 0 ≡ pattern_of (width_of b i) = λ i l.
      let x : at (map number_of c) (k + i) ≡ number_of (get_or c (k + i) 0) = map_at number_of c (k + i) 0 nan (omega (arith, p, s, e, l)) in
      let y = kept_width k n b (map number_of c) z.kept i (omega (arith, e, l)) (rw x (of_bits-fits binary64 (get_or c (k + i) 0))) in
      number_above (get_or c (k + i) 0) (width_of b i) (held (k + i))
      (width_above (at b i) (at b (i + 1)) (fit i) (fit (i + 1))
      (every_at (λ j. lt (at b j) (at b (j + 1))) n z.rising i (omega (arith, e, l))))
      (sym x ∙ y) in
      let rest : width_patterns b ≡ drop k c = ext_get_or 0 (width_patterns b) (drop k c) (omega (arith, p, s, e, q, d))
      (λ i l. list_at (length b - 1) (λ i. pattern_of (width_of b i)) 0 i (omega (arith, q, l)) ∙ sym (cell i (omega (arith, q, l)))
      ∙ sym (get_or-drop k c i 0)) in
      ap (λ (l : List ℕ). take k c ++ l) rest ∙ take-append-drop k c

  pub others_back : (m n : ℕ) → others_formed m n b (map number_of c) ≡ true → take (coefficient_count n m) c ++ width_patterns b ≡ c
  unfolding others_formed
  others_back m n h = go (eqb m 0) h
    where
      go : (t : Bool)
          → cond t (eqb n 0 && eqb (length b) 0 && eqb (length (map number_of c)) 0) (set_formed m n b (map number_of c)) ≡ true
          → take (coefficient_count n m) c ++ width_patterns b ≡ c
      go false h = set_back m n h
      go true h =
          let p = and_parts (eqb n 0 && eqb (length b) 0) (eqb (length (map number_of c)) 0) h in
          let q = and_parts (eqb n 0) (eqb (length b) 0) p.0 in
          let x = eqb-true (length b) 0 q.1 in
          let y = eqb-true (length (map number_of c)) 0 p.1 in
          let k = coefficient_count n m in
          let w = widths_length b in
          let d = length-drop k c in
          let rest : width_patterns b ≡ drop k c = ext_get_or 0 (width_patterns b) (drop k c)
          (omega (arith, w, d, x, y, length-map c number_of)) (λ i l. absurd (omega (arith, w, x, l))) in
          ap (λ (l : List ℕ). take k c ++ l) rest ∙ take-append-drop k c
