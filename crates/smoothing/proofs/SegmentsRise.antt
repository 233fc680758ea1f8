-- The polynomial of rising knots has a segment for each span, and its breaks are the knots: strictly rising, from 0 to 1.
use Rattle.std.proofs.Common.{◌≡◌, ℕ, suc, ◌+◌, ◌-◌, ◌*◌, ◌<◌, ◌≤◌, true, false, not, T, List, [], ◌∷◌, ◌++◌, length, sym, refl, ap, ◌∙◌, subst, arith, length-append, get_or-append-add}
use native.Mathlib.Decide.{dec_lt}
use lib.ListN.{get_or-append}
use lib.Ieee.{Float, nan, binary64, lt, le, eq, sub, of_bits}
use Rattle.arith.specs.Operations.{floats}
use Rattle.arith.specs.Loop.{each}
use Rattle.arith.proofs.Loops.{each_runs}
use Rattle.window.specs.Cells.{+0, at}
use Rattle.fraction.proofs.Comparison.{above_not_le}
use Rattle.window.specs.Rows.{join, list_of}
use Rattle.bspline.specs.Segments.{Polynomial, span_width, polynomial_of}
use Rattle.bspline.proofs.Breaks.{break_turn, breaks_are, polynomial_room}
use Rattle.window.proofs.Joined.{list_at, list_length}
use Rattle.fraction.proofs.Difference.{difference_above}
use Rattle.curve.specs.Form.{breaks_rise, with_widths, set_formed}
use Rattle.curve.proofs.Formed.{set_formed_law, with_length, with_kept}
use Rattle.arith.proofs.Firsts.{first_all, every_all}
use Rattle.smoothing.specs.Rising.{Rising}

zero_equal : eq +0 +0 ≡ true
unfolding eq of_bits
zero_equal = refl

one_equal : eq floats.one (of_bits binary64 0x3ff0_0000_0000_0000) ≡ true
unfolding eq of_bits
one_equal = refl

module _ (t : List Float) (m : ℕ) (r : Rising t m) where
  abbrev knot_at : ℕ → Float
  knot_at j = at t (5 + j)

  pub wide : (i : ℕ) → 5 ≤ i → i < m → le (span_width floats t i) +0 ≡ false
  wide i a b =
      above_not_le binary64 (sub binary64 (at t (i + 1)) (at t i))
      (difference_above binary64 (at t i) (at t (i + 1)) (r.held i a (omega arith)) (r.held (i + 1) (omega arith) (omega arith))
      (r.number i a (omega arith)) (r.number (i + 1) (omega arith) (omega arith))
      (subst T (sym (r.rise i a b)) tt))

  kept : each (break_turn floats t) 5 m [] ≡ list_of (m - 5) knot_at
  unfolding join break_turn
  kept =
      each_runs (λ i l. l ≡ list_of (i - 5) knot_at) (break_turn floats t) 5 m [] (omega (arith, r.six)) step refl
    where
      step : (i : ℕ) (l : List Float) → 5 ≤ i → i < m → l ≡ list_of (i - 5) knot_at → break_turn floats t i l ≡ list_of (i + 1 - 5) knot_at
      step i l a b h =
          let e : i + 1 - 5 ≡ suc (i - 5) = omega arith in
          let g : i ≡ 5 + (i - 5) = omega arith in
          rw (wide i a b, e, h) (ap (λ (n : ℕ). list_of (i - 5) knot_at ++ (at t n ∷ [])) g)

  -- break i, also the last
  breaks_list : (c : List Float) (d : ℕ) → (polynomial_of floats t c d m).breaks ≡ list_of (m - 5) knot_at ++ (floats.one ∷ [])
  breaks_list c d = breaks_are floats t c d m ∙ ap (λ (l : List Float). l ++ (floats.one ∷ [])) kept

  module _ (c : List Float) (d : ℕ) where
    abbrev p : Polynomial Float
    p = polynomial_of floats t c d m

    pub breaks_count : length p.breaks ≡ m - 5 + 1
    breaks_count =
        ap length (breaks_list c d) ∙ length-append (list_of (m - 5) knot_at) (floats.one ∷ []) ∙ omega (arith, list_length (m - 5) knot_at)

    pub break_at_law : (i : ℕ) → i ≤ m - 5 → at p.breaks i ≡ knot_at i
    break_at_law i h = ap (λ (l : List Float). at l i) (breaks_list c d) ∙ elim (dec_lt i (m - 5)) [
      | yes g ↦ get_or-append (list_of (m - 5) knot_at) (floats.one ∷ []) nan i (omega (arith, list_length (m - 5) knot_at))
          ∙ list_at (m - 5) knot_at nan i g
      | no g ↦
          let e : i ≡ length (list_of (m - 5) knot_at) + 0 = omega (arith, list_length (m - 5) knot_at) in
          let six = r.six in
          let l : m ≡ 5 + i = omega arith in
          ap (λ (n : ℕ). at (list_of (m - 5) knot_at ++ (floats.one ∷ [])) n) e
          ∙ get_or-append-add (list_of (m - 5) knot_at) (floats.one ∷ []) 0 nan
          ∙ sym r.last ∙ ap (λ (n : ℕ). at t n) l
    ]

    breaks_rise_law : breaks_rise p.breaks (m - 5) ≡ true
    breaks_rise_law =
        every_all (λ i. lt (at p.breaks i) (at p.breaks (i + 1))) (m - 5)
        (first_all (λ i. not (lt (at p.breaks i) (at p.breaks (i + 1)))) (m - 5)
        (λ i h. let e : 5 + i + 1 ≡ 5 + (i + 1) = omega arith in
        rw (break_at_law i (omega arith), break_at_law (i + 1) (omega arith), ← e) (ap not (r.rise (5 + i) (omega arith) (omega arith)))))

    -- a set of segments as the curve's form asks it
    pub segments_formed_law : m ≤ 20005 → set_formed d (m - 5) p.breaks (with_widths p.breaks p.coefficients) ≡ true
    segments_formed_law h =
        let six = r.six in
        let room = polynomial_room floats t c d m (omega arith) in
        let n = breaks_count in
        let back : 5 + (m - 5) ≡ m = omega arith in
        let some : length p.breaks - 1 ≡ m - 5 = omega (arith, n) in
        let cells : length p.coefficients ≡ 6 * ((m - 5) * d) = room.1 ∙ ap (λ (k : ℕ). (k - 1) * (6 * d)) n ∙ shape (m - 5) in
        set_formed_law d (m - 5) p.breaks (with_widths p.breaks p.coefficients)
        (record {
          some = omega arith;
          most = omega arith;
          breaks_length = n;
          coefficients_length = omega (arith, with_length p.breaks p.coefficients, cells, some);
          from_zero = rw (break_at_law 0 (omega arith), r.first) zero_equal;
          rising = breaks_rise_law;
          to_one = rw (break_at_law (m - 5) (omega arith), back, r.last) one_equal;
          kept = with_kept p.breaks p.coefficients (6 * ((m - 5) * d)) (m - 5) cells some;
        })
      where
        shape : (k : ℕ) → (k + 1 - 1) * (6 * d) ≡ 6 * (k * d)
        shape k = let e : k + 1 - 1 ≡ k = omega arith in rw e (omega arith)
