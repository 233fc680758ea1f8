-- `segments::polynomial` leaves in its slice what the definition says, in terms of the slice's parts at entry.
use mathlib.Core.Path.{◌≡◌, refl, ap, ◌∙◌}
use mathlib.Core.Bool.{Bool, true, false, cond}
use mathlib.Core.List.{List, [], ◌∷◌, ◌++◌}
use Prim.Native.Nat.{ℕ, ◌+◌, ◌-◌, ◌*◌, ◌≤◌, ◌<◌}
use native.Mathlib.Omega.{arith}
use lib.ListN.{length, drop, get_or, set, length-append}
use lib.Seq.{get_or-take, get_or-drop}
use lib.Ieee.{Float, nan, binary64, of_bits, sub, le}
use Rattle.arith.specs.Operations.{floats}
use Rattle.arith.specs.Loop.{each}
use Rattle.arith.proofs.Loops.{each_done}
use Rattle.arith.proofs.Rows.{row_end, rows_le}
use Rattle.window.specs.Cells.{+0}
use Rattle.window.specs.Window.{window}
use Rattle.window.proofs.Windows.{window_before}
use Rattle.bspline.specs.declared.Spline.{Spline}
use Rattle.bspline.specs.Powers.{powers_of}
use Rattle.window.specs.Rows.{join, written}
use Rattle.bspline.specs.Segments.{segment_of, span_start, span_width, span_segments, span_turn, Polynomial, polynomial_of}
use Rattle.bspline.specs.Placed.{knots_at, controls_at, span_put, count_put, polynomial_at, segments_at}
use Rattle.window.proofs.Joined.{join_length}
use Rattle.bspline.proofs.Lengths.{segment_length, segments_length}
use Rattle.arith.proofs.Runs.{each_last}
use Rattle.window.proofs.Written.{written_none, written_length, written_next, written_apart, set_written, set_next}

-- a knot of the spline, read from the slice
pub knot_is : (s : Spline) (w : List Float) (i : ℕ) → i < s.count + 6 → get_or (knots_at s w) i nan ≡ get_or w (s.knots + i) nan
knot_is s w i h =
    get_or-take (s.knots + s.count + 6 - s.knots) (drop s.knots w) i nan (omega arith) ∙ get_or-drop s.knots w i nan

-- what one span reads and writes lies in the slice
pub span_room : (c m d span n breaks to size : ℕ) → 5 ≤ span → span < m → n + 5 ≤ span → c + m * d ≤ breaks → breaks + m ≤ to + 4
    → to + (m - 5) * (6 * d) ≤ size
    → (c + (span - 5) * d + 6 * d ≤ c + m * d) × (c + m * d ≤ to + n * (6 * d)) × (to + n * (6 * d) + 6 * d ≤ size)
span_room c m d span n breaks to size five l k h g room =
    let e = rows_le (span - 5 + 6) m d (m * d) (omega arith) (omega arith) in
    let f = row_end n (m - 5) (6 * d) ((m - 5) * (6 * d)) (omega arith) (omega arith) in
    (omega arith, omega arith, omega arith)

module _ (s : Spline) (span : ℕ) (w : List Float) (inside : span < s.count) where
  abbrev first : Float
  first = get_or w (s.knots + span) nan

  abbrev width : Float
  width = sub binary64 (get_or w (s.knots + span + 1) nan) first

  width_is : span_width floats (knots_at s w) span ≡ width
  width_is =
      let e : s.knots + (span + 1) ≡ s.knots + span + 1 = omega arith in
      rw (knot_is s w span (omega arith), knot_is s w (span + 1) (omega arith), e)

  -- a span of no width is passed over
  pub span_skipped : (breaks to n : ℕ) → le width +0 ≡ true → (n ≡ count_put s span n w) × (w ≡ span_put s breaks to span n w)
  unfolding count_put span_put
  span_skipped breaks to n e =
      let t : le (span_width floats (knots_at s w) span) +0 ≡ true = rw width_is e in
      (rw t, rw t)

  -- the others are written
  pub span_put_law : (breaks to n : ℕ) (rows : List Float) → le width +0 ≡ false → rows ≡ powers_of floats (knots_at s w) span first
      → to + n * (6 * s.axes) + 6 * s.axes ≤ length w → breaks + n < length w
      → (n + 1 ≡ count_put s span n w)
      × (set (written (to + n * (6 * s.axes)) (join s.axes (λ i. segment_of floats rows width (controls_at s w) ((span - 5) * s.axes + i)
      s.axes)) w) (breaks + n) first ≡ span_put s breaks to span n w)
  unfolding count_put span_put
  span_put_law breaks to n rows e r room more =
      let t : le (span_width floats (knots_at s w) span) +0 ≡ false = rw width_is e in
      let k = knot_is s w span (omega arith) in
      let segs = join s.axes (λ i. segment_of floats rows width (controls_at s w) ((span - 5) * s.axes + i) s.axes) in
      let n6 = join_length s.axes 6 (λ i. segment_of floats rows width (controls_at s w) ((span - 5) * s.axes + i) s.axes)
      (λ i l. segment_length floats rows width (controls_at s w) ((span - 5) * s.axes + i) s.axes) in
      let long = written_length (to + n * (6 * s.axes)) segs w (omega arith) in
      (rw t, set_written (written (to + n * (6 * s.axes)) segs w) (breaks + n) first (rw long more) ∙ rw (t, r, width_is, k))

-- The polynomial as far as the spans before `span`: n segments, in their places in the slice w, which was w₀.
module _ (s : Spline) (breaks to : ℕ) (w₀ : List Float) where
  abbrev pub so_far : ℕ → Polynomial Float
  so_far span = each (span_turn floats (knots_at s w₀) (controls_at s w₀) s.axes) 5 span (record { breaks = []; coefficients = [] })

  pub record Partly (span n : ℕ) (w : List Float) : Type 0 where
    pub few : n + 5 ≤ span
    pub count : length (so_far span).breaks ≡ n
    pub cells : length (so_far span).coefficients ≡ n * (6 * s.axes)
    pub long : length w ≡ length w₀
    pub here : w ≡ written breaks (so_far span).breaks (written to (so_far span).coefficients w₀)

  pub partly_start : Partly 5 0 w₀
  partly_start =
      let e = each_done (span_turn floats (knots_at s w₀) (controls_at s w₀) s.axes) 5 5 (record { breaks = []; coefficients = [] })
      (omega arith) in
      record {
        few = omega arith;
        count = rw e;
        cells = rw e (omega arith);
        long = refl;
        here =
            rw (e, written_none to w₀, written_none breaks w₀);
      }

  module _ (order : s.knots + s.count + 6 ≤ s.controls) (apart : s.controls + s.count * s.axes ≤ breaks)
      (gap : breaks + s.count ≤ to + 4)
      (room : to + (s.count - 5) * (6 * s.axes) ≤ length w₀) where
    module _ (span n : ℕ) (w : List Float) (inside : span < s.count) (five : 5 ≤ span) (p : Partly span n w) where
      rooms : (s.controls + (span - 5) * s.axes + 6 * s.axes ≤ s.controls + s.count * s.axes)
          × (s.controls + s.count * s.axes ≤ to + n * (6 * s.axes)) × (to + n * (6 * s.axes) + 6 * s.axes ≤ length w₀)
      rooms = span_room s.controls s.count s.axes span n breaks to (length w₀) five inside p.few apart gap room

      -- the spline is as it was
      untouched : (a e : ℕ) → a ≤ e → e ≤ breaks → window a e w ≡ window a e w₀
      untouched a e h g =
          let bs = (so_far span).breaks in
          let cs = (so_far span).coefficients in
          let k = p.cells in
          let r = rooms in
          let l = written_length to cs w₀ (omega arith) in
          rw p.here (window_before breaks (breaks + length bs) bs (written to cs w₀) a e h g (omega arith)
          ∙ window_before to (to + length cs) cs w₀ a e h (omega arith) (omega arith))

      knots_same : knots_at s w ≡ knots_at s w₀
      knots_same = untouched s.knots (s.knots + s.count + 6) (omega arith) (omega arith)

      controls_same : controls_at s w ≡ controls_at s w₀
      controls_same = untouched s.controls (s.controls + s.count * s.axes) (omega arith) (omega arith)

      abbrev first₀ : Float
      first₀ = span_start floats (knots_at s w₀) span

      abbrev segs : List Float
      segs = span_segments floats (knots_at s w₀) (controls_at s w₀) s.axes span

      -- one span more, by cases on its width
      next : (b : Bool) → le (span_width floats (knots_at s w₀) span) +0 ≡ b
          → Partly (span + 1) (cond b n (n + 1)) (cond b w (written (breaks + n) (first₀ ∷ []) (written (to + n * (6 * s.axes)) segs w)))
      unfolding span_turn
      next true e =
          let q : so_far (span + 1) ≡ so_far span = each_last (span_turn floats (knots_at s w₀) (controls_at s w₀) s.axes) 5 span
          (record { breaks = []; coefficients = [] }) five ∙ rw e in
          record { few = omega (arith, p.few); count = rw q p.count; cells = rw q p.cells; long = p.long; here = rw q p.here }
      next false e =
          let bs = (so_far span).breaks in
          let cs = (so_far span).coefficients in
          let q : so_far (span + 1) ≡ record { breaks = bs ++ (first₀ ∷ []); coefficients = cs ++ segs } =
          each_last (span_turn floats (knots_at s w₀) (controls_at s w₀) s.axes) 5 span (record { breaks = []; coefficients = [] }) five
          ∙ rw e in
          let r = rooms in
          let kb = p.count in
          let kc = p.cells in
          let ks = segments_length floats (knots_at s w₀) (controls_at s w₀) s.axes span in
          let few = p.few in
          let lc = written_length to cs w₀ (omega arith) in
          let ly = written_length to (cs ++ segs) w₀ (rw (length-append) (omega arith)) in
          let lw = p.long in
          let l1 = written_length (to + n * (6 * s.axes)) segs w (omega arith) in
          record {
            few = omega arith;
            count = rw q (length-append bs (first₀ ∷ []) ∙ omega arith);
            cells = rw q (length-append cs segs ∙ omega arith);
            long = written_length (breaks + n) (first₀ ∷ []) (written (to + n * (6 * s.axes)) segs w) (rw l1 (omega arith)) ∙ l1 ∙ lw;
            here = rw q
                (ap (λ (i : ℕ). written i (first₀ ∷ []) (written (to + n * (6 * s.axes)) segs w)) {x = breaks + n} {y = breaks + length bs}
                (omega arith)
                ∙ ap (λ (i : ℕ). written (breaks + length bs) (first₀ ∷ []) (written i segs w)) {x = to + n * (6 * s.axes)}
                {y = to + length cs} (omega arith)
                ∙ ap (λ (l : List Float). written (breaks + length bs) (first₀ ∷ []) (written (to + length cs) segs l)) p.here
                ∙ ap (λ (l : List Float). written (breaks + length bs) (first₀ ∷ []) l)
                (written_apart breaks (to + length cs) bs segs (written to cs w₀) (omega arith) (rw lc (omega arith))
                ∙ ap (λ (l : List Float). written breaks bs l) (written_next to cs w₀ segs (omega arith)))
                ∙ written_next breaks bs (written to (cs ++ segs) w₀) (first₀ ∷ []) (rw ly (omega arith)));
          }

      pub partly_next : Partly (span + 1) (count_put s span n w) (span_put s breaks to span n w)
      unfolding count_put span_put
      partly_next = rw (knots_same, controls_same) (next (le (span_width floats (knots_at s w₀) span) +0) refl)

    -- all spans, and the last break
    pub partly_done : (n : ℕ) (w : List Float) → 5 < s.count → Partly s.count n w
        → (n ≡ segments_at s w₀) × (set w (breaks + n) (of_bits binary64 0x3ff0_0000_0000_0000) ≡ polynomial_at s breaks to w₀)
    unfolding polynomial_of
    partly_done n w six p =
        let bs = (so_far s.count).breaks in
        let cs = (so_far s.count).coefficients in
        let kb = p.count in
        let kc = p.cells in
        let few = p.few in
        let lc = written_length to cs w₀ (omega (
          arith,
          rows_le n (s.count - 5) (6 * s.axes) ((s.count - 5) * (6 * s.axes))
              (omega arith) (omega arith),
        )) in
        let one = of_bits binary64 0x3ff0_0000_0000_0000 in (
          rw (length-append bs (one ∷ [])) (omega arith),
          ap (λ (i : ℕ). set w i one) {x = breaks + n} {y = breaks + length bs} (omega arith)
              ∙ ap (λ (l : List Float). set l (breaks + length bs) one) p.here
              ∙ set_next breaks bs (written to cs w₀) one (rw lc (omega arith)),
        )
