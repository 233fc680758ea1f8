-- The stored polynomial after the controls of a window changed and the segments that they reach were computed anew.
use mathlib.Core.Path.{◌≡◌, refl, sym, ap, subst, ◌∙◌}
use mathlib.Core.List.{List, [], ◌∷◌}
use Prim.Native.Nat.{ℕ, ◌+◌, ◌-◌, ◌*◌, ◌≤◌, ◌<◌, max, min}
use native.Mathlib.Omega.{arith}
use native.Mathlib.Decide.{dec_lt}
use native.Mathlib.Nat.{mul-le-mul_right}
use lib.ListN.{length, get_or, get_or-append}
use lib.Ieee.{Float, nan}
use Rattle.arith.specs.Operations.{floats}
use Rattle.window.proofs.Windows.{window_cell}
use Rattle.bspline.specs.declared.Spline.{Spline}
use Rattle.window.specs.Rows.{list_of}
use Rattle.bspline.specs.Segments.{span_segments}
use Rattle.bspline.specs.Placed.{knots_at, spans_put}
use Rattle.window.proofs.Joined.{list_at, list_length}
use Rattle.bspline.proofs.JoinedParts.{rows_join, row_of}
use Rattle.bspline.proofs.Lengths.{segments_length}
use Rattle.bspline.proofs.WideSpans.{segments_local, wide_breaks, wide_coefficients}
use Rattle.bspline.proofs.SpansPut.{segment_row, Put, put_all}
use Rattle.fitting_rows.specs.Arrays.{arrays}
use Rattle.fit.proofs.Bounds.{fit_outside}
use Rattle.smoothing.specs.State.{polynomial_in, fit_in}
use Rattle.refinement.specs.declared.plan.Plan.{Plan}
use Rattle.refinement.specs.Memory.{breaks_place, coefficients_place, spline_of, Roomy, Memory, memory_at, with_controls, with_coefficients}
use Rattle.refinement.specs.Memory.{task_in, spline_in, Wide, Stored}
use Rattle.refinement.specs.Kept.{Stale}
use Rattle.refinement.proofs.Memories.{products, knots_are, coefficients_written}

-- ---- a fit leaves the controls outside its window: the polynomial that was stored before it is stale in the window alone
pub fit_stale : (p : Plan) (a z : ℕ) (strength : Float) (x : Memory) → a ≤ z → Stored p x
    → Stale p a z (with_controls (fit_in (task_in p x) a z strength (spline_in p x)).controls x)
unfolding fit_in
fit_stale p a z strength x az s =
    let d = p.axes in
    let ar = arrays x.t x.c p.count d x.s x.y p.samples in
    let q : a + (z - a) ≡ z = omega arith in
    let g : a * d + (z - a) * d ≡ (a + (z - a)) * d = omega arith in
    let e : a * d + (z - a) * d ≡ z * d = g ∙ ap (λ (k : ℕ). k * d) q in
    record {
      old = x.c;
      breaks_were = s.breaks_are;
      coefficients_were = s.coefficients_are;
      before = λ i h. sym (fit_outside ar a z strength i (λ k l q. omega arith));
      after = λ i h. sym (fit_outside ar a z strength i (λ k l q. omega arith));
    }

-- ---- the segments that a window reaches
first_from : (a j : ℕ) → 5 + j < max a 5 → 5 + j < a
first_from a j h = omega arith

last_to : (z m j : ℕ) → min (z + 5) m ≤ 5 + j → 5 + j < m → z ≤ j
last_to z m j h g = omega arith

ordered : (a z m : ℕ) → a ≤ z → z ≤ m → 6 ≤ m → (5 ≤ max a 5) × (max a 5 ≤ min (z + 5) m) × (min (z + 5) m ≤ m)
ordered a z m h g k = (omega arith, omega arith, omega arith)

module _ (p : Plan) (a z : ℕ) (w : List Float) (r : Roomy p (length w)) (az : a ≤ z) (zm : z ≤ p.count)
    (wide : Wide (memory_at p w).t p.count) (st : Stale p a z (memory_at p w)) where
  abbrev m : ℕ
  m = p.count

  abbrev d : ℕ
  d = p.axes

  abbrev x : Memory
  x = memory_at p w

  abbrev B : ℕ
  B = breaks_place p

  abbrev C : ℕ
  C = coefficients_place p

  abbrev after : List Float
  after = spans_put (spline_of p) B C (max a 5) (min (z + 5) m) w

  break_is : (j : ℕ) → 5 + j < m → get_or w (B + j) nan ≡ get_or (knots_at (spline_of p) w) (5 + j) nan
  break_is j h =
      let n = list_length (m - 5) (λ (i : ℕ). get_or x.t (5 + i) nan) in
      sym (window_cell B (B + (m - 5) + 1) w j nan (omega arith))
      ∙ ap (λ (l : List Float). get_or l j nan) (st.breaks_were ∙ wide_breaks x.t st.old d m wide r.six)
      ∙ get_or-append (list_of (m - 5) (λ (i : ℕ). get_or x.t (5 + i) nan)) (floats.one ∷ []) nan j (omega arith)
      ∙ list_at (m - 5) (λ (i : ℕ). get_or x.t (5 + i) nan) nan j (omega arith)
      ∙ ap (λ (l : List Float). get_or l (5 + j) nan) (sym (knots_are p w r))

  put : Put (spline_of p) B C w (max a 5) (min (z + 5) m) after
  put =
      let q = products p (length w) r in
      let o = ordered a z m az zm r.six in
      put_all (spline_of p) B C w (omega arith) (omega arith) (omega arith) (omega arith)
      (subst (λ (t : List Float). Wide t m) (sym (knots_are p w r)) wide) break_is (max a 5) (min (z + 5) m) o.0 o.1 o.2

  -- a segment as it was stored
  stored_row : (j : ℕ) → 5 + j < m → segment_row (spline_of p) C w j ≡ span_segments floats x.t st.old d (5 + j)
  stored_row j h =
      row_of C (6 * d) (m - 5) (λ (i : ℕ). span_segments floats x.t st.old d (5 + i)) w
      (λ i l. segments_length floats x.t st.old d (5 + i))
      (st.coefficients_were ∙ wide_coefficients x.t st.old d m wide r.six) j (omega arith)

  -- a span that the window does not reach
  unreached : (j : ℕ) → ((i : ℕ) → i < 6 * d → get_or st.old (j * d + i) nan ≡ get_or x.c (j * d + i) nan)
      → span_segments floats x.t st.old d (5 + j) ≡ span_segments floats x.t x.c d (5 + j)
  unreached j h =
      let e : 5 + j - 5 ≡ j = omega arith in
      segments_local x.t st.old x.c d (5 + j) (λ i l. rw e (h i l))

  early_same : (j : ℕ) → 5 + j < a → (i : ℕ) → i < 6 * d → get_or st.old (j * d + i) nan ≡ get_or x.c (j * d + i) nan
  early_same j h i l =
      let k : (j + 6) * d ≤ a * d = mul-le-mul_right d (omega arith) in st.before (j * d + i) (omega arith)

  late_same : (j : ℕ) → z ≤ j → (i : ℕ) → i < 6 * d → get_or st.old (j * d + i) nan ≡ get_or x.c (j * d + i) nan
  late_same j h i l =
      let k : z * d ≤ j * d = mul-le-mul_right d h in st.after (j * d + i) (omega arith)

  each_row : (j : ℕ) → j < m - 5 → segment_row (spline_of p) C after j ≡ span_segments floats x.t x.c d (5 + j)
  each_row j h = elim (dec_lt (5 + j) (max a 5)) [
    | yes g ↦ put.early j g ∙ stored_row j (omega arith) ∙ unreached j (early_same j (first_from a j g))
    | no g ↦ elim (dec_lt (5 + j) (min (z + 5) m)) [
      | yes k ↦ put.fresh j (not_below (5 + j) (max a 5) g) k
          ∙ ap (λ (t : List Float). span_segments floats t x.c d (5 + j)) (knots_are p w r)
      | no k ↦
          let l = not_below (5 + j) (min (z + 5) m) k in
          put.late j l (omega arith) ∙ stored_row j (omega arith) ∙ unreached j (late_same j (last_to z m j l (omega arith)))
    ]
  ]
    where
      not_below : (i k : ℕ) → (i < k → ⊥) → k ≤ i
      not_below i k h = omega arith

  refreshed : memory_at p after ≡ with_coefficients (polynomial_in d (spline_in p x)).coefficients x
  refreshed =
      coefficients_written p w r after put.below
      ∙ ap (λ (l : List Float). with_coefficients l x)
      (rows_join C (6 * d) (m - 5) (λ (j : ℕ). span_segments floats x.t x.c d (5 + j)) after each_row
      ∙ sym (wide_coefficients x.t x.c d m wide r.six))

  refreshed_stored : Stored p (memory_at p after)
  refreshed_stored =
      subst (Stored p) (sym refreshed)
      (record {
        breaks_are = st.breaks_were ∙ wide_breaks x.t st.old d m wide r.six ∙ sym (wide_breaks x.t x.c d m wide r.six);
        coefficients_are = refl;
      })

-- ---- the same where the offsets and the range are what functions answered
module _ (p : Plan) (s : Spline) (is : s ≡ spline_of p) (a z from to : ℕ) (ef : from ≡ max a 5) (et : to ≡ min (z + 5) p.count) where
  abbrev Asked : Spline → ℕ → Type 0
  Asked v cells =
      (5 ≤ from) × (to ≤ v.count) × (v.knots + v.count + 6 ≤ v.controls) × (v.controls + v.count * v.axes ≤ breaks_place p)
      × (breaks_place p + v.count ≤ coefficients_place p + 4) × (coefficients_place p + (v.count - 5) * (6 * v.axes) ≤ cells)

  pub refresh_asks : (cells : ℕ) → Roomy p cells → a ≤ z → z ≤ p.count → Asked s cells
  refresh_asks cells r az zm =
      let q = products p cells r in
      let o = ordered a z p.count az zm r.six in
      subst (λ (v : Spline). Asked v cells) (sym is) (
        rw ef o.0,
        rw et o.2,
        omega (arith, r.knots_fit),
        omega (arith, r.knots_fit),
        omega (arith, r.knots_fit),
        omega (arith, r.cells_fit),
      )

  module _ (w w' : List Float) (r : Roomy p (length w)) (az : a ≤ z) (zm : z ≤ p.count) (wide : Wide (memory_at p w).t p.count)
      (st : Stale p a z (memory_at p w)) (e : w' ≡ spans_put s (breaks_place p) (coefficients_place p) from to w) where
    put_is : w' ≡ spans_put (spline_of p) (breaks_place p) (coefficients_place p) (max a 5) (min (z + 5) p.count) w
    put_is = e ∙ ap (λ (v : Spline). spans_put v (breaks_place p) (coefficients_place p) from to w) is ∙ rw (ef, et)

    pub refresh_memory : memory_at p w' ≡ with_coefficients (polynomial_in p.axes (spline_in p (memory_at p w))).coefficients (memory_at p w)
    refresh_memory = ap (memory_at p) put_is ∙ refreshed p a z w r az zm wide st

    pub refresh_stored : Stored p (memory_at p w')
    refresh_stored = subst (λ (l : List Float). Stored p (memory_at p l)) (sym put_is) (refreshed_stored p a z w r az zm wide st)
