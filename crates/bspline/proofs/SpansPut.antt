-- What `spans_put` leaves in its slice: the segments of the spans in the range are those of the spline, all others are as they were.
use mathlib.Core.Path.{◌≡◌, refl, sym, ap, ◌∙◌}
use mathlib.Core.List.{List, [], ◌∷◌}
use Prim.Native.Nat.{ℕ, ◌+◌, ◌-◌, ◌*◌, ◌≤◌, ◌<◌}
use native.Mathlib.Omega.{arith}
use native.Mathlib.Decide.{dec_lt}
use lib.ListN.{length, get_or, set}
use lib.Seq.{set-get_or}
use lib.Ieee.{Float, nan}
use Rattle.arith.specs.Operations.{floats}
use Rattle.arith.proofs.Loops.{each_runs}
use Rattle.arith.proofs.Rows.{row_end}
use Rattle.window.specs.Window.{window}
use Rattle.window.proofs.Windows.{window_cell, window_same, window_before, window_after}
use Rattle.bspline.specs.declared.Spline.{Spline}
use Rattle.window.specs.Rows.{written}
use Rattle.bspline.specs.Segments.{span_segments}
use Rattle.bspline.specs.Placed.{knots_at, controls_at, span_put, spans_put, Wide}
use Rattle.bspline.proofs.Lengths.{segments_length}
use Rattle.window.proofs.Written.{written_length, set_written}

-- the cells of segment j
abbrev pub segment_row : Spline → ℕ → List Float → ℕ → List Float
segment_row s C w j = window (C + j * (6 * s.axes)) (C + j * (6 * s.axes) + 6 * s.axes) w

module _ (s : Spline) (B C : ℕ) (w₀ : List Float) where
  abbrev t : List Float
  t = knots_at s w₀

  abbrev c : List Float
  c = controls_at s w₀

  -- the slice w, which was w₀, with the spans from `from` up to i done
  pub record Put (from i : ℕ) (w : List Float) : Type 0 where
    pub long : length w ≡ length w₀
    pub below : (b g : ℕ) → b ≤ g → g ≤ C → window b g w ≡ window b g w₀
    pub fresh : (j : ℕ) → from ≤ 5 + j → 5 + j < i → segment_row s C w j ≡ span_segments floats t c s.axes (5 + j)
    pub early : (j : ℕ) → 5 + j < from → segment_row s C w j ≡ segment_row s C w₀ j
    pub late : (j : ℕ) → i ≤ 5 + j → 5 + j < s.count → segment_row s C w j ≡ segment_row s C w₀ j

  module _ (order : s.knots + s.count + 6 ≤ s.controls) (apart : s.controls + s.count * s.axes ≤ B) (gap : B + s.count ≤ C + 4)
      (room : C + (s.count - 5) * (6 * s.axes) ≤ length w₀) (wide : Wide t s.count)
      (breaks_are : (j : ℕ) → 5 + j < s.count → get_or w₀ (B + j) nan ≡ get_or t (5 + j) nan) where
    module _ (from i : ℕ) (w : List Float) (five : 5 ≤ from) (after : from ≤ i) (inside : i < s.count) (p : Put from i w) where
      abbrev n : ℕ
      n = i - 5

      abbrev r : ℕ
      r = 6 * s.axes

      abbrev segs : List Float
      segs = span_segments floats t c s.axes i

      -- the slice with the span's segments written
      abbrev w₁ : List Float
      w₁ = written (C + n * r) segs w

      cells : length segs ≡ r
      cells = segments_length floats t c s.axes i

      fits : C + n * r + r ≤ length w
      fits = let e = row_end n (s.count - 5) r ((s.count - 5) * r) (omega arith) (omega arith) in omega (arith, p.long)

      long₁ : length w₁ ≡ length w
      long₁ = written_length (C + n * r) segs w (omega (arith, cells, fits))

      below₁ : (b g : ℕ) → b ≤ g → g ≤ C → window b g w₁ ≡ window b g w
      below₁ b g h k = window_before (C + n * r) (C + n * r + length segs) segs w b g h (omega arith) (omega (arith, fits))

      -- the break is written as it was
      cell : get_or w₁ (B + n) nan ≡ get_or t i nan
      cell =
          let e : B + n + 0 ≡ B + n = omega arith in
          let q : 5 + n ≡ i = omega arith in
          sym (window_cell (B + n) (B + n + 1) w₁ 0 nan (omega arith) ∙ ap (λ (k : ℕ). get_or w₁ k nan) e)
          ∙ ap (λ (l : List Float). get_or l 0 nan)
          (below₁ (B + n) (B + n + 1) (omega arith) (omega arith) ∙ p.below (B + n) (B + n + 1) (omega arith) (omega arith))
          ∙ window_cell (B + n) (B + n + 1) w₀ 0 nan (omega arith)
          ∙ ap (λ (k : ℕ). get_or w₀ k nan) e
          ∙ breaks_are n (omega arith)
          ∙ ap (λ (k : ℕ). get_or t k nan) q

      break_same : written (B + n) (get_or t i nan ∷ []) w₁ ≡ w₁
      break_same =
          sym (set_written w₁ (B + n) (get_or t i nan) (omega (arith, fits, long₁)))
          ∙ ap (λ (v : Float). set w₁ (B + n) v) (sym cell)
          ∙ set-get_or w₁ (B + n) nan

      put_is : span_put s B C i n w ≡ w₁
      unfolding span_put
      put_is =
          let tk : knots_at s w ≡ t = p.below s.knots (s.knots + s.count + 6) (omega arith) (omega arith) in
          let ck : controls_at s w ≡ c = p.below s.controls (s.controls + s.count * s.axes) (omega arith) (omega arith) in
          rw (tk, ck, wide i (omega arith) inside) break_same

      -- the other segments, and the span's own
      other : (j : ℕ) → 5 + j < i → segment_row s C w₁ j ≡ segment_row s C w j
      other j h =
          let e = row_end j n r (n * r) (omega arith) (omega arith) in
          window_before (C + n * r) (C + n * r + length segs) segs w (C + j * r) (C + j * r + r) (omega arith) (omega arith)
          (omega (arith, fits))

      later : (j : ℕ) → i < 5 + j → segment_row s C w₁ j ≡ segment_row s C w j
      later j h =
          let e = row_end n j r (j * r) (omega arith) (omega arith) in
          window_after (C + n * r) (C + n * r + length segs) segs w (C + j * r) (C + j * r + r)
          (omega (arith, cells)) (omega arith) (omega (arith, cells, fits)) (omega arith)

      here : (j : ℕ) → 5 + j ≡ i → segment_row s C w₁ j ≡ span_segments floats t c s.axes (5 + j)
      here j h =
          let e : j ≡ n = omega arith in
          let q : C + n * r + r ≡ C + n * r + length segs = omega (arith, cells) in
          rw (h, e)
          (ap (λ (k : ℕ). window (C + n * r) k w₁) q
          ∙ window_same (C + n * r) (C + n * r + length segs) segs w (omega (arith, fits)) (omega arith))

      next : Put from (i + 1) w₁
      next =
          record {
            long = long₁ ∙ p.long;
            below = λ b g h k. below₁ b g h k ∙ p.below b g h k;
            fresh = λ j h k. elim (dec_lt (5 + j) i) [ yes a ↦ other j a ∙ p.fresh j h a | no a ↦ here j (omega arith) ];
            early = λ j h. other j (omega arith) ∙ p.early j h;
            late = λ j h k. later j (omega arith) ∙ p.late j (omega arith) k;
          }

      put_next : Put from (i + 1) (span_put s B C i n w)
      put_next = rw put_is next

    pub put_all : (from to : ℕ) → 5 ≤ from → from ≤ to → to ≤ s.count → Put from to (spans_put s B C from to w₀)
    unfolding spans_put
    put_all from to five up end =
        each_runs (Put from) (λ span l. span_put s B C span (span - 5) l) from to w₀ up (λ i l a b h. put_next from i l five a (omega arith)
        h)
        (record { long = refl; below = λ b g h k. refl; fresh = λ j h k. absurd (omega arith); early = λ j h. refl; late = λ j h k. refl })
