-- The polynomial of a spline whose spans all have a width: a segment for each span, which depends on the knots and on the span's own six
-- controls.
use mathlib.Core.Path.{◌≡◌, refl, ap, ◌∙◌}
use mathlib.Core.List.{List, [], ◌∷◌, ◌++◌}
use Prim.Native.Nat.{ℕ, suc, ◌+◌, ◌-◌, ◌*◌, ◌≤◌, ◌<◌}
use native.Mathlib.Omega.{arith}
use lib.ListN.{length, get_or, replicate, length-append}
use lib.Ieee.{Float, nan}
use Rattle.arith.specs.Operations.{floats}
use Rattle.arith.specs.Loop.{each}
use Rattle.arith.proofs.Loops.{each_same, each_runs}
use Rattle.arith.proofs.Rows.{row_end}
use Rattle.window.specs.Rows.{join, list_of}
use Rattle.bspline.specs.Powers.{powers_of}
use Rattle.bspline.specs.Segments.{add_turn, add_row, scaled_by, segment_of, span_start, span_width, span_segments, span_turn, Polynomial, polynomial_of}
use Rattle.bspline.specs.Placed.{Wide}
use Rattle.window.proofs.Joined.{join_ap, join_length, list_length}
use Rattle.bspline.proofs.Lengths.{segments_length}

-- ---- a span's own controls
segment_local : (rows : List Float) (h : Float) (c c' : List Float) (at d : ℕ) → ((r : ℕ) → r < 6 → get_or c (at + r * d) nan ≡ get_or c'
    (at + r * d) nan)
    → segment_of floats rows h c at d ≡ segment_of floats rows h c' at d
unfolding segment_of add_row
segment_local rows h c c' at d k =
    ap (λ (p : List Float). scaled_by floats h p)
    (each_same (add_row floats rows c at d) (add_row floats rows c' at d) 0 6 (replicate 6 floats.zero)
    (λ r p a b. ap (λ (v : Float). each (add_turn floats rows r v) 0 6 p) (k r b)))

-- where two lists of controls agree on the span's six, so do its segments
pub segments_local : (t c c' : List Float) (d span : ℕ) → ((i : ℕ) → i < 6 * d → get_or c ((span - 5) * d + i) nan ≡ get_or c'
    ((span - 5) * d + i) nan)
    → span_segments floats t c d span ≡ span_segments floats t c' d span
segments_local t c c' d span h =
    join_ap d _ _
    (λ i l. segment_local (powers_of floats t span (span_start floats t span)) (span_width floats t span) c c' ((span - 5) * d + i) d
    (λ r g. let e = row_end r 6 d (6 * d) g (omega arith) in
    let q : (span - 5) * d + i + r * d ≡ (span - 5) * d + (i + r * d) = omega arith in
    rw q (h (i + r * d) (omega arith))))

-- ---- breaks and coefficients
module _ (t c : List Float) (d m : ℕ) (wide : Wide t m) (six : 6 ≤ m) where
  abbrev pub break_at : ℕ → Float
  break_at j = get_or t (5 + j) nan

  abbrev pub segments_at : ℕ → List Float
  segments_at j = span_segments floats t c d (5 + j)

  abbrev built : ℕ → Polynomial Float
  built n = record { breaks = list_of n break_at; coefficients = join n segments_at }

  built_is : each (span_turn floats t c d) 5 m (record { breaks = []; coefficients = [] }) ≡ built (m - 5)
  unfolding join span_turn
  built_is =
      each_runs (λ i p. p ≡ built (i - 5)) (span_turn floats t c d) 5 m (record { breaks = []; coefficients = [] }) (omega arith) step refl
    where
      step : (i : ℕ) (p : Polynomial Float) → 5 ≤ i → i < m → p ≡ built (i - 5) → span_turn floats t c d i p ≡ built (i + 1 - 5)
      step i p a b e =
          let q : i + 1 - 5 ≡ suc (i - 5) = omega arith in
          let g : i ≡ 5 + (i - 5) = omega arith in
          rw (wide i a b, q, e)
          (ap (λ (n : ℕ). record {
            breaks = list_of (i - 5) break_at ++ (get_or t n nan ∷ []);
            coefficients = join (i - 5) segments_at ++
                span_segments floats t c d n;
          }) g)

  pub wide_breaks : (polynomial_of floats t c d m).breaks ≡ list_of (m - 5) break_at ++ (floats.one ∷ [])
  unfolding polynomial_of
  wide_breaks = ap (λ (p : Polynomial Float). p.breaks ++ (floats.one ∷ [])) built_is

  pub wide_coefficients : (polynomial_of floats t c d m).coefficients ≡ join (m - 5) segments_at
  unfolding polynomial_of
  wide_coefficients = ap (λ (p : Polynomial Float). p.coefficients) built_is

  -- how many there are
  pub wide_breaks_length : length (polynomial_of floats t c d m).breaks ≡ m - 5 + 1
  wide_breaks_length = ap length wide_breaks ∙ length-append (list_of (m - 5) break_at) (floats.one ∷ [])
      ∙ omega (arith, list_length (m - 5) break_at)

  pub wide_coefficients_length : length (polynomial_of floats t c d m).coefficients ≡ (m - 5) * (6 * d)
  wide_coefficients_length = ap length wide_coefficients ∙ join_length (m - 5) (6 * d) segments_at
      (λ j l. segments_length floats t c d (5 + j))
