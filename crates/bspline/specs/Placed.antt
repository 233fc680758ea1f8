-- Splines and polynomials that lie in the cells of one lent slice.
use Rattle.std.specs.Prelude.{ℕ, ◌+◌, ◌-◌, ◌*◌, ◌≤◌, ◌<◌, ◌≡◌, cond, false, List, [], ◌∷◌, length, Float}
use Rattle.std.specs.Float.Ieee.{le}
use Rattle.arith.specs.Operations.{floats}
use Rattle.arith.specs.Loop.{each}
use Rattle.window.specs.Window.{window, splice}
use Rattle.window.specs.Cells.{+0}
use Rattle.bspline.specs.declared.Spline.{Spline}
use Rattle.bspline.specs.Search.{span_of}
use Rattle.window.specs.Rows.{written}
use Rattle.bspline.specs.Insertion.{knots_with, controls_with}
use Rattle.bspline.specs.Segments.{span_start, span_width, span_segments, Polynomial, polynomial_of}

-- the knots and the controls of the spline at s
abbrev pub knots_at : Spline → List Float → List Float
knots_at s w = window s.knots (s.knots + s.count + 6) w

abbrev pub controls_at : Spline → List Float → List Float
controls_at s w = window s.controls (s.controls + s.count * s.axes) w

-- the slice with x among the knots, and one control more
abbrev pub inserted_at : Spline → Float → List Float → List Float
inserted_at s x w =
    let k = span_of floats (knots_at s w) s.count x in
    splice s.knots (s.knots + s.count + 6 + 1) (knots_with x k (knots_at s w))
    (splice s.controls (s.controls + (s.count + 1) * s.axes) (controls_with floats (knots_at s w) x s.axes s.count k
    (controls_at s w)) w)

-- one span's break and segments after n others: nothing for a span of no width
unfoldable pub span_put : Spline → ℕ → ℕ → ℕ → ℕ → List Float → List Float
span_put s breaks coefficients span n w =
    cond (le (span_width floats (knots_at s w) span) +0) w
    (written (breaks + n) (span_start floats (knots_at s w) span ∷ [])
    (written (coefficients + n * (6 * s.axes)) (span_segments floats (knots_at s w) (controls_at s w) s.axes span) w))

-- and how many there are then
unfoldable pub count_put : Spline → ℕ → ℕ → List Float → ℕ
count_put s span n w = cond (le (span_width floats (knots_at s w) span) +0) n (n + 1)

-- no span of m controls is without a width: span i is then segment i - 5
abbrev pub Wide : List Float → ℕ → Type 0
Wide t m = (i : ℕ) → 5 ≤ i → i < m → le (span_width floats t i) +0 ≡ false

-- the breaks and segments of the spans from `from` up to `to`, each in that place
unfoldable pub spans_put : Spline → ℕ → ℕ → ℕ → ℕ → List Float → List Float
spans_put s breaks coefficients from to w = each (λ span l. span_put s breaks coefficients span (span - 5) l) from to w

-- the polynomial of the spline at s
abbrev pub polynomial_from : Spline → List Float → Polynomial Float
polynomial_from s w = polynomial_of floats (knots_at s w) (controls_at s w) s.axes s.count

-- the slice with that polynomial's breaks and coefficients
abbrev pub polynomial_at : Spline → ℕ → ℕ → List Float → List Float
polynomial_at s breaks coefficients w =
    written breaks (polynomial_from s w).breaks (written coefficients (polynomial_from s w).coefficients w)

-- its number of segments, one less than that of its breaks
abbrev pub segments_at : Spline → List Float → ℕ
segments_at s w = length (polynomial_from s w).breaks - 1
