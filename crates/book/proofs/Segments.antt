-- The six coefficients that the code makes for a span and an axis: as a polynomial of the local parameter they are the sum of the span's
-- six functions times the controls.
use mathlib.Core.Path.{◌≡◌, sym, ap, ◌∙◌}
use mathlib.Core.List.{List, [], ◌∷◌}
use Prim.Native.Nat.{ℕ, zero, suc, ◌+◌, ◌-◌, ◌*◌, ◌≤◌, ◌<◌}
use native.Mathlib.Omega.{arith}
use lib.ListN.{get_or}
use Rattle.arith.specs.Loop.{each, turns}
use Rattle.bspline.specs.Powers.{powers_of}
use Rattle.bspline.specs.Segments.{add_turn, add_row, scale_turn, segment_of}
use Rattle.fraction.specs.Polynomial.{horner, polynomial}
use Rattle.fraction.specs.Rational.{ℚ, ◌+q◌, ◌-q◌, ◌*q◌, 𝟘}
use Rattle.fraction.specs.RationalRing.{rational_ring}
use Rattle.fraction.specs.Ring.{Expression, var, ◌⊕◌, ◌⊗◌, solve}
use Rattle.fraction.specs.Sum.{sum}
use Rattle.fraction.proofs.Polynomial.{horner_is_sum}
use Rattle.fraction.proofs.Sum.{sum_equal}
use Rattle.book.specs.Fractions.{fractions}
use Rattle.book.specs.Basis.{knot, basis, on_span}
use Rattle.book.specs.Curve.{curve, axis_control}
use Rattle.book.proofs.Terms.{n0, n1, horner_term}
use Rattle.book.proofs.Powers.{row_is}
use Rattle.book.proofs.Curves.{curve_six}

-- ---- the solver's variables: cell k of row r of the table, control r, the width h and the parameter y
abbrev listed : ℕ → ℕ → (ℕ → ℚ) → List ℚ → List ℚ
listed zero i f l = l
listed (suc n) i f l = f i ∷ listed n (i + 1) f l

abbrev cell : ℕ → ℕ → Expression
cell r k = var (6 * r + k)

abbrev control : ℕ → Expression
control r = var (36 + r)

abbrev width : Expression
width = var 42

abbrev parameter : Expression
parameter = var 43

-- `scale` at coefficient k
abbrev scale : ℕ → Expression
scale zero = n1
scale (suc k) = scale k ⊗ width

-- coefficient k as the code makes it
abbrev coefficient : ℕ → Expression
coefficient k =
    (n0 ⊕ cell 0 k ⊗ control 0 ⊕ cell 1 k ⊗ control 1 ⊕ cell 2 k ⊗ control 2 ⊕ cell 3 k ⊗ control 3 ⊕ cell 4 k ⊗ control 4 ⊕ cell 5 k ⊗
    control 5) ⊗ scale k

-- row r at width * parameter, times control r
abbrev row : ℕ → Expression
row r = horner_term (width ⊗ parameter) (cell r 0) (cell r 1) (cell r 2) (cell r 3) (cell r 4) (cell r 5) ⊗ control r

segment_rows : (b : List ℚ) (h : ℚ) (c : List ℚ) (at d : ℕ) (y : ℚ)
    → horner rational_ring 5 (λ k. get_or (segment_of fractions b h c at d) k 𝟘) y ≡ sum rational_ring 5 (λ r. horner rational_ring 5
    (λ k. get_or b (6 * r + k) 𝟘) (h *q y) *q get_or c (at + r * d) 𝟘)
unfolding segment_of scale_turn add_row add_turn each turns
segment_rows b h c at d y =
    solve rational_ring (listed 36 0 (λ i. get_or b i 𝟘) (listed 6 0 (λ r. get_or c (at + r * d) 𝟘) (h ∷ y ∷ [])))
    (horner_term parameter (coefficient 0) (coefficient 1) (coefficient 2) (coefficient 3) (coefficient 4) (coefficient 5))
    (row 0 ⊕ (row 1 ⊕ (row 2 ⊕ (row 3 ⊕ (row 4 ⊕ row 5))))) tt

-- about x, for a span that starts there: the six functions at x + h y
segment_is : (t : List ℚ) (span : ℕ) → 5 ≤ span → (x h : ℚ) (c : List ℚ) (at d : ℕ) (y : ℚ)
    → horner rational_ring 5 (λ k. get_or (segment_of fractions (powers_of fractions t span x) h c at d) k 𝟘) y
    ≡ sum rational_ring 5 (λ r. basis (knot t) (on_span span) (x +q h *q y) 5 (span - 5 + r) *q get_or c (at + r * d) 𝟘)
segment_is t span five x h c at d y =
    segment_rows (powers_of fractions t span x) h c at d y
    ∙ sum_equal rational_ring 5 (λ r. horner rational_ring 5 (λ k. get_or (powers_of fractions t span x) (6 * r + k) 𝟘) (h *q y) *q get_or c
    (at + r * d) 𝟘)
    (λ r. basis (knot t) (on_span span) (x +q h *q y) 5 (span - 5 + r) *q get_or c (at + r * d) 𝟘)
    (λ r l. ap (λ (z : ℚ). z *q get_or c (at + r * d) 𝟘) (row_is t span x five r (omega arith) (h *q y)))

-- from the span's start, with its width, and the controls of an axis: the curve of the span
pub segment_curve : (t : List ℚ) (m span : ℕ) → 5 ≤ span → span < m → (c : List ℚ) (d axis : ℕ) (y : ℚ)
    → polynomial rational_ring 5 (λ k. get_or (segment_of fractions (powers_of fractions t span (knot t span)) (knot t (span + 1) -q knot t span)
    c ((span - 5) * d + axis) d) k 𝟘) y
    ≡ curve (knot t) (on_span span) m (axis_control c d axis) (knot t span +q (knot t (span + 1) -q knot t span) *q y)
segment_curve t m span five h c d axis y =
    let w = knot t (span + 1) -q knot t span in
    let x = knot t span +q w *q y in
    sym (horner_is_sum rational_ring 5 (λ k. get_or (segment_of fractions (powers_of fractions t span (knot t span)) w c ((span - 5) * d + axis)
    d) k 𝟘) y)
    ∙ segment_is t span five (knot t span) w c ((span - 5) * d + axis) d y
    ∙ sum_equal rational_ring 5 (λ r. basis (knot t) (on_span span) x 5 (span - 5 + r) *q get_or c ((span - 5) * d + axis + r * d) 𝟘)
    (λ r. basis (knot t) (on_span span) x 5 (span - 5 + r) *q axis_control c d axis (span - 5 + r))
    (λ r g. let e : (span - 5) * d + axis + r * d ≡ (span - 5 + r) * d + axis = index (span - 5) r in rw e)
    ∙ sym (curve_six (knot t) m span five h x (axis_control c d axis))
  where
    index : (s r : ℕ) → s * d + axis + r * d ≡ (s + r) * d + axis
    index s r = omega arith
