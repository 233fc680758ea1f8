-- The theorems: over exact fractions the definitions of crate `bspline` equal those of Piegl and Tiller, The NURBS Book. On the left of an
-- equation stands a definition that the code is proved equal to over f64, here at the arithmetic `fractions`; on the right the book's, of
-- `specs/`.
use mathlib.Core.Path.{◌≡◌, sym, ap, ◌∙◌}
use mathlib.Core.List.{List, [], ◌∷◌}
use Prim.Native.Nat.{ℕ, ◌+◌, ◌-◌, ◌*◌, ◌≤◌, ◌<◌}
use native.Mathlib.Omega.{arith}
use lib.ListN.{length, get_or}
use Rattle.bspline.specs.Search.{span_of}
use Rattle.bspline.specs.Values.{values_of}
use Rattle.bspline.specs.Powers.{powers_of}
use Rattle.bspline.specs.Insertion.{alpha_of, knots_with, controls_with}
use Rattle.bspline.specs.Segments.{segment_of, polynomial_of}
use Rattle.fraction.specs.Rational.{ℚ, ◌+q◌, ◌-q◌, ◌*q◌, ◌/q◌, ◌≤q◌, ◌<q◌, Above, 𝟘, 𝟙}
use Rattle.fraction.specs.RationalRing.{rational_ring}
use Rattle.fraction.specs.Ring.{◌⊕◌, ◌⊖◌, solve, v0, v1}
use Rattle.fraction.specs.Polynomial.{polynomial}
use Rattle.fraction.specs.Sum.{sum}
use Rattle.fraction.proofs.Rational.{<q-weaken}
use Rattle.fraction.proofs.Polynomial.{horner_is_sum}
use Rattle.book.specs.Fractions.{fractions, fractions_by}
use Rattle.book.specs.Basis.{knot, Nondecreasing, basis, half_open, on_span, closed_at_end}
use Rattle.book.specs.Curve.{curve, axis_control, break_of, segment_value}
use Rattle.book.specs.Insertion.{inserted_knot, inserted_control, old_span}
use Rattle.book.proofs.Readings.{half_open_basis}
use Rattle.book.proofs.Values.{entries_are}
use Rattle.book.proofs.Powers.{row_is}
use Rattle.book.proofs.Division.{values_any, powers_any, alpha_any}
use Rattle.book.proofs.Spans.{found_holds, found_last, found_is, values_found, curve_found}
use Rattle.book.proofs.Insertion.{knots_are, controls_are, curve_kept, half_open_kept, closed_kept}
use Rattle.book.proofs.Segments.{segment_curve}
use Rattle.book.proofs.Polynomials.{value_half_open, value_last}

-- ==== Basis functions (eq. 2.5)

-- The six values are N_{span-5,5}(x) to N_{span,5}(x) relative to the given span, for every x.
pub values_are_basis : (t : List ℚ) (span : ℕ) → 5 ≤ span → (x : ℚ) (r : ℕ) → r < 6
    → get_or (values_of fractions t span x) r 𝟘 ≡ basis (knot t) (on_span span) x 5 (span - 5 + r)
values_are_basis t span five x = entries_are t span x five

-- Where the knots never fall and u_span ≤ x < u_(span+1), they are the book's own, with its half-open spans.
pub values_are_half_open_basis : (t : List ℚ) → Nondecreasing (length t) (knot t) → (span : ℕ) → 5 ≤ span → span + 6 < length t
    → (x : ℚ) → knot t span ≤q x → x <q knot t (span + 1) → (r : ℕ) → r < 6
    → get_or (values_of fractions t span x) r 𝟘 ≡ basis (knot t) (half_open (knot t) x) x 5 (span - 5 + r)
values_are_half_open_basis t sorted span five room x low high r h =
    values_are_basis t span five x r h ∙ sym (half_open_basis (knot t) (length t) sorted span x low high (omega arith) 5 (span - 5 + r)
    (omega arith))

-- The 36 coefficients are those of these functions about x: row i, summed over the powers of ξ - x, is N_{span-5+i,5}(ξ) relative to the
-- span, for every fraction ξ.
pub powers_are_basis : (t : List ℚ) (span : ℕ) → 5 ≤ span → (x : ℚ) (i : ℕ) → i < 6 → (ξ : ℚ)
    → polynomial rational_ring 5 (λ k. get_or (powers_of fractions t span x) (6 * i + k) 𝟘) (ξ -q x)
    ≡ basis (knot t) (on_span span) ξ 5 (span - 5 + i)
powers_are_basis t span five x i h ξ =
    sym (horner_is_sum rational_ring 5 (λ k. get_or (powers_of fractions t span x) (6 * i + k) 𝟘) (ξ -q x))
    ∙ row_is t span x five i h (ξ -q x)
    ∙ ap (λ (z : ℚ). basis (knot t) (on_span span) z 5 (span - 5 + i)) (solve rational_ring (x ∷ ξ ∷ []) (v0 ⊕ (v1 ⊖ v0)) v1 tt)

-- The convention 0/0 = 0 does not matter. Where the knots never fall and the span is wider than 0, every divisor of the code's steps is
-- above 0: they give the same with any division that is the quotient of fractions for a divisor above 0.
module _ (divide : ℚ → ℚ → ℚ) (agrees : (a b : ℚ) → Above b → divide a b ≡ a /q b)
    (t : List ℚ) (sorted : Nondecreasing (length t) (knot t)) (span : ℕ) (five : 5 ≤ span) (room : span + 5 < length t)
    (wide : knot t span <q knot t (span + 1)) (x : ℚ) where
  -- the values
  pub values_with_any_division : values_of (fractions_by divide) t span x ≡ values_of fractions t span x
  values_with_any_division = values_any divide agrees t sorted span five room wide x

  -- the powers
  pub powers_with_any_division : powers_of (fractions_by divide) t span x ≡ powers_of fractions t span x
  powers_with_any_division = powers_any divide agrees t sorted span five room wide x

  -- each α that an insertion of x into the span computes
  pub alpha_with_any_division : (i : ℕ) → span < i + 5 → i ≤ span → alpha_of (fractions_by divide) t x i ≡ alpha_of fractions t x i
  alpha_with_any_division = alpha_any divide agrees t sorted span five room wide x

-- ==== The polynomial of a span (eq. 3.1)

-- The six coefficients of an axis on a span give the curve of that span at every local parameter y: at u_span + (u_(span+1) - u_span) y.
pub segment_is_curve : (t : List ℚ) (m span : ℕ) → 5 ≤ span → span < m → (c : List ℚ) (d axis : ℕ) (y : ℚ)
    → polynomial rational_ring 5 (λ k. get_or (segment_of fractions (powers_of fractions t span (knot t span)) (knot t (span + 1) -q knot t span)
    c ((span - 5) * d + axis) d) k 𝟘) y
    ≡ curve (knot t) (on_span span) m (axis_control c d axis) (knot t span +q (knot t (span + 1) -q knot t span) *q y)
segment_is_curve = segment_curve

-- For knots that never fall, on a domain that ends at 1, as the source's breaks do: each segment of the polynomial of m controls is the
-- book's curve, from its break to the next one.
pub polynomial_is_curve : (t : List ℚ) (m : ℕ) → Nondecreasing (m + 6) (knot t) → knot t m ≡ 𝟙
    → (c : List ℚ) (d axis ℓ : ℕ) → axis < d → ℓ + 1 < length (polynomial_of fractions t c d m).breaks
    → (x : ℚ) → break_of (polynomial_of fractions t c d m) ℓ ≤q x → x <q break_of (polynomial_of fractions t c d m) (ℓ + 1)
    → segment_value (polynomial_of fractions t c d m) d axis ℓ x ≡ curve (knot t) (half_open (knot t) x) m (axis_control c d axis) x
polynomial_is_curve = value_half_open

-- The last segment is so up to the right end, that end included, where the last span is wider than 0.
pub polynomial_is_curve_at_end : (t : List ℚ) (m : ℕ) → Nondecreasing (m + 6) (knot t) → knot t m ≡ 𝟙 → knot t (m - 1) <q knot t m
    → (c : List ℚ) (d axis ℓ : ℕ) → axis < d → ℓ + 2 ≡ length (polynomial_of fractions t c d m).breaks
    → (x : ℚ) → break_of (polynomial_of fractions t c d m) ℓ ≤q x → x ≤q knot t m
    → segment_value (polynomial_of fractions t c d m) d axis ℓ x ≡ curve (knot t) (closed_at_end m (knot t) x) m (axis_control c d axis) x
polynomial_is_curve_at_end t m sorted end wide c d axis ℓ z h = value_last t m sorted end c d axis ℓ z (omega arith) wide h

-- ==== Knot insertion (section 5.2, eq. 5.15): u goes in after the knot k

-- The new knots are the book's.
pub inserted_knots : (t : List ℚ) (u : ℚ) (k : ℕ) → k < length t → (i : ℕ) → knot (knots_with u k t) i ≡ inserted_knot (knot t) u k i
inserted_knots = knots_are

-- The new controls of each axis are the book's, by cases on α.
pub inserted_controls : (t : List ℚ) (u : ℚ) (d m k : ℕ) (c : List ℚ) (axis i : ℕ) → axis < d → i ≤ m
    → axis_control (controls_with fractions t u d m k c) d axis i ≡ inserted_control (knot t) u k 5 (axis_control c d axis) i
inserted_controls = controls_are

-- ==== The spline of m controls and m + 6 knots that never fall
module _ (t : List ℚ) (m : ℕ) (count : length t ≡ m + 6) (sorted : Nondecreasing (m + 6) (knot t)) where
  -- ---- the span that the code's search finds

  -- It is the one that holds x.
  pub span_is : (k : ℕ) → 5 ≤ k → k < m → (x : ℚ) → knot t k ≤q x → x <q knot t (k + 1) → span_of fractions t m x ≡ k
  span_is k five below x = found_is t m count sorted x k five below

  -- From the right end of the domain on it is the last.
  pub span_at_end : 6 ≤ m → (x : ℚ) → knot t m ≤q x → span_of fractions t m x ≡ m - 1
  span_at_end six x = found_last t m count sorted x six

  -- There the six values are the book's, on the whole domain, its right end included.
  pub values_at_own_span : 6 ≤ m → (x : ℚ) → knot t 5 ≤q x → x ≤q knot t m → (r : ℕ) → r < 6
      → get_or (values_of fractions t (span_of fractions t m x) x) r 𝟘 ≡ basis (knot t) (closed_at_end m (knot t) x) x 5
      (span_of fractions t m x - 5 + r)
  values_at_own_span six x = values_found t m count sorted x six

  -- And six products of a value and a control give the curve (eq. 3.1, algorithm A3.1).
  pub values_give_curve : 6 ≤ m → (x : ℚ) → knot t 5 ≤q x → x ≤q knot t m → (c : List ℚ) (d axis : ℕ)
      → sum rational_ring 5 (λ r. get_or (values_of fractions t (span_of fractions t m x) x) r 𝟘 *q axis_control c d axis
      (span_of fractions t m x - 5 + r))
      ≡ curve (knot t) (closed_at_end m (knot t) x) m (axis_control c d axis) x
  values_give_curve six x low high c d axis = curve_found t m count sorted x six low high (axis_control c d axis)

  -- ---- insertion leaves the curve as it is

  -- u in the span k: on each span of the new knots that is wider than 0 the curve is, for every x, the one it was on the span that this is
  -- a part of.
  pub insertion_keeps_spans : (u : ℚ) (k : ℕ) → 5 ≤ k → k < m → knot t k ≤q u → u ≤q knot t (k + 1)
      → (s : ℕ) → s ≤ m → knot (knots_with u k t) s <q knot (knots_with u k t) (s + 1) → (c : List ℚ) (d axis : ℕ) → axis < d → (x : ℚ)
      → curve (knot (knots_with u k t)) (on_span s) (m + 1) (axis_control (controls_with fractions t u d m k c) d axis) x
      ≡ curve (knot t) (on_span (old_span k s)) m (axis_control c d axis) x
  insertion_keeps_spans u k five below low high s h wide c d axis z = curve_kept t u m k five below count sorted low high s h wide d axis z
      c

  -- So the book's curve is the same before and after.
  pub insertion_keeps_curve : (u : ℚ) (k : ℕ) → 5 ≤ k → k < m → knot t k ≤q u → u ≤q knot t (k + 1)
      → (c : List ℚ) (d axis : ℕ) → axis < d → (x : ℚ) → knot t 5 ≤q x → x <q knot t m
      → curve (knot (knots_with u k t)) (half_open (knot (knots_with u k t)) x) (m + 1) (axis_control (controls_with fractions t u d m k c) d axis) x
      ≡ curve (knot t) (half_open (knot t) x) m (axis_control c d axis) x
  insertion_keeps_curve u k five below low high c d axis z = half_open_kept t u m k five below count sorted low high d axis z c

  -- With the span that the code finds for u it is so on the whole domain, its right end included, where the last span is wider than 0.
  pub insertion_at_own_span : (u : ℚ) → knot t 5 ≤q u → u <q knot t m → knot t (m - 1) <q knot t m
      → (c : List ℚ) (d axis : ℕ) → axis < d → (x : ℚ) → knot t 5 ≤q x → x ≤q knot t m
      → curve (knot (knots_with u (span_of fractions t m u) t)) (closed_at_end (m + 1) (knot (knots_with u (span_of fractions t m u) t)) x)
      (m + 1)
      (axis_control (controls_with fractions t u d m (span_of fractions t m u) c) d axis) x
      ≡ curve (knot t) (closed_at_end m (knot t) x) m (axis_control c d axis) x
  insertion_at_own_span u low high wide c d axis z =
      let f = found_holds t m count sorted u low high in
      let k = span_of fractions t m u in
      closed_kept t u m k f.0 f.1 count sorted f.2 (<q-weaken u (knot t (k + 1)) f.3) f.3 wide d axis z c
