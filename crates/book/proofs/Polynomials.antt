-- What the segments of `polynomial` are: each is that of a span wider than 0, from one break to the next.
use mathlib.Core.Path.{◌≡◌, refl, sym, ap, ◌∙◌, subst}
use mathlib.Core.Bool.{Bool, true, false, not, cond}
use mathlib.Core.List.{List, [], ◌∷◌, ◌++◌}
use Prim.Native.Nat.{ℕ, ◌+◌, ◌-◌, ◌*◌, ◌≤◌, ◌<◌}
use native.Mathlib.Omega.{arith}
use native.Mathlib.Decide.{dec_lt}
use lib.Dec.{T, T_not}
use lib.ListN.{length, get_or, length-append, get_or-append}
use lib.Seq.{get_or-append-add, get_or-append_seam}
use Rattle.arith.specs.Loop.{each}
use Rattle.arith.proofs.Rows.{row_end}
use Rattle.bspline.specs.Powers.{powers_of}
use Rattle.bspline.specs.Segments.{segment_of, span_segments, span_turn, polynomial_of, Polynomial}
use Rattle.bspline.proofs.Lengths.{segment_length}
use Rattle.window.proofs.Joined.{join_length, join_at}
use Rattle.fraction.specs.Rational.{ℚ, ◌+q◌, ◌-q◌, ◌*q◌, ◌/q◌, negq, inverse, at_mostq, ◌≤q◌, ◌<q◌, 𝟘, 𝟙}
use Rattle.fraction.specs.RationalRing.{rational_ring}
use Rattle.fraction.specs.Ring.{◌⊕◌, ◌⊖◌, ◌⊗◌, solve, combine, v0, v1, v2, v3}
use Rattle.fraction.specs.Sum.{power}
use Rattle.fraction.proofs.Inverse.{inverse_is}
use Rattle.fraction.proofs.Sum.{sum_equal}
use Rattle.fraction.proofs.Rational.{≤q-add, difference_above}
use Rattle.book.specs.Fractions.{fractions}
use Rattle.book.specs.Basis.{knot, Nondecreasing, on_span, half_open, closed_at_end}
use Rattle.book.specs.Curve.{curve, axis_control, break_of, segment_value}
use Rattle.arith.proofs.Loops.{each_done, each_runs}
use Rattle.book.proofs.Terms.{n0, n1}
use Rattle.book.proofs.Order.{antisymmetric, not_both, rises}
use Rattle.book.proofs.Readings.{closed_last, closed_before}
use Rattle.book.proofs.Curves.{curve_reading, half_open_curve}
use Rattle.book.proofs.Segments.{segment_curve}

-- the code's test of a width is a comparison of the two knots
not_wide : (x y : ℚ) → y -q x ≤q 𝟘 → y ≤q x
not_wide x y h =
    subst (λ (z : ℚ). z ≤q x) (solve rational_ring (x ∷ y ∷ []) (v1 ⊖ v0 ⊕ v0) v1 tt)
    (subst (λ (z : ℚ). y -q x +q x ≤q z) (solve rational_ring (x ∷ []) (n0 ⊕ v0) v0 tt) (≤q-add (y -q x) 𝟘 x h))

is_wide : (x y : ℚ) → 𝟘 <q y -q x → x <q y
is_wide x y h = not_T (at_mostq y x) (λ k. T_not (at_mostq (y -q x) 𝟘) h
    (subst (λ (z : ℚ). y -q x ≤q z) (solve rational_ring (x ∷ []) (v0 ⊖ v0) n0 tt) (≤q-add y x (negq x) k)))
  where
    not_T : (b : Bool) → (T b → ⊥) → T (not b)
    not_T true f = f tt
    not_T false f = tt

-- an index within row i of n rows of w
row_index : (i n w q : ℕ) → i < n → q < w → i * w + q < n * w
row_index i n w q h g = let e = row_end i n w (n * w) h (omega arith) in omega arith

module _ (t c : List ℚ) (d : ℕ) where
  -- the six coefficients of an axis on a span
  abbrev segment : ℕ → ℕ → List ℚ
  segment span axis = segment_of fractions (powers_of fractions t span (knot t span)) (knot t (span + 1) -q knot t span) c
      ((span - 5) * d + axis) d

  six : (span axis : ℕ) → length (segment span axis) ≡ 6
  six span axis = segment_length fractions (powers_of fractions t span (knot t span)) (knot t (span + 1) -q knot t span) c
      ((span - 5) * d + axis) d

  -- segment ℓ is that of a span before s, and ends where the next one starts; the last one where the knot s lies
  record OfSpan (s : ℕ) (p : Polynomial ℚ) (ℓ : ℕ) : Type 0 where
    span : ℕ
    five : 5 ≤ span
    below : span < s
    wide : knot t span <q knot t (span + 1)
    start : get_or p.breaks ℓ 𝟘 ≡ knot t span
    next : ℓ + 1 < length p.breaks → get_or p.breaks (ℓ + 1) 𝟘 ≡ knot t (span + 1)
    last : ℓ + 1 ≡ length p.breaks → knot t s ≡ knot t (span + 1)
    cells : (axis k : ℕ) → axis < d → k < 6 → get_or p.coefficients ((ℓ * d + axis) * 6 + k) 𝟘 ≡ get_or (segment span axis) k 𝟘

  -- before the turn s of the loop over spans
  record Made (s : ℕ) (p : Polynomial ℚ) : Type 0 where
    long : length p.coefficients ≡ length p.breaks * (d * 6)
    all : (ℓ : ℕ) → ℓ < length p.breaks → OfSpan s p ℓ

  -- with the segments of the span s
  abbrev more : ℕ → Polynomial ℚ → Polynomial ℚ
  more s p = record { breaks = p.breaks ++ (knot t s ∷ []); coefficients = p.coefficients ++ span_segments fractions t c d s }

  turn_keeps : (s : ℕ) (p : Polynomial ℚ) → 5 ≤ s → knot t s ≤q knot t (s + 1) → Made s p → Made (s + 1) (span_turn fractions t c d s p)
  unfolding span_turn
  turn_keeps s p five rise q = go (at_mostq (knot t (s + 1) -q knot t s) 𝟘) refl
    where
      -- a segment that was there
      old : (ℓ : ℕ) → ℓ < length p.breaks → OfSpan (s + 1) (more s p) ℓ
      old ℓ h =
          let a = q.all ℓ h in
          record {
            span = a.span;
            five = a.five;
            below = omega (arith, a.below);
            wide = a.wide;
            start = get_or-append p.breaks (knot t s ∷ []) 𝟘 ℓ h ∙ a.start;
            next = λ g. elim (dec_lt (ℓ + 1) (length p.breaks)) [
              | yes l ↦ get_or-append p.breaks (knot t s ∷ []) 𝟘 (ℓ + 1) l ∙ a.next l
              | no l ↦
                  let e : ℓ + 1 ≡ length p.breaks = omega arith in
                  ap (λ (z : ℕ). get_or (p.breaks ++ (knot t s ∷ [])) z 𝟘) e ∙ get_or-append_seam p.breaks (knot t s) [] 𝟘 ∙ a.last e
            ];
            last = λ g. absurd (omega (arith, g, length-append p.breaks (knot t s ∷ [])));
            cells = λ axis k y z.
                let i = row_index axis d 6 k y z in
                let j = row_index ℓ (length p.breaks) (d * 6) (axis * 6 + k) h i in
                let e : (ℓ * d + axis) * 6 + k ≡ ℓ * (d * 6) + (axis * 6 + k) = omega arith in
                get_or-append p.coefficients (span_segments fractions t c d s) 𝟘 ((ℓ * d + axis) * 6 + k) (rw (q.long, e) j)
                ∙ a.cells axis k y z;
          }

      -- the segment of the span s
      new : knot t s <q knot t (s + 1) → OfSpan (s + 1) (more s p) (length p.breaks)
      new w =
          record {
            span = s;
            five = five;
            below = omega arith;
            wide = w;
            start = get_or-append_seam p.breaks (knot t s) [] 𝟘;
            next = λ g. absurd (omega (arith, g, length-append p.breaks (knot t s ∷ [])));
            last = λ g. refl;
            cells = λ axis k y z.
                let e : (length p.breaks * d + axis) * 6 + k ≡ length p.coefficients + (axis * 6 + k) = rw q.long (omega arith) in
                ap (λ (i : ℕ). get_or (p.coefficients ++ span_segments fractions t c d s) i 𝟘) e
                ∙ get_or-append-add p.coefficients (span_segments fractions t c d s) (axis * 6 + k) 𝟘
                ∙ join_at d 6 (segment s) 𝟘 (λ i l. six s i) axis k y z;
          }

      go : (b : Bool) → at_mostq (knot t (s + 1) -q knot t s) 𝟘 ≡ b → Made (s + 1) (cond b p (more s p))
      go true e =
          let flat : knot t (s + 1) ≡ knot t s = antisymmetric (knot t (s + 1)) (knot t s) (not_wide (knot t s) (knot t (s + 1)) (rw e tt))
          rise in
          record {
            long = q.long;
            all = λ ℓ h. let a = q.all ℓ h in
                record {
                  span = a.span;
                  five = a.five;
                  below = omega (arith, a.below);
                  wide = a.wide;
                  start = a.start;
                  next = a.next;
                  last = λ g. flat ∙ a.last g;
                  cells = a.cells;
                };
          }
      go false e =
          record {
            long =
                length-append p.coefficients (span_segments fractions t c d s)
                ∙ rw (q.long, join_length d 6 (segment s) (λ i l. six s i), length-append p.breaks (knot t s ∷ [])) (omega arith);
            all = λ ℓ h. elim (dec_lt ℓ (length p.breaks)) [
              | yes l ↦ old ℓ l
              | no l ↦
                  let g : length p.breaks ≡ ℓ = omega (arith, h, length-append p.breaks (knot t s ∷ [])) in
                  subst (λ (i : ℕ). OfSpan (s + 1) (more s p) i) g (new (is_wide (knot t s) (knot t (s + 1)) (rw e tt)))
            ];
          }

  -- every segment of the spline's polynomial
  segments_are : (m : ℕ) → Nondecreasing (m + 6) (knot t) → knot t m ≡ 𝟙 → (ℓ : ℕ) → ℓ + 1 < length (polynomial_of fractions t c d m).breaks
      → OfSpan m (polynomial_of fractions t c d m) ℓ
  unfolding polynomial_of
  segments_are m sorted end ℓ h =
      let p = each (span_turn fractions t c d) 5 m (record { breaks = []; coefficients = [] }) in
      let l : ℓ < length p.breaks = omega (arith, h, length-append p.breaks (𝟙 ∷ [])) in
      let a = made ℓ l in
      record {
        span = a.span;
        five = a.five;
        below = a.below;
        wide = a.wide;
        start = get_or-append p.breaks (𝟙 ∷ []) 𝟘 ℓ l ∙ a.start;
        next = λ g. elim (dec_lt (ℓ + 1) (length p.breaks)) [
          | yes y ↦ get_or-append p.breaks (𝟙 ∷ []) 𝟘 (ℓ + 1) y ∙ a.next y
          | no y ↦
              let e : ℓ + 1 ≡ length p.breaks = omega arith in
              ap (λ (z : ℕ). get_or (p.breaks ++ (𝟙 ∷ [])) z 𝟘) e ∙ get_or-append_seam p.breaks 𝟙 [] 𝟘 ∙ sym end ∙ a.last e
        ];
        last = λ g. absurd (omega arith);
        cells = a.cells;
      }
    where
      made : (ℓ : ℕ) → ℓ < length (each (span_turn fractions t c d) 5 m (record { breaks = []; coefficients = [] })).breaks
          → OfSpan m (each (span_turn fractions t c d) 5 m (record { breaks = []; coefficients = [] })) ℓ
      made ℓ h = elim (dec_lt m 5) [
        | yes l ↦ absurd (omega (
          arith,
          h,
          ap (λ (p : Polynomial ℚ). length p.breaks) (each_done (span_turn fractions t c d) 5 m
              (record { breaks = []; coefficients = [] }) (omega arith)),
        ))
        | no l ↦
            (each_runs Made (span_turn fractions t c d) 5 m (record { breaks = []; coefficients = [] }) (omega arith)
            (λ i p y z q. turn_keeps i p y (sorted i (omega arith)) q)
            (record { long = omega arith; all = λ ℓ h. absurd (omega arith) })).all ℓ h
      ]

-- the last break
last_break : (t c : List ℚ) (d m ℓ : ℕ) → ℓ + 2 ≡ length (polynomial_of fractions t c d m).breaks
    → break_of (polynomial_of fractions t c d m) (ℓ + 1) ≡ 𝟙
unfolding polynomial_of
last_break t c d m ℓ h =
    let p = each (span_turn fractions t c d) 5 m (record { breaks = []; coefficients = [] }) in
    let e : ℓ + 1 ≡ length p.breaks = omega (arith, h, length-append p.breaks (𝟙 ∷ [])) in
    ap (λ (z : ℕ). get_or (p.breaks ++ (𝟙 ∷ [])) z 𝟘) e ∙ get_or-append_seam p.breaks 𝟙 [] 𝟘

-- ---- the value of a segment, at every x
module _ (t : List ℚ) (m : ℕ) (sorted : Nondecreasing (m + 6) (knot t)) (end : knot t m ≡ 𝟙) (c : List ℚ) (d axis ℓ : ℕ) (z : axis < d)
    (h : ℓ + 1 < length (polynomial_of fractions t c d m).breaks) where
  own : OfSpan t c d m (polynomial_of fractions t c d m) ℓ
  own = segments_are t c d m sorted end ℓ h

  -- it is the curve of its span
  value_on_span : (x : ℚ) → segment_value (polynomial_of fractions t c d m) d axis ℓ x ≡ curve (knot t) (on_span own.span) m (axis_control c d
      axis) x
  value_on_span x =
      let s = own.span in
      let w = knot t (s + 1) -q knot t s in
      let y : ℚ = (x -q knot t s) /q w in
      rw (own.start, own.next h)
      (sum_equal rational_ring 5 (λ k. get_or (polynomial_of fractions t c d m).coefficients ((ℓ * d + axis) * 6 + k) 𝟘 *q power rational_ring y
      k)
      (λ k. get_or (segment_of fractions (powers_of fractions t s (knot t s)) w c ((s - 5) * d + axis) d) k 𝟘 *q power rational_ring y k)
      (λ k l. ap (λ (q : ℚ). q *q power rational_ring y k) (own.cells axis k z (omega arith)))
      ∙ segment_curve t m s own.five own.below c d axis y
      ∙ ap (curve (knot t) (on_span s) m (axis_control c d axis))
      (combine rational_ring (x ∷ knot t s ∷ w ∷ inverse w ∷ []) (v1 ⊕ v2 ⊗ ((v0 ⊖ v1) ⊗ v3)) v0 (v0 ⊖ v1) (v2 ⊗ v3) n1 tt
      (inverse_is w (difference_above (knot t s) (knot t (s + 1)) own.wide))))

  -- the book's curve, from its break to the next
  pub value_half_open : (x : ℚ) → break_of (polynomial_of fractions t c d m) ℓ ≤q x → x <q break_of (polynomial_of fractions t c d m) (ℓ + 1)
      → segment_value (polynomial_of fractions t c d m) d axis ℓ x ≡ curve (knot t) (half_open (knot t) x) m (axis_control c d axis) x
  value_half_open x low high =
      value_on_span x ∙ sym (half_open_curve (knot t) m sorted own.span own.below x (rw own.start at low)
      (rw (own.next h) at high) (axis_control c d axis))

  -- the last segment: from its break to the right end
  pub value_last : knot t (m - 1) <q knot t m → ℓ + 2 ≡ length (polynomial_of fractions t c d m).breaks → (x : ℚ)
      → break_of (polynomial_of fractions t c d m) ℓ ≤q x → x ≤q knot t m
      → segment_value (polynomial_of fractions t c d m) d axis ℓ x ≡ curve (knot t) (closed_at_end m (knot t) x) m (axis_control c d axis) x
  value_last wide e x low high = go (at_mostq (knot t m) x) refl
    where
      ends : knot t (own.span + 1) ≡ knot t m
      ends = sym (own.next h) ∙ last_break t c d m ℓ e ∙ sym end

      last : own.span ≡ m - 1
      last = elim (dec_lt own.span (m - 1)) [
        | yes l ↦ absurd (not_both (knot t m) (knot t (m - 1)) (subst (λ (q : ℚ). q ≤q knot t (m - 1)) ends
            (rises (knot t) (m + 6) sorted (own.span + 1) (m - 1) (omega arith) (omega arith))) wide)
        | no l ↦ omega (arith, own.below)
      ]

      go : (b : Bool) → at_mostq (knot t m) x ≡ b → segment_value (polynomial_of fractions t c d m) d axis ℓ x
          ≡ curve (knot t) (closed_at_end m (knot t) x) m (axis_control c d axis) x
      go true g =
          value_on_span x ∙ ap (λ (s : ℕ). curve (knot t) (on_span s) m (axis_control c d axis) x) last
          ∙ sym (curve_reading (knot t) (closed_at_end m (knot t) x) (on_span (m - 1)) m (axis_control c d axis) x (omega (arith, own.below))
          (λ i l. closed_last m (knot t) x g high 5 i))
      go false g =
          value_half_open x low (rw (own.next h, ends, g) tt)
          ∙ sym (curve_reading (knot t) (closed_at_end m (knot t) x) (half_open (knot t) x) m (axis_control c d axis) x (omega (arith, own.below))
          (λ i l. closed_before m (knot t) x g 5 i))
