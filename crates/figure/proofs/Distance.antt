-- The distance theorem: where the definition gives a figure, the distance rule holds (`DistanceRule` in specs/Distance says it in full). It
-- rests on two facts: each pair encloses its exact value (Enclosure), and the figure bounds the exact polynomial of each intersection
-- (Largest).
--
-- A segment and an interval that hold t may share the point t alone. Then t is an end of both, and the interval on the other side of t
-- shares more than a point with the segment; its line has the same value at t, since both pass through the waypoint there. That interval
-- exists: breaks and parameters both rise from 0 to 1, so a segment that ends where an interval starts does not end at 0, and one that
-- starts where an interval ends does not start at 1.
use mathlib.Core.List.{[], ◌∷◌}
use mathlib.Core.Logic.{inl, inr}
use mathlib.Core.Path.{◌∙◌, ◌≡◌, ap, subst, sym}
use std.Quotient.{cls}
use Prim.Native.Nat.{ℕ, ◌+◌, ◌-◌, ◌<◌}
use native.Mathlib.Decide.{dec_lt}
use native.Mathlib.Omega.{arith}
use lib.Ieee.{Float}
use lib.IntN.{pos}
use Rattle.fraction.specs.Fraction.{Fraction, ◌≤f◌, negate_fraction, subtract_fractions}
use Rattle.fraction.specs.Rational.{◌*q◌, ◌+q◌, ◌-q◌, ◌<q◌, ◌≤q◌, inverse, negq, ℚ}
use Rattle.fraction.specs.RationalRing.{rational_ring}
use Rattle.fraction.specs.Ring.{◌⊕◌, ◌⊖◌, ◌⊗◌, combine, con, solve, v0, v1, v2, v3, v4}
use Rattle.fraction.specs.Value.{exact_fraction, value}
use Rattle.fraction.proofs.Inverse.{inverse_is}
use Rattle.fraction.proofs.Rational.{<q-weaken, <q-≤q-trans, difference_above, never, ≤f-gives-≤q, ≤q-<q-trans, ≤q-antisymmetric, ≤q-means-≤f, ≤q-or-<, ≤q-trans}
use Rattle.figure.specs.Distance.{DistanceRule, Rises, curve_at, line_at}
use Rattle.figure.specs.Figure.{Axis, figure, figure_of, intersection}
use Rattle.figure.proofs.Exact.{curve, difference_within, line}
use Rattle.figure.proofs.Largest.{given_at_least, given_finite, intersection_bounds}
use Rattle.figure.proofs.Finite.{coefficients_finite, waypoints_finite}
use Rattle.figure.proofs.Overlap.{highest_has, lowest_has, overlap, overlap_values}
use Rattle.figure.proofs.Rising.{first_is, last_is, rises_finite, rises_strictly, rises_to}

-- ---- the line passes through both waypoints
line_start : (s s' y y' : ℚ) → line s s' y y' s ≡ y
line_start s s' y y' = solve rational_ring (s ∷ y ∷ y' ∷ inverse (s' -q s) ∷ []) (v1 ⊕ (v0 ⊖ v0) ⊗ v3 ⊗ (v2 ⊖ v1)) v1 tt

line_end : (s s' y y' : ℚ) → s <q s' → line s s' y y' s' ≡ y'
line_end s s' y y' h =
    combine rational_ring (s ∷ s' ∷ y ∷ y' ∷ inverse (s' -q s) ∷ []) (v2 ⊕ (v1 ⊖ v0) ⊗ v4 ⊗ (v3 ⊖ v2)) v3 (v3 ⊖ v2) ((v1 ⊖ v0) ⊗ v4)
    (con (pos 1)) tt (inverse_is (s' -q s) (difference_above s s' h))

module _ (x : Axis) (breaks : Rises x.segments x.break) (parameters : Rises x.intervals x.parameter) (depth : ℕ) (F : Float)
    (given : figure_of depth x ≡ figure F) where
  -- the values of break m, parameter i and waypoint i
  abbrev a : ℕ → ℚ
  a m = value (x.break m)

  abbrev s : ℕ → ℚ
  s i = value (x.parameter i)

  abbrev y : ℕ → ℚ
  y i = value (x.waypoint i)

  -- the line of interval i
  abbrev line_of : ℕ → ℚ → ℚ
  line_of i t = line (s i) (s (i + 1)) (y i) (y (i + 1)) t

  -- the curve of segment m, less z, is at most the figure in size
  abbrev Near : ℕ → ℚ → ℚ → Type 0
  Near m t z = (negq (value F) ≤q curve (a m) (a (m + 1)) (λ k. value (x.coefficient m k)) t -q z)
      × (curve (a m) (a (m + 1)) (λ k. value (x.coefficient m k)) t -q z ≤q value F)

  -- t lies in segment m and in interval i
  record Shared (m i : ℕ) (t : ℚ) : Type 0 where
    segment : m < x.segments
    interval : i < x.intervals
    after_break : a m ≤q t
    before_break : t ≤q a (m + 1)
    after_waypoint : s i ≤q t
    before_waypoint : t ≤q s (i + 1)

  -- they share more than a point
  proper : (m i : ℕ) (t : ℚ) → Shared m i t → a m <q s (i + 1) → s i <q a (m + 1) → Near m t (line_of i t)
  unfolding intersection
  proper m i t h p q =
      let below = overlap x breaks parameters m i h.segment h.interval p q in
      difference_within (intersection x i m) (negq (value F)) (value F) t (overlap_values x breaks parameters m i h.segment
      h.interval p q)
      (highest_has (λ z. value z ≤q t) (x.break m) (x.parameter i) h.after_break h.after_waypoint)
      (lowest_has (λ z. t ≤q value z) (x.break (m + 1)) (x.parameter (i + 1)) h.before_break h.before_waypoint)
      (intersection_bounds depth (intersection x i m) (value F) (given_at_least depth x F given i m h.interval h.segment below))

  -- the interval starts where the segment ends: the interval before it
  touching_end : (m i : ℕ) (t : ℚ) → Shared m (i + 1) t → a (m + 1) ≤q s (i + 1) → Near m t (line_of (i + 1) t)
  touching_end m i t h k =
      let strict = rises_strictly x.intervals x.parameter parameters i (less h.interval) in
      let inside = rises_strictly x.segments x.break breaks m h.segment in
      let before = ≤q-trans t (a (m + 1)) (s (i + 1)) h.before_break k in
      let e = ≤q-antisymmetric t (s (i + 1)) before h.after_waypoint in
      let shared : Shared m i t = record {
        segment = h.segment;
        interval = less h.interval;
        after_break = h.after_break;
        before_break = h.before_break;
        after_waypoint = ≤q-trans (s i) (s (i + 1)) t (<q-weaken (s i) (s (i + 1)) strict) h.after_waypoint;
        before_waypoint = before;
      } in
      let near = proper m i t shared (<q-≤q-trans (a m) (a (m + 1)) (s (i + 1)) inside k)
      (<q-≤q-trans (s i) (s (i + 1)) (a (m + 1)) strict
      (≤q-trans (s (i + 1)) t (a (m + 1)) h.after_waypoint h.before_break)) in
      subst (λ (z : ℚ). Near m t z)
      (ap (line_of i) e ∙ line_end (s i) (s (i + 1)) (y i) (y (i + 1)) strict ∙ sym (line_start (s (i + 1)) (s (i + 1 + 1)) (y (i + 1))
      (y (i + 1 + 1))) ∙ ap (line_of (i + 1)) (sym e)) near
    where
      less : i + 1 < x.intervals → i < x.intervals
      less l = omega arith

  -- the interval ends where the segment starts: the interval after it
  touching_start : (m i : ℕ) (t : ℚ) → Shared m i t → i + 1 < x.intervals → s (i + 1) ≤q a m → Near m t (line_of i t)
  touching_start m i t h l k =
      let strict = rises_strictly x.intervals x.parameter parameters i h.interval in
      let next = rises_strictly x.intervals x.parameter parameters (i + 1) l in
      let inside = rises_strictly x.segments x.break breaks m h.segment in
      let after = ≤q-trans (s (i + 1)) (a m) t k h.after_break in
      let e = ≤q-antisymmetric t (s (i + 1)) h.before_waypoint after in
      let shared : Shared m (i + 1) t = record {
        segment = h.segment;
        interval = l;
        after_break = h.after_break;
        before_break = h.before_break;
        after_waypoint = after;
        before_waypoint = ≤q-trans t (s (i + 1)) (s (i + 1 + 1)) h.before_waypoint (<q-weaken (s (i + 1)) (s (i + 1 + 1)) next);
      } in
      let near = proper m (i + 1) t shared (≤q-<q-trans (a m) (s (i + 1)) (s (i + 1 + 1)) (≤q-trans (a m) t (s (i + 1)) h.after_break
      h.before_waypoint) next) (≤q-<q-trans (s (i + 1)) (a m) (a (m + 1)) k inside) in
      subst (λ (z : ℚ). Near m t z)
      (ap (line_of (i + 1)) e ∙ line_start (s (i + 1)) (s (i + 1 + 1)) (y (i + 1)) (y (i + 1 + 1))
      ∙ sym (line_end (s i) (s (i + 1)) (y i) (y (i + 1)) strict) ∙ ap (line_of i) (sym e)) near

  -- the interval that starts where a segment ends is not the first
  not_first : (m i : ℕ) → m < x.segments → a (m + 1) ≤q s i → 0 < i
  not_first m i l k = elim (dec_lt 0 i) [
    | yes p ↦ p
    | no p ↦
        let e : i ≡ 0 = omega arith in
        absurd (never (a m) (a (m + 1)) (rises_strictly x.segments x.break breaks m l)
        (≤q-trans (a (m + 1)) (s i) (a m) k (subst (λ (z : ℚ). z ≤q a m) (first_is x.segments x.break breaks ∙ sym
        (first_is x.intervals x.parameter parameters) ∙ ap s (sym e))
        (rises_to x.segments x.break breaks 0 m m (omega arith) (omega arith)))))
  ]

  -- the interval that ends where a segment starts is not the last
  not_last : (m i : ℕ) → m < x.segments → i < x.intervals → s (i + 1) ≤q a m → i + 1 < x.intervals
  not_last m i l j k = elim (dec_lt (i + 1) x.intervals) [
    | yes p ↦ p
    | no p ↦
        let e : x.intervals ≡ i + 1 = omega arith in
        absurd (never (a m) (a (m + 1)) (rises_strictly x.segments x.break breaks m l)
        (≤q-trans (a (m + 1)) (s (i + 1)) (a m) (subst (λ (z : ℚ). a (m + 1) ≤q z) (last_is x.segments x.break breaks ∙ sym
        (last_is x.intervals x.parameter parameters) ∙ ap s e)
        (rises_to x.segments x.break breaks (m + 1) (x.segments - (m + 1)) x.segments (omega arith) (omega arith))) k))
  ]

  -- the distance rule in ℚ
  near : (m i : ℕ) (t : ℚ) → Shared m i t → Near m t (line_of i t)
  near m i t h = elim (≤q-or-< (s (i + 1)) (a m)) [
    | inl k ↦ touching_start m i t h (not_last m i h.segment h.interval k) k
    | inr p ↦ elim (≤q-or-< (a (m + 1)) (s i)) [
      | inl k ↦
          let e : i - 1 + 1 ≡ i = positive (not_first m i h.segment k) in
          subst (λ (j : ℕ). Shared m j t → a (m + 1) ≤q s j → Near m t (line_of j t)) e (touching_end m (i - 1) t) h k
      | inr q ↦ proper m i t h p q
    ]
  ]
    where
      positive : 0 < i → i - 1 + 1 ≡ i
      positive l = omega arith

-- the operations of ℚ are those of the fractions as they are written
written : (x : Axis) (F : Float) (t : Fraction) (m i : ℕ)
    → (negq (value F) ≤q curve (value (x.break m)) (value (x.break (m + 1))) (λ k. value (x.coefficient m k)) (cls t) -q line
    (value (x.parameter i)) (value (x.parameter (i + 1))) (value (x.waypoint i)) (value (x.waypoint (i + 1))) (cls t))
    × (curve (value (x.break m)) (value (x.break (m + 1))) (λ k. value (x.coefficient m k)) (cls t) -q line (value (x.parameter i))
    (value (x.parameter (i + 1))) (value (x.waypoint i)) (value (x.waypoint (i + 1))) (cls t) ≤q value F)
    → (negate_fraction (exact_fraction F) ≤f subtract_fractions (curve_at x m t) (line_at x i t))
    × (subtract_fractions (curve_at x m t) (line_at x i t) ≤f exact_fraction F)
unfolding ◌+q◌ ◌*q◌ negq inverse
written x F t m i b = (
  ≤q-means-≤f (negate_fraction (exact_fraction F)) (subtract_fractions (curve_at x m t) (line_at x i t)) b.0,
  ≤q-means-≤f (subtract_fractions (curve_at x m t) (line_at x i t)) (exact_fraction F) b.1,
)

-- The distance theorem, at every depth: if breaks and normalised parameters rise from 0 to 1, as the checks 24, 5 and 6 ensure, and the
-- definition gives the figure F, then the distance rule holds for F.
pub distance_theorem : (depth : ℕ) (x : Axis) (F : Float) → Rises x.segments x.break → Rises x.intervals x.parameter
    → figure_of depth x ≡ figure F → DistanceRule x F
distance_theorem depth x F breaks parameters given =
    record {
      finite_figure = given_finite depth x F given;
      finite_breaks = rises_finite x.segments x.break breaks;
      finite_parameters = rises_finite x.intervals x.parameter parameters;
      finite_coefficients = coefficients_finite x breaks parameters depth F given;
      finite_waypoints = waypoints_finite x breaks parameters depth F given;
      distance = λ t m i m< i< M I. written x F t m i (near x breaks parameters depth F given m i (cls t) (record {
        segment = m<;
        interval = i<;
        after_break = ≤f-gives-≤q (exact_fraction (x.break m)) t M.above;
        before_break = ≤f-gives-≤q t (exact_fraction (x.break (m + 1))) M.below;
        after_waypoint = ≤f-gives-≤q (exact_fraction (x.parameter i)) t I.above;
        before_waypoint = ≤f-gives-≤q t (exact_fraction (x.parameter (i + 1))) I.below;
      }));
    }
