-- The span that the code's search finds, for knots that never fall, the values there, and the curve by them.
use mathlib.Core.Path.{◌≡◌, refl, sym, ap, ◌∙◌}
use mathlib.Core.Bool.{Bool, true, false}
use mathlib.Core.List.{List}
use Prim.Native.Nat.{ℕ, ◌+◌, ◌-◌, ◌≤◌, ◌<◌}
use native.Mathlib.Omega.{arith}
use native.Mathlib.Decide.{dec_lt}
use lib.ListN.{length, get_or}
use lib.Ieee.Bits.{is_true, is_false}
use Rattle.bspline.specs.Search.{span_of}
use Rattle.bspline.specs.Values.{values_of}
use Rattle.bspline.proofs.Span.{span_holds, span_last}
use Rattle.fraction.specs.Rational.{ℚ, ◌*q◌, at_mostq, ◌≤q◌, ◌<q◌, 𝟘}
use Rattle.fraction.specs.RationalRing.{rational_ring}
use Rattle.fraction.specs.Sum.{sum}
use Rattle.fraction.proofs.Sum.{sum_equal}
use Rattle.fraction.proofs.Rational.{≤q-trans, <q-≤q-trans}
use Rattle.book.specs.Fractions.{fractions}
use Rattle.book.specs.Basis.{knot, basis, on_span, half_open, closed_at_end, Nondecreasing}
use Rattle.book.specs.Curve.{curve}
use Rattle.book.proofs.Order.{not_both, rises}
use Rattle.book.proofs.Readings.{half_open_basis, closed_last, closed_before}
use Rattle.book.proofs.Values.{entries_are}
use Rattle.book.proofs.Curves.{curve_reading, half_open_curve, curve_six}

module _ (t : List ℚ) (m : ℕ) (long : length t ≡ m + 6) (sorted : Nondecreasing (m + 6) (knot t)) (x : ℚ) where
  transitive : (a b c : ℚ) → at_mostq a b ≡ true → at_mostq b c ≡ true → at_mostq a c ≡ true
  transitive a b c h g = is_true (at_mostq a c) (≤q-trans a b c (rw h tt) (rw g tt))

  rising : (i : ℕ) → i + 1 < length t → at_mostq (knot t i) (knot t (i + 1)) ≡ true
  rising i h = is_true (at_mostq (knot t i) (knot t (i + 1))) (sorted i (omega arith))

  -- between the ends of the domain it holds x
  pub found_holds : knot t 5 ≤q x → x <q knot t m
      → (5 ≤ span_of fractions t m x) × (span_of fractions t m x < m) × (knot t (span_of fractions t m x) ≤q x)
      × (x <q knot t (span_of fractions t m x + 1))
  found_holds low high =
      let six : 6 ≤ m = elim (dec_lt 5 m) [
        | yes l ↦ l
        | no l ↦ absurd (not_both (knot t m) x (≤q-trans (knot t m) (knot t 5) x (rises (knot t) (m + 6) sorted m 5 (omega arith)
            (omega arith)) low) high)
      ] in
      let f = span_holds fractions t m x six (omega arith) transitive rising (is_true (at_mostq (knot t 5) x) low)
      (is_false (at_mostq (knot t m) x) high) in
      (f.0, f.1, rw f.2 tt, rw f.3 tt)

  -- from the right end on it is the last
  pub found_last : 6 ≤ m → knot t m ≤q x → span_of fractions t m x ≡ m - 1
  found_last six h = span_last fractions t m x six (omega arith) transitive rising (is_true (at_mostq (knot t m) x) h)

  -- no other span holds x
  pub found_is : (k : ℕ) → 5 ≤ k → k < m → knot t k ≤q x → x <q knot t (k + 1) → span_of fractions t m x ≡ k
  found_is k five km low high =
      let s = span_of fractions t m x in
      let f = found_holds (≤q-trans (knot t 5) (knot t k) x (rises (knot t) (m + 6) sorted 5 k five (omega arith)) low)
      (<q-≤q-trans x (knot t (k + 1)) (knot t m) high (rises (knot t) (m + 6) sorted (k + 1) m (omega arith) (omega arith))) in
      let a : k ≤ s = elim (dec_lt s k) [
        | yes l ↦ absurd (not_both (knot t k) x low (<q-≤q-trans x (knot t (s + 1)) (knot t k) f.3
            (rises (knot t) (m + 6) sorted (s + 1) k (omega arith) (omega arith))))
        | no l ↦ omega arith
      ] in
      let b : s ≤ k = elim (dec_lt k s) [
        | yes l ↦ absurd (not_both (knot t (k + 1)) x (≤q-trans (knot t (k + 1)) (knot t s) x
            (rises (knot t) (m + 6) sorted (k + 1) s (omega arith) (omega (arith, f.1))) f.2) high)
        | no l ↦ omega arith
      ] in
      omega arith

  -- the six values there, the right end of the domain included
  pub values_found : 6 ≤ m → knot t 5 ≤q x → x ≤q knot t m → (r : ℕ) → r < 6
      → get_or (values_of fractions t (span_of fractions t m x) x) r 𝟘 ≡ basis (knot t) (closed_at_end m (knot t) x) x 5
      (span_of fractions t m x - 5 + r)
  values_found six low high r h = go (at_mostq (knot t m) x) refl
    where
      go : (b : Bool) → at_mostq (knot t m) x ≡ b → get_or (values_of fractions t (span_of fractions t m x) x) r 𝟘
          ≡ basis (knot t) (closed_at_end m (knot t) x) x 5 (span_of fractions t m x - 5 + r)
      go true e =
          rw (found_last six (rw e tt)) (entries_are t (m - 1) x (omega arith) r h ∙ sym (closed_last m (knot t) x e high 5
          (m - 1 - 5 + r)))
      go false e =
          let f = found_holds low (rw e tt) in
          let s = span_of fractions t m x in
          entries_are t s x f.0 r h
          ∙ sym (half_open_basis (knot t) (m + 6) sorted s x f.2 f.3 (omega (arith, f.1)) 5 (s - 5 + r) (omega (arith, f.0, f.1)))
          ∙ sym (closed_before m (knot t) x e 5 (s - 5 + r))

  -- and the curve by them
  pub curve_found : 6 ≤ m → knot t 5 ≤q x → x ≤q knot t m → (c : ℕ → ℚ)
      → sum rational_ring 5 (λ r. get_or (values_of fractions t (span_of fractions t m x) x) r 𝟘 *q c (span_of fractions t m x - 5 + r))
      ≡ curve (knot t) (closed_at_end m (knot t) x) m c x
  curve_found six low high c = go (at_mostq (knot t m) x) refl
    where
      six_terms : (s : ℕ) → 5 ≤ s → s < m → sum rational_ring 5 (λ r. get_or (values_of fractions t s x) r 𝟘 *q c (s - 5 + r))
          ≡ curve (knot t) (on_span s) m c x
      six_terms s five below =
          sum_equal rational_ring 5 (λ r. get_or (values_of fractions t s x) r 𝟘 *q c (s - 5 + r))
          (λ r. basis (knot t) (on_span s) x 5 (s - 5 + r) *q c (s - 5 + r))
          (λ r l. ap (λ (z : ℚ). z *q c (s - 5 + r)) (entries_are t s x five r (omega arith)))
          ∙ sym (curve_six (knot t) m s five below x c)

      go : (b : Bool) → at_mostq (knot t m) x ≡ b
          → sum rational_ring 5 (λ r. get_or (values_of fractions t (span_of fractions t m x) x) r 𝟘 *q c (span_of fractions t m x - 5 + r))
          ≡ curve (knot t) (closed_at_end m (knot t) x) m c x
      go true e =
          rw (found_last six (rw e tt))
          (six_terms (m - 1) (omega arith) (omega arith) ∙ sym (curve_reading (knot t) (closed_at_end m (knot t) x) (on_span (m - 1)) m c x
          (omega arith) (λ i l. closed_last m (knot t) x e high 5 i)))
      go false e =
          let f = found_holds low (rw e tt) in
          let s = span_of fractions t m x in
          six_terms s f.0 f.1 ∙ sym (half_open_curve (knot t) m sorted s f.1 x f.2 f.3 c)
          ∙ sym (curve_reading (knot t) (closed_at_end m (knot t) x) (half_open (knot t) x) m c x (omega arith)
          (λ i l. closed_before m (knot t) x e 5 i))
