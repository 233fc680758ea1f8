-- Insertion as coded is the book's, and leaves the curve as it is.
use mathlib.Core.Path.{◌≡◌, refl, sym, ap, ◌∙◌}
use mathlib.Core.Bool.{Bool, true, false, cond}
use mathlib.Core.List.{List, [], ◌∷◌}
use Prim.Native.Nat.{ℕ, zero, suc, ◌+◌, ◌-◌, ◌≤◌, ◌<◌}
use native.Mathlib.Omega.{arith}
use native.Mathlib.Decide.{dec_lt}
use lib.Dec.{leb}
use borrow.Author.Tests.{le-leb, lt-leb}
use lib.ListN.{length}
use Rattle.bspline.specs.Search.{span_of}
use Rattle.bspline.specs.Insertion.{new_control, alpha_of, controls_with, knots_with}
use Rattle.bspline.proofs.Inserted.{knots_low, knots_at_law, knots_high, knots_length, control_is}
use Rattle.fraction.specs.Rational.{ℚ, ◌+q◌, ◌-q◌, ◌*q◌, at_mostq, ◌≤q◌, ◌<q◌, 𝟘, 𝟙}
use Rattle.fraction.specs.RationalRing.{rational_ring}
use Rattle.fraction.specs.Ring.{◌⊕◌, ◌⊖◌, ◌⊗◌, solve, v0, v1, v2, v3, v4}
use Rattle.fraction.specs.Sum.{sum}
use Rattle.fraction.proofs.Rational.{≤q-trans, <q-≤q-trans, ≤q-<q-trans, difference_above}
use Rattle.fraction.proofs.Inverse.{inverse_is}
use Rattle.fraction.proofs.Sum.{sum_equal}
use Rattle.book.specs.Fractions.{fractions}
use Rattle.book.specs.Basis.{knot, basis, on_span, half_open, closed_at_end, Nondecreasing}
use Rattle.book.specs.Curve.{curve, axis_control}
use Rattle.book.specs.Insertion.{inserted_knot, alpha, inserted_control, old_span}
use Rattle.book.proofs.Terms.{n0, n1}
use Rattle.book.proofs.Order.{wider}
use Rattle.book.proofs.Recurrence.{basis_knots}
use Rattle.book.proofs.Readings.{closed_last, closed_before}
use Rattle.book.proofs.Spans.{found_holds}
use Rattle.book.proofs.Curves.{curve_reading, half_open_curve}
use Rattle.book.proofs.Cases.{knot_before, knot_new, knot_after, alpha_one, alpha_zero}
use Rattle.book.proofs.Boehm.{Inverse, boehm}

-- ---- the code's definitions are the book's

-- the knots
pub knots_are : (t : List ℚ) (u : ℚ) (k : ℕ) → k < length t → (i : ℕ) → knot (knots_with u k t) i ≡ inserted_knot (knot t) u k i
knots_are t u k h i = elim (dec_lt k i) [
  | no a ↦ knots_low u k t 𝟘 h i (omega arith) ∙ sym (knot_before (knot t) u k i (omega arith))
  | yes a ↦ elim (dec_lt (k + 1) i) [
    | yes b ↦
        let e : i ≡ i - 1 + 1 = omega arith in
        ap (λ (z : ℕ). knot (knots_with u k t) z) e ∙ knots_high u k t 𝟘 h (i - 1) (omega arith)
        ∙ sym (knot_after (knot t) u k i (i - 1) e (omega arith))
    | no b ↦
        let e : i ≡ k + 1 = omega arith in
        ap (λ (z : ℕ). knot (knots_with u k t) z) e ∙ knots_at_law u k t 𝟘 h ∙ sym (knot_new (knot t) u k i e)
  ]
]

-- the controls of an axis: both go by the same cases
pub controls_are : (t : List ℚ) (u : ℚ) (d m k : ℕ) (c : List ℚ) (axis i : ℕ) → axis < d → i ≤ m
    → axis_control (controls_with fractions t u d m k c) d axis i ≡ inserted_control (knot t) u k 5 (axis_control c d axis) i
unfolding new_control inserted_control alpha
controls_are t u d m k c axis i z h = control_is fractions (alpha_of fractions t u) d m k c i axis h z ∙ cases (leb (i + 5) k) (leb i k)
  where
    cases : (low mid : Bool) → cond low (axis_control c d axis i)
        (cond mid ((𝟙 -q alpha_of fractions t u i) *q axis_control c d axis (i - 1) +q alpha_of fractions t u i *q axis_control c d axis i)
        (axis_control c d axis (i - 1)))
        ≡ cond low 𝟙 (cond mid (alpha_of fractions t u i) 𝟘) *q axis_control c d axis i +q (𝟙 -q cond low 𝟙 (cond mid (alpha_of fractions t u i) 𝟘))
        *q axis_control c d axis (i - 1)
    cases true mid = solve rational_ring (axis_control c d axis i ∷ axis_control c d axis (i - 1) ∷ []) v0 (n1 ⊗ v0 ⊕ (n1 ⊖ n1) ⊗ v1) tt
    cases false true =
        solve rational_ring (alpha_of fractions t u i ∷ axis_control c d axis (i - 1) ∷ axis_control c d axis i ∷ []) ((n1 ⊖ v0) ⊗ v1 ⊕ v0 ⊗ v2)
        (v0 ⊗ v2 ⊕ (n1 ⊖ v0) ⊗ v1) tt
    cases false false = solve rational_ring (axis_control c d axis i ∷ axis_control c d axis (i - 1) ∷ []) v1 (n0 ⊗ v0 ⊕ (n1 ⊖ n0) ⊗ v1) tt

-- ---- the curve by the new controls and the new knots, on a span s of those
sum_shift : (n : ℕ) (a b : ℕ → ℚ) → sum rational_ring (suc n) (λ i. a i +q b i) ≡ b 0 +q sum rational_ring n (λ i. a i +q b (suc i)) +q a (suc
    n)
sum_shift zero a b = solve rational_ring (a 0 ∷ a 1 ∷ b 0 ∷ b 1 ∷ []) (v0 ⊕ v2 ⊕ (v1 ⊕ v3)) (v2 ⊕ (v0 ⊕ v3) ⊕ v1) tt
sum_shift (suc n) a b =
    ap (λ (z : ℚ). a 0 +q b 0 +q z) (sum_shift n (λ i. a (suc i)) (λ i. b (suc i)))
    ∙ solve rational_ring (a 0 ∷ b 0 ∷ b 1 ∷ sum rational_ring n (λ i. a (suc i) +q b (suc (suc i))) ∷ a (suc (suc n)) ∷ [])
    (v0 ⊕ v1 ⊕ (v2 ⊕ v3 ⊕ v4)) (v1 ⊕ (v0 ⊕ v2 ⊕ v3) ⊕ v4) tt

module _ (t : ℕ → ℚ) (u : ℚ) (k : ℕ) (five : 5 ≤ k) (s : ℕ) (divides : (i j : ℕ) → i ≤ s → s < j → j ≤ s + 6 → Inverse
    (inserted_knot t u k j -q inserted_knot t u k i)) (x : ℚ) where
  abbrev M : ℕ → ℚ
  M i = basis (inserted_knot t u k) (on_span s) x 5 i

  abbrev N : ℕ → ℚ
  N i = basis t (on_span (old_span k s)) x 5 i

  abbrev ω : ℕ → ℚ
  ω i = alpha t u k 5 i

  -- the terms α_i P_i N'_i and (1 - α_i) P_(i-1) N'_i, summed by the control
  curve_terms : (c : ℕ → ℚ) (n : ℕ) → k ≤ n → sum rational_ring (suc n) (λ i. M i *q inserted_control t u k 5 c i)
      ≡ sum rational_ring n (λ i. N i *q c i)
  unfolding inserted_control
  curve_terms c n h =
      let a : ℕ → ℚ = λ i. ω i *q c i *q M i in
      let b : ℕ → ℚ = λ i. (𝟙 -q ω i) *q c (i - 1) *q M i in
      let S = sum rational_ring n (λ i. a i +q b (suc i)) in
      sum_equal rational_ring (suc n) (λ i. M i *q (ω i *q c i +q (𝟙 -q ω i) *q c (i - 1))) (λ i. a i +q b i)
      (λ i l. solve rational_ring (ω i ∷ c i ∷ c (i - 1) ∷ M i ∷ []) (v3 ⊗ (v0 ⊗ v1 ⊕ (n1 ⊖ v0) ⊗ v2)) (v0 ⊗ v1 ⊗ v3 ⊕ (n1 ⊖ v0) ⊗ v2 ⊗ v3)
      tt)
      ∙ sum_shift n a b
      ∙ ap (λ (z : ℚ). (𝟙 -q z) *q c (0 - 1) *q M 0 +q S +q a (suc n)) (alpha_one t u k 5 0 (omega arith))
      ∙ ap (λ (z : ℚ). (𝟙 -q 𝟙) *q c (0 - 1) *q M 0 +q S +q z *q c (suc n) *q M (suc n)) (alpha_zero t u k 5 (suc n) (omega arith))
      ∙ solve rational_ring (c (0 - 1) ∷ M 0 ∷ S ∷ c (suc n) ∷ M (suc n) ∷ []) ((n1 ⊖ n1) ⊗ v0 ⊗ v1 ⊕ v2 ⊕ n0 ⊗ v3 ⊗ v4) v2 tt
      ∙ sum_equal rational_ring n (λ i. a i +q b (suc i)) (λ i. N i *q c i)
      (λ i l.
      let e : suc i - 1 ≡ i = omega arith in
      let f : suc i ≡ i + 1 = omega arith in
      rw (e, f) (solve rational_ring (ω i ∷ ω (i + 1) ∷ c i ∷ M i ∷ M (i + 1) ∷ []) (v0 ⊗ v2 ⊗ v3 ⊕ (n1 ⊖ v1) ⊗ v2 ⊗ v4)
      ((v0 ⊗ v3 ⊕ (n1 ⊖ v1) ⊗ v4) ⊗ v2) tt
      ∙ ap (λ (z : ℚ). z *q c i) (sym (boehm t u k s divides x 5 (omega arith) i))))

  curve_inserted : (c : ℕ → ℚ) (m : ℕ) → k < m → curve (inserted_knot t u k) (on_span s) (m + 1) (inserted_control t u k 5 c) x
      ≡ curve t (on_span (old_span k s)) m c x
  curve_inserted c m h =
      let e : m + 1 - 1 ≡ suc (m - 1) = omega arith in
      rw e (curve_terms c (m - 1) (omega arith))

-- ---- m + 6 knots that never fall, and u in the span k
module _ (t : List ℚ) (u : ℚ) (m k : ℕ) (five : 5 ≤ k) (km : k < m) (long : length t ≡ m + 6) (sorted : Nondecreasing (m + 6) (knot t))
    (low : knot t k ≤q u) (high : u ≤q knot t (k + 1)) where
  abbrev t' : ℕ → ℚ
  t' = knot (knots_with u k t)

  is_new : (i : ℕ) → t' i ≡ inserted_knot (knot t) u k i
  is_new = knots_are t u k (omega arith)

  at_low : (i : ℕ) → i ≤ k → t' i ≡ knot t i
  at_low i h = is_new i ∙ knot_before (knot t) u k i h

  at_new : (i : ℕ) → i ≡ k + 1 → t' i ≡ u
  at_new i h = is_new i ∙ knot_new (knot t) u k i h

  at_high : (j i : ℕ) → j ≡ i + 1 → k < i → t' j ≡ knot t i
  at_high j i e h = is_new j ∙ knot_after (knot t) u k j i e h

  -- the new knots never fall either
  new_nondecreasing : Nondecreasing (m + 7) t'
  new_nondecreasing i l = elim (dec_lt i k) [
    | yes a ↦ rw (at_low i (omega arith), at_low (i + 1) (omega arith)) (sorted i (omega arith))
    | no a ↦ elim (dec_lt k i) [
      | no b ↦ let e : i ≡ k = omega arith in rw (at_low i (omega arith), at_new (i + 1) (omega arith), e) low
      | yes b ↦ elim (dec_lt (k + 1) i) [
        | no g ↦ let e : i ≡ k + 1 = omega arith in rw (at_new i e, at_high (i + 1) i refl (omega arith), e) high
        | yes g ↦
            let e : i - 1 + 1 ≡ i = omega arith in
            let q : knot t (i - 1) ≤q knot t i = rw e at (sorted (i - 1) (omega arith)) in
            rw (at_high i (i - 1) (omega arith) (omega arith), at_high (i + 1) i refl (omega arith)) q
      ]
    ]
  ]

  -- on each span of the new knots that is wider than 0, at every x
  pub curve_kept : (s : ℕ) → s ≤ m → t' s <q t' (s + 1) → (d axis : ℕ) → axis < d → (c : List ℚ) (x : ℚ)
      → curve t' (on_span s) (m + 1) (axis_control (controls_with fractions t u d m k c) d axis) x
      ≡ curve (knot t) (on_span (old_span k s)) m (axis_control c d axis) x
  curve_kept s h w d axis z c x =
      let divides : (i j : ℕ) → i ≤ s → s < j → j ≤ s + 6 → Inverse (inserted_knot (knot t) u k j -q inserted_knot (knot t) u k i) =
      λ i j a b g. inverse_is (inserted_knot (knot t) u k j -q inserted_knot (knot t) u k i)
      (difference_above (inserted_knot (knot t) u k i) (inserted_knot (knot t) u k j)
      (rw (is_new i, is_new j) at (wider t' (m + 7) new_nondecreasing s i j a b (omega arith) w))) in
      sum_equal rational_ring (m + 1 - 1) (λ i. basis t' (on_span s) x 5 i *q axis_control (controls_with fractions t u d m k c) d axis i)
      (λ i. basis (inserted_knot (knot t) u k) (on_span s) x 5 i *q inserted_control (knot t) u k 5 (axis_control c d axis) i)
      (λ i l. rw (
        controls_are t u d m k c axis i z (omega arith),
        basis_knots t' (inserted_knot (knot t) u k) (on_span s) x 5 i
            (λ j a b. is_new j),
      ))
      ∙ curve_inserted (knot t) u k five s divides x (axis_control c d axis) m km

  -- ---- a new span lies in its old one
  old_span_low : (s : ℕ) (x : ℚ) → t' s ≤q x → knot t (old_span k s) ≤q x
  unfolding old_span
  old_span_low s x a = elim (dec_lt k s) [
    | no l ↦ rw (le-leb s k (omega arith)) (rw (at_low s (omega arith)) at a)
    | yes l ↦ rw (lt-leb s k l) (elim (dec_lt (k + 1) s) [
      | yes g ↦ rw (at_high s (s - 1) (omega arith) (omega arith)) at a
      | no g ↦ let e : s - 1 ≡ k = omega arith in rw e (≤q-trans (knot t k) u x low (rw (at_new s (omega arith)) at a))
    ])
  ]

  old_span_high : (s : ℕ) (x : ℚ) → x <q t' (s + 1) → x <q knot t (old_span k s + 1)
  unfolding old_span
  old_span_high s x a = elim (dec_lt k s) [
    | yes l ↦
        let e : s - 1 + 1 ≡ s = omega arith in
        rw (lt-leb s k l, e) (rw (at_high (s + 1) s refl l) at a)
    | no l ↦ rw (le-leb s k (omega arith)) (elim (dec_lt s k) [
      | yes g ↦ rw (at_low (s + 1) (omega arith)) at a
      | no g ↦ let e : s ≡ k = omega arith in <q-≤q-trans x u (knot t (s + 1)) (rw (at_new (s + 1) (omega arith)) at a) (rw e high)
    ])
  ]

  old_span_below : (s : ℕ) → s ≤ m → old_span k s < m
  unfolding old_span
  old_span_below s h = elim (dec_lt k s) [
    | yes l ↦ rw (lt-leb s k l) (omega arith)
    | no l ↦ rw (le-leb s k (omega arith)) (omega arith)
  ]

  -- ---- the domain is the same
  new_length : length (knots_with u k t) ≡ m + 1 + 6
  new_length = knots_length u k t 𝟘 (omega arith) ∙ omega arith

  new_start : t' 5 ≡ knot t 5
  new_start = at_low 5 five

  new_end : t' (m + 1) ≡ knot t m
  new_end = at_high (m + 1) m refl km

  -- the book's curve, from the knot 5 to before the knot m
  pub half_open_kept : (d axis : ℕ) → axis < d → (c : List ℚ) (x : ℚ) → knot t 5 ≤q x → x <q knot t m
      → curve t' (half_open t' x) (m + 1) (axis_control (controls_with fractions t u d m k c) d axis) x
      ≡ curve (knot t) (half_open (knot t) x) m (axis_control c d axis) x
  half_open_kept d axis z c x a b =
      let s = span_of fractions (knots_with u k t) (m + 1) x in
      let rising : Nondecreasing (m + 1 + 6) t' = λ i l. new_nondecreasing i (omega arith) in
      let f = found_holds (knots_with u k t) (m + 1) new_length rising x (rw new_start a) (rw new_end b) in
      half_open_curve t' (m + 1) rising s f.1 x f.2 f.3 (axis_control (controls_with fractions t u d m k c) d axis)
      ∙ curve_kept s (omega (arith, f.1)) (≤q-<q-trans (t' s) x (t' (s + 1)) f.2 f.3) d axis z c x
      ∙ sym (half_open_curve (knot t) m sorted (old_span k s) (old_span_below s (omega (arith, f.1))) x (old_span_low s x f.2)
      (old_span_high s x f.3) (axis_control c d axis))

  -- with the right end of the domain, where the last span is wider than 0 and u before its end
  pub closed_kept : u <q knot t (k + 1) → knot t (m - 1) <q knot t m → (d axis : ℕ) → axis < d → (c : List ℚ) (x : ℚ) → knot t 5 ≤q x
      → x ≤q knot t m
      → curve t' (closed_at_end (m + 1) t' x) (m + 1) (axis_control (controls_with fractions t u d m k c) d axis) x
      ≡ curve (knot t) (closed_at_end m (knot t) x) m (axis_control c d axis) x
  unfolding old_span
  closed_kept before last d axis z c x a b = go (at_mostq (knot t m) x) refl
    where
      c' : ℕ → ℚ
      c' = axis_control (controls_with fractions t u d m k c) d axis

      -- the last new span is wider than 0
      wide : t' m <q t' (m + 1)
      wide = elim (dec_lt (k + 1) m) [
        | yes l ↦ rw (at_high m (m - 1) (omega arith) (omega arith), new_end) last
        | no l ↦ let e : m ≡ k + 1 = omega arith in rw (at_new m e, new_end, e) before
      ]

      one : m + 1 - 1 ≡ m
      one = omega arith

      go : (b : Bool) → at_mostq (knot t m) x ≡ b → curve t' (closed_at_end (m + 1) t' x) (m + 1) c' x
          ≡ curve (knot t) (closed_at_end m (knot t) x) m (axis_control c d axis) x
      go true e =
          let e' : at_mostq (t' (m + 1)) x ≡ true = rw new_end e in
          let o : old_span k m ≡ m - 1 = rw (lt-leb m k km) in
          curve_reading t' (closed_at_end (m + 1) t' x) (on_span (m + 1 - 1)) (m + 1) c' x (omega arith)
          (λ i l. closed_last (m + 1) t' x e' (rw new_end b) 5 i)
          ∙ ap (λ (n : ℕ). curve t' (on_span n) (m + 1) c' x) one
          ∙ curve_kept m (omega arith) wide d axis z c x
          ∙ ap (λ (n : ℕ). curve (knot t) (on_span n) m (axis_control c d axis) x) o
          ∙ sym (curve_reading (knot t) (closed_at_end m (knot t) x) (on_span (m - 1)) m (axis_control c d axis) x (omega arith)
          (λ i l. closed_last m (knot t) x e b 5 i))
      go false e =
          let e' : at_mostq (t' (m + 1)) x ≡ false = rw new_end e in
          curve_reading t' (closed_at_end (m + 1) t' x) (half_open t' x) (m + 1) c' x (omega arith) (λ i l. closed_before (m + 1) t' x e' 5 i)
          ∙ half_open_kept d axis z c x a (rw e tt)
          ∙ sym (curve_reading (knot t) (closed_at_end m (knot t) x) (half_open (knot t) x) m (axis_control c d axis) x (omega arith)
          (λ i l. closed_before m (knot t) x e 5 i))
