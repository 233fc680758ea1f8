-- "a deeper figure is never larger than a shallower one on the same curve, axis, points and parameters; if depth 0 has none, none is
-- given": document 02, request 8.
use mathlib.Core.Bool.{Bool, ◌||◌, cond, false, not, true}
use mathlib.Core.List.{List}
use mathlib.Core.Path.{◌∙◌, ◌≡◌, ap, refl, subst}
use Prim.Native.Nat.{ℕ, zero, suc, ◌*◌, ◌+◌, ◌-◌, ◌≤◌}
use native.Mathlib.Omega.{arith}
use borrow.Author.Tests.{le-ltb}
use lib.Dec.{T, eqb, ltb}
use lib.ListN.{length}
use lib.Ieee.{Float, lt}
use lib.Ieee.Scale.{finite}
use Rattle.arith.specs.Loop.{each, turns}
use Rattle.window.specs.Cells.{+0}
use Rattle.fraction.specs.Fraction.{◌≤f◌}
use Rattle.fraction.specs.Pair.{Ends, highest, lowest}
use Rattle.fraction.specs.Rational.{◌≤q◌, ℚ}
use Rattle.fraction.specs.Value.{exact_fraction, value}
use Rattle.fraction.proofs.Lowest.{highest_is, lowest_is}
use Rattle.fraction.proofs.Rational.{≤q-means-≤f, ≤q-refl, ≤q-trans}
use Rattle.request.specs.declared.parameters.Spacing.{Spacing}
use Rattle.request.specs.Parameters.{misplaced, parameter_list, unreliable}
use Rattle.request.specs.Points.{unfit}
use Rattle.curve.specs.declared.Curve.{Curve}
use Rattle.curve.specs.Form.{Slices, well_formed}
use Rattle.curve.specs.Places.{position_of}
use Rattle.figure.specs.Certify.{CertificateOutcome, certified_axis, certify_of, outcome}
use Rattle.figure.specs.Figure.{Axis, Figure, NoLarger, figure, figure_of, halved_figure, intersection, intersection_figure, larger, no_figure, six_figure, smaller, with_intersection}
use Rattle.figure.specs.Halving.{left_half, right_half}
use Rattle.figure.specs.Intersection.{Intersection, difference_bernstein}
use Rattle.figure.specs.Operations.{ends}
use Rattle.figure.proofs.Enclosure.{bernstein_encloses, exact}
use Rattle.figure.proofs.Largest.{Enclosed, Sound, halved_sound, larger_sound, left_enclosed, right_enclosed, six_sound, zero_sound}
use Rattle.figure.proofs.Overlap.{highest_has, lowest_has}

-- the same as `NoLarger`, in ℚ
abbrev pub Under : Figure → Figure → Type 0
Under (figure x) (figure y) = T (finite x) × T (finite y) × (value x ≤q value y)
Under (figure x) no_figure = ⊥
Under no_figure (figure y) = ⊥
Under no_figure no_figure = Unit {0}

under_refl : (g : Figure) → Sound g → Under g g
under_refl (figure x) S = (S, S, ≤q-refl (value x))
under_refl no_figure S = tt

under_trans : (f g h : Figure) → Under f g → Under g h → Under f h
under_trans (figure x) (figure y) (figure z) a b = (a.0, b.1, ≤q-trans (value x) (value y) (value z) a.2 b.2)
under_trans (figure x) (figure y) no_figure a b = absurd b
under_trans (figure x) no_figure h a b = absurd a
under_trans no_figure (figure y) h a b = absurd a
under_trans no_figure no_figure (figure z) a b = absurd b
under_trans no_figure no_figure no_figure a b = tt

-- the larger of two, and the smaller of two, keep it
larger_under : (f g h k : Figure) → Under f g → Under h k → Under (larger f h) (larger g k)
unfolding larger
larger_under (figure x) (figure y) (figure z) (figure w) a b =
    let u = highest_is y w a.1 b.1 in (
      (highest_is x z a.0 b.0).is_finite,
      u.is_finite,
      highest_has (λ s. value s ≤q value (highest y w)) x z (≤q-trans (value x) (value y) (value (highest y w)) a.2 u.first)
          (≤q-trans (value z) (value w) (value (highest y w)) b.2 u.second),
    )
larger_under (figure x) (figure y) (figure z) no_figure a b = absurd b
larger_under (figure x) (figure y) no_figure (figure w) a b = absurd b
larger_under (figure x) (figure y) no_figure no_figure a b = tt
larger_under (figure x) no_figure h k a b = absurd a
larger_under no_figure (figure y) h k a b = absurd a
larger_under no_figure no_figure h k a b = tt

smaller_under : (f g h k : Figure) → Under f g → Under h k → Under (smaller f h) (smaller g k)
unfolding smaller
smaller_under (figure x) (figure y) (figure z) (figure w) a b =
    let u = lowest_is x z a.0 b.0 in (
      u.is_finite,
      (lowest_is y w a.1 b.1).is_finite,
      lowest_has (λ s. value (lowest x z) ≤q value s) y w (≤q-trans (value (lowest x z)) (value x) (value y) u.first a.2)
          (≤q-trans (value (lowest x z)) (value z) (value w) u.second b.2),
    )
smaller_under (figure x) (figure y) (figure z) no_figure a b = absurd b
smaller_under (figure x) (figure y) no_figure (figure w) a b = absurd b
smaller_under (figure x) (figure y) no_figure no_figure a b = a
smaller_under (figure x) no_figure h k a b = absurd a
smaller_under no_figure (figure y) h k a b = absurd a
smaller_under no_figure no_figure h k a b = tt

-- the smaller of two is no larger than the first
smaller_own : (g h : Figure) → Sound g → Sound h → Under (smaller g h) g
unfolding smaller
smaller_own (figure x) (figure y) G H = let u = lowest_is x y G H in (u.is_finite, G, u.first)
smaller_own (figure x) no_figure G H = under_refl (figure x) G
smaller_own no_figure h G H = tt

-- ---- one step deeper
halved_deeper : (depth : ℕ) (p : ℕ → Ends) (c : ℕ → ℚ) → Enclosed p c → Under (halved_figure (suc depth) p) (halved_figure depth p)
unfolding halved_figure
halved_deeper zero p c E =
    let lp = left_half ends p in
    let rp = right_half ends p in
    smaller_own (six_figure p) (larger (six_figure lp) (six_figure rp)) (six_sound p c E)
    (larger_sound (six_figure lp) (six_figure rp) (six_sound lp (left_half exact c) (left_enclosed p c E))
    (six_sound rp (right_half exact c) (right_enclosed p c E)))
halved_deeper (suc depth) p c E =
    let lp = left_half ends p in
    let rp = right_half ends p in
    smaller_under (six_figure p) (six_figure p) (larger (halved_figure (suc depth) lp) (halved_figure (suc depth) rp))
    (larger (halved_figure depth lp) (halved_figure depth rp)) (under_refl (six_figure p) (six_sound p c E))
    (larger_under (halved_figure (suc depth) lp) (halved_figure depth lp) (halved_figure (suc depth) rp) (halved_figure depth rp)
    (halved_deeper depth lp (left_half exact c) (left_enclosed p c E)) (halved_deeper depth rp (right_half exact c) (right_enclosed p c E)))

-- ---- any two depths
halved_depths : (d j : ℕ) (p : ℕ → Ends) (c : ℕ → ℚ) → Enclosed p c → Under (halved_figure (d + j) p) (halved_figure j p)
halved_depths zero j p c E =
    let e : j ≡ 0 + j = omega arith in
    subst (λ (k : ℕ). Under (halved_figure k p) (halved_figure j p)) e (under_refl (halved_figure j p) (halved_sound j p c E))
halved_depths (suc d) j p c E =
    let e : suc (d + j) ≡ suc d + j = omega arith in
    subst (λ (k : ℕ). Under (halved_figure k p) (halved_figure j p)) e
    (under_trans (halved_figure (suc (d + j)) p) (halved_figure (d + j) p) (halved_figure j p) (halved_deeper (d + j) p c E)
    (halved_depths d j p c E))

pub intersection_deeper : (j k : ℕ) (x : Intersection) → j ≤ k → Under (intersection_figure k x) (intersection_figure j x)
unfolding intersection_figure
intersection_deeper j k x l =
    let e : k - j + j ≡ k = omega arith in
    let p = difference_bernstein ends x in
    subst (λ (k : ℕ). Under (halved_figure k p) (halved_figure j p)) e (halved_depths (k - j) j p (difference_bernstein exact x)
    (bernstein_encloses x))

-- ---- all intersections
turns_under : (f g : ℕ → Figure → Figure) → ((i : ℕ) (a b : Figure) → Under a b → Under (f i a) (g i b)) → (n i : ℕ) (a b : Figure)
    → Under a b → Under (turns f n i a) (turns g n i b)
unfolding turns
turns_under f g h zero i a b u = u
turns_under f g h (suc n) i a b u = turns_under f g h n (i + 1) (f i a) (g i b) (h i a b u)

each_under : (f g : ℕ → Figure → Figure) → ((i : ℕ) (a b : Figure) → Under a b → Under (f i a) (g i b)) → (n : ℕ) (a b : Figure)
    → Under a b → Under (each f 0 n a) (each g 0 n b)
unfolding each
each_under f g h n = turns_under f g h (n - 0) 0

module _ (j k : ℕ) (x : Axis) (l : j ≤ k) where
  with_under : (i m : ℕ) (a b : Figure) → Under a b → Under (with_intersection k x i m a) (with_intersection j x i m b)
  unfolding with_intersection
  with_under i m a b u = go (lt (intersection x i m).left (intersection x i m).right)
    where
      go : (t : Bool) → Under (cond t (larger a (intersection_figure k (intersection x i m))) a)
          (cond t (larger b (intersection_figure j (intersection x i m))) b)
      go true = larger_under a b (intersection_figure k (intersection x i m)) (intersection_figure j (intersection x i m)) u
          (intersection_deeper j k (intersection x i m) l)
      go false = u

  figure_under : Under (figure_of k x) (figure_of j x)
  unfolding figure_of
  figure_under =
      each_under (λ i. each (with_intersection k x i) 0 x.segments) (λ i. each (with_intersection j x i) 0 x.segments)
      (λ i. each_under (with_intersection k x i) (with_intersection j x i) (with_under i) x.segments) x.intervals (figure +0)
      (figure +0) (under_refl (figure +0) zero_sound)

written : (f g : Figure) → Under f g → NoLarger f g
written (figure x) (figure y) u = (u.0, u.1, ≤q-means-≤f (exact_fraction x) (exact_fraction y) u.2)
written (figure x) no_figure u = absurd u
written no_figure (figure y) u = absurd u
written no_figure no_figure u = tt

-- The theorem: of two depths, the deeper one's figure is given exactly where the shallower one's is, and is not larger.
pub deeper_theorem : (j k : ℕ) (x : Axis) → j ≤ k → NoLarger (figure_of k x) (figure_of j x)
deeper_theorem j k x l = written (figure_of k x) (figure_of j x) (figure_under j k x l)

-- ---- the certificate
-- the same number, and a figure that is no larger
pub record Deeper (x y : CertificateOutcome) : Type 0 where
  pub number : x.number ≡ y.number
  pub certified : NoLarger x.certified y.certified

refused_alike : (b : Bool) (n : ℕ) (x y : CertificateOutcome) → Deeper x y → Deeper (cond b (outcome n no_figure) x)
    (cond b (outcome n no_figure) y)
refused_alike true n x y h = record { number = refl; certified = tt }
refused_alike false n x y h = h

-- The same of two certificates of one curve, axis, points and parameters, at depths up to 6. By its contract `certify` answers as
-- `certify_of` does.
pub deeper_certificate : (c : Curve) (s : Slices) (points : List Float) (n : ℕ) (spacing : Spacing) (parameters : List Float)
    (axis j k : ℕ) → j ≤ k → k ≤ 6
    → Deeper (certify_of c s points n spacing parameters axis k) (certify_of c s points n spacing parameters axis j)
unfolding certify_of
deeper_certificate c s points n spacing parameters axis j k l m =
    rw (le-ltb 6 k m, le-ltb 6 j (omega arith))
    (refused_alike (ltb 16 c.d || ltb 20000 n) 18 _ _
    (refused_alike (not (eqb (length points) (c.d * n))) 20 _ _
    (refused_alike (unfit c.d n points) 1 _ _
    (refused_alike (misplaced (parameter_list spacing parameters points c.d n) n) 5 _ _
    (refused_alike (unreliable (parameter_list spacing parameters points c.d n) n) 6 _ _
    (refused_alike (not (well_formed c s)) 24 _ _
    (refused_alike (not (ltb (position_of c.axes c.k axis) c.k)) 3 _ _
    (record { number = refl; certified = deeper_theorem j k (certified_axis c s points n spacing parameters axis) l }))))))))

-- where the shallower gives the figure F, the deeper gives a figure that is at most F
figure_kept : (x y : CertificateOutcome) (F : Float) → Deeper x y → y ≡ outcome 0 (figure F) → (G : Float) × (x ≡ outcome 0 (figure G))
    × (exact_fraction G ≤f exact_fraction F)
figure_kept x y F h e = go x.certified (ap (λ (o : CertificateOutcome). o.number) e) (rw e at h.certified) refl
  where
    go : (f : Figure) → y.number ≡ 0 → NoLarger f (figure F) → x.certified ≡ f → (G : Float) × (x ≡ outcome 0 (figure G))
        × (exact_fraction G ≤f exact_fraction F)
    go (figure G) z u t = (G, ap (λ (n : ℕ). outcome n x.certified) (h.number ∙ z) ∙ ap (outcome 0) t, u.2)
    go no_figure z u t = absurd u

-- where the shallower, as that of depth 0, gives none, the deeper gives none
none_kept : (x y : CertificateOutcome) → Deeper x y → y ≡ outcome 0 no_figure → x ≡ outcome 0 no_figure
none_kept x y h e = go x.certified (ap (λ (o : CertificateOutcome). o.number) e) (rw e at h.certified) refl
  where
    go : (f : Figure) → y.number ≡ 0 → NoLarger f no_figure → x.certified ≡ f → x ≡ outcome 0 no_figure
    go (figure G) z u t = absurd u
    go no_figure z u t = ap (λ (n : ℕ). outcome n x.certified) (h.number ∙ z) ∙ ap (outcome 0) t

module _ (c : Curve) (s : Slices) (points : List Float) (n : ℕ) (spacing : Spacing) (parameters : List Float) (axis j k : ℕ) (l : j ≤ k)
    (m : k ≤ 6) where
  pub deeper_figure : (F : Float) → certify_of c s points n spacing parameters axis j ≡ outcome 0 (figure F)
      → (G : Float) × (certify_of c s points n spacing parameters axis k ≡ outcome 0 (figure G)) × (exact_fraction G ≤f exact_fraction F)
  deeper_figure F = figure_kept (certify_of c s points n spacing parameters axis k) (certify_of c s points n spacing parameters axis j) F
      (deeper_certificate c s points n spacing parameters axis j k l m)

  pub deeper_none : certify_of c s points n spacing parameters axis j ≡ outcome 0 no_figure → certify_of c s points n spacing parameters
      axis k ≡ outcome 0 no_figure
  deeper_none = none_kept (certify_of c s points n spacing parameters axis k) (certify_of c s points n spacing parameters axis j)
      (deeper_certificate c s points n spacing parameters axis j k l m)
