-- Document 02, request 10: ".. and, at one depth, the same certified figures for the selected axes". The certificate's definition reads of
-- the points only the axis's own row.
use mathlib.Core.Path.{◌≡◌, refl, sym, ap, ◌∙◌}
use mathlib.Core.Bool.{Bool, true, false, not, cond, ◌||◌}
use mathlib.Core.List.{List}
use Prim.Native.Nat.{ℕ, ◌+◌, ◌-◌, ◌*◌, ◌<◌}
use native.Mathlib.Omega.{arith}
use lib.Dec.{ltb}
use lib.ListN.{length, get_or}
use lib.Ieee.{Float, lt}
use Rattle.arith.specs.Loop.{each}
use Rattle.arith.proofs.Loops.{each_same}
use Rattle.window.specs.Cells.{+0, at, Doubles}
use Rattle.window.specs.Rows.{list_of}
use Rattle.bspline.specs.Segments.{Polynomial}
use Rattle.request.specs.declared.parameters.Spacing.{Spacing}
use Rattle.request.specs.declared.parameters.Spacing.TheVariants.{Chord}
use Rattle.request.specs.Parameters.{normalised_of, parameter_list, misplaced, unreliable}
use Rattle.request.specs.Points.{unfit}
use Rattle.request.proofs.Spaced.{points_unread}
use Rattle.curve.specs.declared.Curve.{Curve}
use Rattle.curve.specs.declared.Mode.{Mode}
use Rattle.curve.specs.Form.{with_widths, well_formed}
use Rattle.curve.specs.Places.{position_of}
use Rattle.figure.specs.Axis.{axis_of}
use Rattle.figure.specs.Certify.{CertificateOutcome, outcome, certify_of}
use Rattle.figure.specs.Figure.{Axis, Figure, figure, no_figure, larger, intersection_figure, meeting, intersection, with_intersection, figure_of}
use Rattle.smoothing.specs.Answer.Answer.{done, refused}
use Rattle.smoothing.specs.Request.{Lane, Limits, smoothed_axes, axis_count, lane_parameters}
use Rattle.smoothing.specs.Checks.{wide_lane, wide_limits, miscounted_points}
use Rattle.smoothing.specs.Build.{Result, slices_of, curve_of, result_of, checked_of, answer_of, build_of}
use Rattle.smoothing.proofs.Accepted.{not_refused, build_accepted, build_domain}
use Rattle.smoothing.proofs.Passed.{lane_passed}
use Rattle.smoothing.proofs.WellFormed.{accepted_well_formed}
use Rattle.smoothing.proofs.UnsmoothedRows.{with_points}
use Rattle.certificate.specs.Outcome.{outcome_of}
use Rattle.two_calls.specs.Building.{BuildCall, Gave, SelectedRowsSame}
use Rattle.two_calls.specs.Certifying.{CertifyCall}
use Rattle.two_calls.proofs.AcceptedCalls.{built}
use Rattle.two_calls.proofs.UnsmoothedRows.{same_result}

-- ---- the figure reads of the points only row `axis`, chords apart
module _ (depth : ℕ) (breaks coefficients : List Float) (k place : ℕ) (points points' : List Float) (d axis n : ℕ) (spacing : Spacing)
    (parameters : List Float) (spaced : parameter_list spacing parameters points d n ≡ parameter_list spacing parameters points' d n)
    (same : (i : ℕ) → i < n → at points (i * d + axis) ≡ at points' (i * d + axis)) where
  abbrev here : Axis
  here = axis_of breaks coefficients k place points d axis n spacing parameters

  abbrev there : Axis
  there = axis_of breaks coefficients k place points' d axis n spacing parameters

  intersection_same : (i m : ℕ) (so_far : Figure) → i < n - 1 → with_intersection depth here i m so_far ≡ with_intersection depth there i m so_far
  unfolding with_intersection intersection
  intersection_same i m so_far h =
      let a = same i (omega arith) in
      let b = same (i + 1) (omega arith) in
      λ j. let x = meeting (here.break m) (here.break (m + 1)) (here.coefficient m) (normalised_of (spaced j) n i)
      (normalised_of (spaced j) n (i + 1)) (a j) (b j) in
      cond (lt x.left x.right) (larger so_far (intersection_figure depth x)) so_far

  pub row_figure : figure_of depth here ≡ figure_of depth there
  unfolding figure_of
  row_figure =
      each_same (λ i. each_of here i) (λ i. each_of there i) 0 (n - 1) (figure +0) (λ i s l h.
      each_same (with_intersection depth here i) (with_intersection depth there i) 0 (length breaks - 1) s (λ m s l g.
      intersection_same i m s h))
    where
      each_of : Axis → ℕ → Figure → Figure
      each_of x i = each (with_intersection depth x i) 0 x.segments

-- ---- what an accepted request gave passes the certificate's checks
passes : (a b c e f g w : Bool) (r : CertificateOutcome) → b ≡ false → c ≡ false → e ≡ false → f ≡ false → g ≡ false → w ≡ true
    → cond a (outcome 23 no_figure) (cond b (outcome 18 no_figure) (cond c (outcome 20 no_figure) (cond e (outcome 1 no_figure)
    (cond f (outcome 5 no_figure) (cond g (outcome 6 no_figure) (cond (not w) (outcome 24 no_figure) r))))))
    ≡ cond a (outcome 23 no_figure) r
passes a b c e f g w r p q s t u v = rw (p, q, s, t, u, v) refl

counted : (l : Lane) (m : Limits) (x : Result) → build_of (record { lane = l; limits = m }) ≡ done x → miscounted_points l ≡ false
unfolding build_of answer_of
counted l m x h =
    let a = not_refused (wide_lane l || wide_limits m) 18 (cond (miscounted_points l) (refused 20) (checked_of l m)) x h in
    (not_refused (miscounted_points l) 20 (checked_of l m) x a.1).0

-- the answer for an axis, from the axes and the selected curve that the request gave
abbrev told : Lane → List ℕ → Polynomial Float → ℕ → ℕ → CertificateOutcome
told l axes p axis depth =
    let k = length axes in
    let place = position_of (list_of 16 (λ i. get_or axes i 0)) k axis in
    cond (ltb 6 depth) (outcome 23 no_figure)
    (cond (not (ltb place k)) (outcome 3 no_figure)
    (outcome 0 (figure_of depth
    (axis_of p.breaks (with_widths p.breaks p.coefficients) k place l.points l.d axis l.n l.spacing l.parameters))))

certified_is : (l : Lane) (m : Limits) (x : Result) (mode : Mode) (axis depth : ℕ) → Doubles l.parameters
    → build_of (record { lane = l; limits = m }) ≡ done x
    → certify_of (curve_of mode l.d x) (slices_of x) l.points l.n l.spacing l.parameters axis depth
    ≡ told l x.axes x.selected axis depth
unfolding certify_of curve_of wide_lane miscounted_points
certified_is l m x mode axis depth F h =
    let p = lane_passed l (build_accepted l m x h).passed in
    passes (ltb 6 depth) (wide_lane l) (miscounted_points l) (unfit l.d l.n l.points)
    (misplaced (lane_parameters l) l.n) (unreliable (lane_parameters l) l.n)
    (well_formed (curve_of mode l.d x) (slices_of x)) _
    (build_domain l m x h).0 (counted l m x h) p.points p.placed p.reliable (accepted_well_formed l m x mode F h)

axes_are : (l : Lane) (m : Limits) (x : Result) → build_of (record { lane = l; limits = m }) ≡ done x → x.axes ≡ smoothed_axes l
unfolding result_of
axes_are l m x h = ap (λ (r : Result). r.axes) (sym (build_accepted l m x h).result_is)

-- Smoothed axis a certified, at one depth, on the curve of each call and the used cells of its slices, against its own points: one answer.
-- `Doubles`, that each listed parameter is an f64, is what every slice has.
pub figures_agree : {l : Lane} {points : List Float} {m : Limits} (first : BuildCall l m) (second : BuildCall (with_points l points) m)
    → (l.spacing ≡ Chord → ⊥) → SelectedRowsSame l points → Doubles l.parameters
    → {x x' : Result} → Gave first x → Gave second x' → (a depth : ℕ)
    → a < axis_count l → let axis = get_or (smoothed_axes l) a 0 in
    (u : CertifyCall first.curve (slices_of x) l.points l.n l.spacing l.parameters axis depth)
    (v : CertifyCall second.curve (slices_of x') points l.n l.spacing l.parameters axis depth)
    → outcome_of u.answer ≡ outcome_of v.answer
figures_agree {l} {points} {m} first second C S F {x} {x'} g g' a depth h u v =
    let l' = with_points l points in
    let axis = get_or (smoothed_axes l) a 0 in
    let s = l.spacing in
    let t = l.parameters in
    let n = l.n in
    let b = built first g in
    let b' = built second g' in
    let axes : x.axes ≡ x'.axes = axes_are l m x b ∙ sym (axes_are l' m x' b') in
    let same = same_result first second C S g g' in
    let k = length x'.axes in
    let place = position_of (list_of 16 (λ i. get_or x'.axes i 0)) k axis in
    let p = x'.selected in
    let row = row_figure depth p.breaks (with_widths p.breaks p.coefficients) k place l.points points l.d axis n s t
    (points_unread s C t l.points points l.d n) (λ i e. S i a e h) in
    u.answered
    ∙ ap (λ (c : Curve). certify_of c (slices_of x) l.points n s t axis depth) g.curve
    ∙ certified_is l m x first.mode axis depth F b
    ∙ (λ i. told l (axes i) (same.0 i) axis depth)
    ∙ ap (λ (f : Figure). cond (ltb 6 depth) (outcome 23 no_figure) (cond (not (ltb place k)) (outcome 3 no_figure) (outcome 0 f))) row
    ∙ sym (certified_is l' m x' second.mode axis depth F b')
    ∙ sym (ap (λ (c : Curve). certify_of c (slices_of x') points n s t axis depth) g'.curve)
    ∙ sym v.answered
