-- How a run becomes the answer, the curve and the results.
use mathlib.Core.Path.{◌≡◌, refl, sym, ap, subst, ◌∙◌}
use mathlib.Core.Bool.{Bool, true, false, cond}
use mathlib.Core.List.{List, []}
use Prim.Native.Nat.{ℕ, ◌+◌, ◌-◌, ◌*◌, ◌≤◌, ◌<◌}
use native.Mathlib.Omega.{arith}
use borrow.Author.Tests.{ne_eqb, eqb-false}
use lib.Dec.{eqb}
use lib.ListN.{length, drop, length-drop}
use lib.Ieee.{Float}
use Rattle.window.specs.Window.{window}
use Rattle.window.specs.Cells.{at, zeros}
use Rattle.window.proofs.Windows.{length_window}
use Rattle.bspline.specs.Segments.{Polynomial}
use Rattle.curve.specs.declared.Mode.{Mode}
use Rattle.smoothing.specs.Answer.{Answer, and_then}
use Rattle.smoothing.specs.declared.refusal.Refusal.TheVariants.{InitialSegments, Unsolved, Unaudited, RefinementsUsedUp, SegmentsUsedUp, BadMidpoint, ErrorAboveTolerance}
use Rattle.smoothing.proofs.Refused.{then_refused}
use Rattle.checks.specs.Checks as checking
use Rattle.normal.specs.Solve as solving
use Rattle.polynomial.specs.Outcome as audits
use Rattle.curve.specs.Form.{no_curve}
use Rattle.building.specs.declared.answers.Refusal.{Refusal}
use Rattle.building.specs.declared.answers.Refusal.TheVariants.{Input, Stage}
use Rattle.smoothing.specs.Answer.Answer.{done, refused, exhausted}
use Rattle.smoothing.specs.Request.{Lane, Limits, lane_parameters}
use Rattle.smoothing.specs.Checks.{refusal_of}
use Rattle.smoothing.specs.Rows.{lane_task, lane_units, other_axes}
use Rattle.smoothing.specs.Finish.{Selected}
use Rattle.smoothing.specs.Build.{Result, curve_of, selected_of, other_of, result_of, smoothed_of, checked_of}
use Rattle.smoothing.proofs.Accepted.{refused_done}
use Rattle.smoothing.proofs.Refusals.{selected_refused, other_refused, refusal_most}
use Rattle.refinement.specs.declared.plan.Plan.{Plan}
use Rattle.refinement.specs.Memory.{cells_of, breaks_place, memory_at, sized}
use Rattle.building.specs.declared.entry.Run.{Run}
use Rattle.interpolation.specs.declared.Nodes.{Nodes}
use Rattle.interpolation.specs.Memory.{breaks_place as other_breaks_place, polynomial_in}
use Rattle.building.specs.Outcome.{refused_by, report_of, reported, curve_after, Results, results_after, work_after}
use Rattle.building.specs.Computed.{Both, both, both_from, with_other, selected_at, other_at}
use Rattle.building.specs.Answered.{checked_both, plan_of, BothPlaced, report_in, curve_in, results_from}

-- ---- a refusal of the code, and the definition's answer
pub turned_then : {A B : Type 0} (e : Refusal) (f : A → Answer B) → and_then (refused_by e) f ≡ refused_by e
unfolding and_then
turned_then (Input e) f = refl
turned_then (Stage e) f = then_refused e f

-- what holds of 14 and of each number holds of it
any_refused : {A : Type 0} (P : Answer A → Type 0) → ((n : ℕ) → P (refused n)) → ((x : Float) → P (exhausted x)) → (e : Refusal) → P (refused_by e)
any_refused P f g (Input e) = f (checking.refusal_number e)
any_refused P f g (Stage InitialSegments) = f 8
any_refused P f g (Stage (Unsolved e)) = f (solving.refusal_number e)
any_refused P f g (Stage (Unaudited e)) = f (audits.refusal_number e)
any_refused P f g (Stage (RefinementsUsedUp x)) = g x
any_refused P f g (Stage SegmentsUsedUp) = f 15
any_refused P f g (Stage BadMidpoint) = f 16
any_refused P f g (Stage ErrorAboveTolerance) = f 17

pub told_refused : (e : Refusal) → refused_by e ≡ reported (refused_by e)
unfolding reported
told_refused (Input e) = refl
told_refused (Stage InitialSegments) = refl
told_refused (Stage (Unsolved e)) = refl
told_refused (Stage (Unaudited e)) = refl
told_refused (Stage (RefinementsUsedUp x)) = refl
told_refused (Stage SegmentsUsedUp) = refl
told_refused (Stage BadMidpoint) = refl
told_refused (Stage ErrorAboveTolerance) = refl

pub curve_refused : (e : Refusal) (mode : Mode) (d : ℕ) → no_curve mode ≡ curve_after mode d (refused_by e)
unfolding curve_after
curve_refused e mode d = any_refused (λ a. no_curve mode ≡ curve_after mode d a) (λ n. refl) (λ x. refl) e

pub results_refused : (e : Refusal) (s : Results) → s ≡ results_after (refused_by e) s
unfolding results_after
results_refused e s = any_refused (λ a. s ≡ results_after a s) (λ n. refl) (λ x. refl) e

-- ---- the result is put together last
module _ (l : Lane) (m : Limits) where
  abbrev told : Both → Answer Result
  told b = done (result_of l b.selected b.other)

  together : (x : Answer Selected) (o : Answer (Polynomial Float))
      → and_then x (λ s. and_then o (λ p. done (result_of l s p))) ≡ and_then (and_then x (λ s. and_then o (λ p. done (both s p)))) told
  unfolding and_then
  together (done s) (done p) = refl
  together (done s) (refused n) = refl
  together (done s) (exhausted w) = refl
  together (refused n) o = refl
  together (exhausted w) o = refl

  pub checked_both_law : checked_of l m ≡ and_then (checked_both l m) told
  unfolding checked_of smoothed_of checked_both both_from with_other and_then
  checked_both_law = go (eqb (refusal_of l) 0)
    where
      go : (b : Bool) → cond b (smoothed_of l m) (refused (refusal_of l))
          ≡ and_then (cond b (both_from m (lane_task l) (lane_units l) (other_of l)) (refused (refusal_of l))) told
      go true = together (selected_of m (lane_task l) (lane_units l)) (other_of l)
      go false = refl

  checked_is : (b : Answer Both) → checked_both l m ≡ b → checked_of l m ≡ and_then b told
  checked_is b e = checked_both_law ∙ ap (λ (x : Answer Both). and_then x told) e

  pub both_done : (s : Selected) (p : Polynomial Float) → checked_both l m ≡ done (both s p) → checked_of l m ≡ done (result_of l s p)
  unfolding and_then
  both_done s p = checked_is (done (both s p))

  pub both_turned : (e : Refusal) → refused_by e ≡ checked_both l m → refused_by e ≡ checked_of l m
  both_turned e h = sym (turned_then e told) ∙ ap (λ (x : Answer Both). and_then x told) h ∙ sym checked_both_law

  -- ---- the numbers that it refuses with
  abbrev Known : ℕ → Type 0
  Known n = (1 ≤ n) × (n ≡ 14 → ⊥) × (17 < n → n ≡ 26)

  refused_same : {A : Type 0} {a b : ℕ} → ◌≡◌ {A = Answer A} (refused a) (refused b) → a ≡ b
  refused_same {A} {a} e = ap number e
    where
      number : Answer A → ℕ
      number (done x) = a
      number (refused n) = n
      number (exhausted x) = a

  exhausted_refused : {A : Type 0} {x : Float} {n : ℕ} → ◌≡◌ {A = Answer A} (exhausted x) (refused n) → ⊥
  exhausted_refused {A} e = subst Told e tt
    where
      Told : Answer A → Type 0
      Told (done a) = ⊥
      Told (refused n) = ⊥
      Told (exhausted x) = Unit

  pub both_known : (n : ℕ) → checked_both l m ≡ refused n → Known n
  unfolding checked_both both_from with_other and_then
  both_known n h = go (eqb (refusal_of l) 0) refl h
    where
      others : (x : Selected) (o : Answer (Polynomial Float)) → other_of l ≡ o → and_then o (λ p. done (both x p)) ≡ refused n → Known n
      others x (done p) e g = absurd (refused_done (sym g))
      others x (refused k) e g =
          let r = other_refused l k e in
          let q : k ≡ n = refused_same g in
          (omega arith, λ z. omega arith, λ z. omega arith)
      others x (exhausted w) e g = absurd (exhausted_refused g)

      chosen : (x : Answer Selected) → selected_of m (lane_task l) (lane_units l) ≡ x
          → and_then x (λ s. and_then (other_of l) (λ p. done (both s p))) ≡ refused n → Known n
      chosen (done x) e g = others x (other_of l) refl g
      chosen (refused k) e g =
          let r = selected_refused m (lane_task l) (lane_units l) k e in
          let q : k ≡ n = refused_same g in
          (omega arith, λ z. r.2 (q ∙ z), λ z. omega arith)
      chosen (exhausted w) e g = absurd (exhausted_refused g)

      go : (b : Bool) → eqb (refusal_of l) 0 ≡ b
          → cond b (both_from m (lane_task l) (lane_units l) (other_of l)) (refused (refusal_of l)) ≡ refused n → Known n
      go true e g = chosen (selected_of m (lane_task l) (lane_units l)) refl g
      go false e g =
          let q : refusal_of l ≡ n = refused_same g in
          let z = eqb-false (refusal_of l) 0 e in
          (omega (arith, z), λ i. omega (arith, refusal_most l (omega arith)), λ i. sym q ∙ refusal_most l (omega arith))

  -- ---- the work slice is cleared after each of them
  pub work_cleared : (w : List Float) → zeros (length w) ≡ work_after (checked_of l m) w
  unfolding work_after and_then
  work_cleared w = go (checked_both l m) refl ∙ ap (λ (z : Answer Result). work_after z w) (sym checked_both_law)
    where
      go : (b : Answer Both) → checked_both l m ≡ b → zeros (length w) ≡ work_after (and_then b told) w
      go (done b) e = refl
      go (refused n) e =
          let k = both_known n e in
          let fine : 17 < n → n ≡ 26 = k.2 in
          rw (
            ne_eqb n 18 (λ z. omega (arith, fine (omega arith))),
            ne_eqb n 20 (λ z. omega (arith, fine (omega arith))),
            ne_eqb n 19 (λ z. omega (arith, fine (omega arith))),
          ) refl
      go (exhausted x) e = refl

-- ---- the result of a run that is done
module _ (l : Lane) (m : Limits) (r : Run) (w : List Float) (P : BothPlaced l m r (length w)) where
  abbrev pub plan : Plan
  plan = sized (plan_of l m) r.computed.count

  abbrev others : ℕ
  others = length (other_axes l)

  abbrev pub x : Result
  x = result_of l (selected_at (plan_of l m) r.computed w) (other_at (plan_of l m) others r.computed w)

  segments_are : r.computed.count - 5 ≡ length (memory_at plan w).breaks - 1
  segments_are =
      let n = length_window (breaks_place plan) (breaks_place plan + (r.computed.count - 5) + 1) w (omega arith)
      (omega (arith, P.roomy.knots_fit, P.roomy.cells_fit)) in
      omega (arith, n)

  -- the other axes' part of the slice, which fits
  abbrev nodes : Nodes
  nodes = record { samples = l.n; axes = others; room = plan.room }

  abbrev segments : ℕ
  segments = r.computed.other_segments

  abbrev part : List Float
  part = drop (cells_of (plan_of l m)) w

  module _ (fits : cells_of (plan_of l m) + (10 * plan.room + 8 * (plan.room * others)) ≤ length w) where
    other_long : segments + 1 ≡ length (window (other_breaks_place nodes) (other_breaks_place nodes + segments + 1) part)
    other_long =
        let e = length-drop (cells_of (plan_of l m)) w in
        let n = length_window (other_breaks_place nodes) (other_breaks_place nodes + segments + 1) part (omega arith)
        (omega (arith, e, fits, P.others_few, P.roomy.waypoints_fit)) in
        omega (arith, n)

    others_are : cond (eqb r.j 0) 0 segments ≡ length (other_at (plan_of l m) others r.computed w).breaks - 1
    others_are = rw P.j_is (go (eqb others 0))
      where
        go : (b : Bool) → cond b 0 segments
            ≡ length (cond b (record { breaks = []; coefficients = [] }) (polynomial_in nodes segments part)).breaks - 1
        go true = refl
        go false = omega (arith, other_long)

    pub report_is : report_in r ≡ report_of x
    unfolding result_of
    report_is =
        λ i. record {
          segments = segments_are i;
          interpolated_segments = others_are i;
          refinements = r.computed.report.refinements;
          fitting_rows = r.computed.report.rows;
          checked_intervals = r.computed.report.intervals;
        }

    pub curve_is : (mode : Mode)
        → curve_in r l.d (at (lane_parameters l) 0) (at (lane_parameters l) (l.n - 1))
        mode ≡ curve_of mode l.d x
    unfolding result_of curve_of
    curve_is mode =
        λ i. record {
          d = l.d;
          k = P.k_is i;
          axes = P.axes_are i;
          start = at (lane_parameters l) 0;
          end = at (lane_parameters l) (l.n - 1);
          mode = mode;
          segments = segments_are i;
          other_segments = others_are i;
        }

  pub results_are : (p : Plan) (j : ℕ) (s : Results) → p ≡ plan → j ≡ others → results_from p j r.computed w s ≡ results_after (done x) s
  unfolding results_after result_of
  results_are p j s e g = λ i. results_from (e i) (g i) r.computed w s
