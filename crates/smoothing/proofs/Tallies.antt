-- The report's counts: what a round adds to them, what all rounds add, and that in document 01's domain they stay far below 2^63.
use Rattle.std.specs.Prelude.{Ok, Err}
use Rattle.std.proofs.Common.{◌≡◌, ℕ, ◌+◌, ◌-◌, ◌*◌, ◌^◌, ◌<◌, ◌≤◌, Bool, true, false, cond, ltb, List, [], ◌∷◌, length, sym, refl, ap, ◌∙◌, subst, mul-le-mul_right, suc-mul, mul-le-mul, arith, ltb-false, eqb-true}
use lib.Ieee.{Float}
use Rattle.arith.proofs.Truth.{or_none}
use Rattle.bspline.specs.Segments.{Polynomial}
use Rattle.seed.specs.Regions.{Range, regions_of}
use Rattle.seed.proofs.Windows.{regions_few}
use Rattle.fitting_rows.specs.Arrays.{arrays}
use Rattle.fit.specs.Fit.{rows_most}
use Rattle.fit.proofs.RowCounts.{fit_rows}
use Rattle.polynomial.specs.Outcome.{Outcome}
use Rattle.polynomial.specs.Outcome.{Done}
use Rattle.polynomial.specs.declared.interval.Unaudited.TheVariants.{NotAbove, NotFinite}
use Rattle.polynomial.specs.Outcome as audits
use Rattle.polynomial.specs.Audit.{Audit}
use Rattle.polynomial.proofs.Counts.{audit_counts}
use Rattle.smoothing.specs.Answer.{and_then}
use Rattle.smoothing.specs.Answer.Answer.{done, refused}
use Rattle.smoothing.specs.Request.{Lane, Limits}
use Rattle.smoothing.specs.Checks.{wide_lane, wide_limits}
use Rattle.smoothing.specs.Rows.{Task, Units, task_of, lane_task, lane_units}
use Rattle.smoothing.specs.State.{State, state, spline, Counts, add_rows, add_intervals, add_refinement, polynomial_in, fit_in, fitted, audited, audit_in}
use Rattle.smoothing.specs.Start.{curved, first_knots, many_knots, chord_of, chord_state, first_strength, first_fit, first_state, start_of}
use Rattle.smoothing.specs.Round.{locations_of, spans_after, insert_all, refit_of, refit_all, refitted, round_of, refine_of}
use Rattle.smoothing.specs.Finish.{Selected, final_polynomial, errors_of, excessive, judged, finish_of}
use Rattle.smoothing.specs.Build.{Result, selected_of, result_of, build_of}
use Rattle.smoothing.proofs.Accepted.{done_same, then_done, not_refused, unless_done, build_accepted, build_domain}
use Rattle.smoothing.proofs.Gives.{gives_where, gives_done}
use Rattle.smoothing.proofs.Passed.{parameters_length}
use Rattle.smoothing.proofs.Course.{audit_at, rounds_give}
use Rattle.smoothing.proofs.Sizes.{Within, locations_few, insert_all_formed, start_within, round_within, course_within}

-- a step adds at most r rows and i intervals, and no control
pub record Adds (r i : ℕ) (st st' : State) : Type 0 where
  pub rows : st'.report.rows ≤ st.report.rows + r
  pub intervals : st'.report.intervals ≤ st.report.intervals + i
  pub same_count : st'.b.m ≡ st.b.m

adds_nothing : {r i : ℕ} {st st' : State} → done st ≡ done st' → Adds r i st st'
adds_nothing {r} {i} {st} {st'} e =
    let p : Adds r i st st =
    record { rows = omega arith; intervals = omega arith; same_count = refl } in subst (λ (z : State). Adds r i st z) (done_same e) p

is_done_law : (o : Outcome) → audits.number_of o ≡ 0 → o ≡ Done
is_done_law (Ok a) e = refl
is_done_law (Err NotAbove) e = absurd (omega arith)
is_done_law (Err NotFinite) e = absurd (omega arith)

-- samples as the task has them, and at most c controls
module _ (q : Task) (c : ℕ) (samples : length q.s ≡ q.n) where
  -- the most that a fit counts
  abbrev R : ℕ
  R = rows_most q.n c

  fitted_adds : (a z : ℕ) (strength : Float) (st st' : State) → st.b.m ≤ c → fitted (fit_in q a z strength st.b) st ≡ done st'
      → Adds R 0 st st'
  unfolding fitted fit_in
  fitted_adds a z strength st st' few h =
      let f = fit_in q a z strength st.b in
      let r = fit_rows (arrays st.b.t st.b.c st.b.m q.k q.s q.y q.n) a z strength in
      let w : rows_most (length q.s) st.b.m ≤ R = wide (length q.s) q.n st.b.m samples few in
      let after : State = state (spline st.b.t f.controls st.b.m) st.bounds st.witness
      (add_rows f.answered.rows st.report) in
      let p : Adds R 0 st after = record { rows = omega arith; intervals = omega arith; same_count = refl } in
      subst (λ (s : State). Adds R 0 st s) (unless_done f.answered.number _ st' h).1 p
    where
      wide : (n n' m : ℕ) → n ≡ n' → m ≤ c → rows_most n m ≤ rows_most n' c
      wide n n' m e l =
          let g : m * ((n + 1) * 6) ≤ c * ((n + 1) * 6) = mul-le-mul_right ((n + 1) * 6) l in rw (← e) (omega arith)

  audit_adds : (left right : ℕ) (st st' : State) → right ≤ q.n - 1 → audit_in q left right st ≡ done st' → Adds 0 (q.n - 1) st st'
  unfolding audit_in audited
  audit_adds left right st st' l h =
      let p = polynomial_in q.k st.b in
      let a = audit_at q left right st in
      let u = unless_done (audits.number_of a.outcome) _ st' h in
      let n = audit_counts p.breaks p.coefficients q.s q.y q.k left right st.bounds st.witness
      (is_done_law a.outcome (eqb-true (audits.number_of a.outcome) 0 u.0)) in
      let after : State = state st.b a.bounds a.witness (add_intervals a.checked st.report) in
      let r : Adds 0 (q.n - 1) st after = record { rows = omega arith; intervals = omega arith; same_count = refl } in
      subst (λ (s : State). Adds 0 (q.n - 1) st s) u.1 r

  fit_then_audit : {st after st' : State} → Adds R 0 st after → Adds 0 (q.n - 1) after st' → Adds R (q.n - 1) st st'
  fit_then_audit f g =
      record {
        rows = omega (arith, f.rows, g.rows);
        intervals = omega (arith, f.intervals, g.intervals);
        same_count = g.same_count ∙ f.same_count;
      }

  refit_adds : (r : Range) (st st' : State) → st.b.m ≤ c → refit_of q r st ≡ done st' → Adds R (q.n - 1) st st'
  unfolding refit_of
  refit_adds r st st' few h =
      let p = then_done _ _ st' h in
      fit_then_audit (fitted_adds r.a r.z _ st p.0 few p.1) (audit_adds _ _ p.0 st' (omega arith) p.2)

  refit_all_adds : (l : List Range) (st st' : State) → st.b.m ≤ c → refit_all q l st ≡ done st'
      → Adds (length l * R) (length l * (q.n - 1)) st st'
  unfolding refit_all
  refit_all_adds [] st st' few h = adds_nothing h
  refit_all_adds (r ∷ l) st st' few h =
      let p = then_done (refit_of q r st) (λ after. refit_all q l after) st' h in
      let f = refit_adds r st p.0 few p.1 in
      let g = refit_all_adds l p.0 st' (omega (arith, f.same_count)) p.2 in
      record {
        rows = omega (arith, f.rows, g.rows, suc-mul (length l) R);
        intervals = omega (arith, f.intervals, g.intervals, suc-mul (length l) (q.n - 1));
        same_count = g.same_count ∙ f.same_count;
      }

  first_adds : (st st' : State) → st.b.m ≤ c → and_then (first_fit q st) (audit_in q 0 (q.n - 1)) ≡ done st' → Adds R (q.n - 1) st st'
  unfolding first_fit
  first_adds st st' few h =
      let p = then_done _ (audit_in q 0 (q.n - 1)) st' h in
      fit_then_audit (go p.0 (curved q) p.1) (audit_adds 0 (q.n - 1) p.0 st' (omega arith) p.2)
    where
      go : (after : State) (b : Bool) → cond b (fitted (fit_in q 1 (st.b.m - 1) first_strength st.b) st) (done st) ≡ done after
          → Adds R 0 st after
      go after true e = fitted_adds 1 (st.b.m - 1) first_strength st after few e
      go after false e = adds_nothing e

-- ---- under max_segments g
module _ (g : ℕ) (q : Task) (samples : length q.s ≡ q.n) where
  -- the most that a fit counts, and what a round adds at most: as many fits as there are intervals, and each interval audited as often
  abbrev fit_most : ℕ
  fit_most = rows_most q.n (g + 5)

  abbrev rows_added : ℕ
  rows_added = (q.n - 1) * fit_most

  abbrev intervals_added : ℕ
  intervals_added = (q.n - 1) * (q.n - 1)

  pub start_counts : (st : State) → start_of g q ≡ done st → (st.report.rows ≤ fit_most) × (st.report.intervals ≤ q.n - 1)
  unfolding start_of many_knots first_state chord_state chord_of
  start_counts st h =
      let p = not_refused (ltb g (length (first_knots q) + 1)) 8 (first_state q) st h in
      let l = ltb-false g (length (first_knots q) + 1) p.0 in
      let a = first_adds q (g + 5) samples (chord_state q (first_knots q)) st (omega arith) p.1 in
      (omega (arith, a.rows), omega (arith, a.intervals))

  -- a round that 15 lets through
  pub round_adds : (st st' : State) → Within g q st → ltb g (spans_after q st) ≡ false → round_of q st ≡ done st'
      → (st'.report.rows ≤ st.report.rows + rows_added) × (st'.report.intervals ≤ st.report.intervals + intervals_added)
  unfolding round_of refitted spans_after
  round_adds st st' w t h =
      let x = locations_of q st in
      let p = then_done (insert_all q.k x st.b) (refitted q x st) st' h in
      let b = p.0 in
      let f = insert_all_formed q.k x st.b b w.size.formed p.1 in
      let l = regions_of b.t b.m x in
      let few = ltb-false g (spans_after q st) t in
      let six = w.size.formed.six in
      let a = refit_all_adds q (g + 5) samples l (state b st.bounds st.witness (add_refinement st.report)) st' (omega (arith, f.1))
      p.2 in
      let n : length l ≤ q.n - 1 = omega (arith, regions_few b.t b.m x, locations_few q st) in
      let u : length l * fit_most ≤ rows_added = mul-le-mul_right fit_most n in
      let v : length l * (q.n - 1) ≤ intervals_added = mul-le-mul_right (q.n - 1) n in
      (omega (arith, a.rows, u), omega (arith, a.intervals, v))

  -- with `left` of `most` rounds left
  abbrev Counted : ℕ → ℕ → State → Type 0
  Counted most left st =
      Within g q st × (st.report.rows + left * rows_added ≤ fit_most + most * rows_added) ×
      (st.report.intervals + left * intervals_added ≤ q.n - 1 + most * intervals_added)

  pub course_counts : (most : ℕ) (st : State) → and_then (start_of g q) (refine_of g most q) ≡ done st
      → (st.report.rows ≤ fit_most + most * rows_added) × (st.report.intervals ≤ q.n - 1 + most * intervals_added)
  course_counts most st h =
      let p = then_done (start_of g q) (refine_of g most q) st h in
      let s = start_counts p.0 p.1 in
      let w = (start_within g q p.0 p.1).0 in
      let r = gives_done (rounds_give g q (Counted most) tt tt
      (λ left st t c. gives_where (round_of q st)
      (λ st' e. let a = round_adds st st' c.0 t e in (
        (round_within g q st st' c.0 t e).0,
        omega (arith, a.0, c.1, suc-mul left rows_added),
        omega (arith, a.1, c.2, suc-mul left intervals_added),
      )))
      most p.0 (w, omega (arith, s.0), omega (arith, s.1))) p.2 in
      (omega (arith, r.1.1), omega (arith, r.1.2))

-- ---- the report of the selected axes: the final audit counts each interval once more
judged_counts : (q : Task) (u : Units) (p : Polynomial Float) (report : Counts) (a : Audit) (x : Selected) → judged q u p report a ≡ done x
    → (a.outcome ≡ Done) × (x.report ≡ add_intervals a.checked report)
unfolding judged
judged_counts q u p report a x h =
    let fine : Selected = record { curve = p; errors = errors_of q a.bounds; report = add_intervals a.checked report } in
    let g = then_done _ (λ _. cond (excessive u.eps q.k (errors_of q a.bounds)) (refused 17) (done fine)) x h in
    let e : fine ≡ x = done_same (not_refused (excessive u.eps q.k (errors_of q a.bounds)) 17 (done fine) x g.2).1 in
    let n = unless_done (audits.number_of a.outcome) a g.0 g.1 in
    (is_done_law a.outcome (eqb-true (audits.number_of a.outcome) 0 n.0), ap (λ (z : Selected). z.report) (sym e))

pub selected_counts : (m : Limits) (q : Task) (u : Units) (x : Selected) → length q.s ≡ q.n → selected_of m q u ≡ done x
    → let fit = rows_most q.n (m.segments + 5) in
    (x.report.refinements ≤ m.refinements) × (x.report.rows ≤ fit + m.refinements * ((q.n - 1) * fit))
    × (x.report.intervals ≤ (q.n - 1) + m.refinements * ((q.n - 1) * (q.n - 1)) + (q.n - 1))
unfolding selected_of finish_of
selected_counts m q u x samples h =
    let a = then_done (and_then (start_of m.segments q) (refine_of m.segments m.refinements q)) (finish_of q u) x h in
    let st = a.0 in
    let c = course_counts m.segments q samples m.refinements st a.1 in
    let r = (course_within m.segments m.refinements q st a.1).1 in
    let p = final_polynomial u q.k st.b in
    let j = judged_counts q u p st.report _ x a.2 in
    let n = audit_counts p.breaks p.coefficients q.s u.rows q.k 0 (q.n - 1) st.bounds st.witness j.0 in
    let k : Counts = x.report in
    rw j.1 (r, c.0, omega (arith, c.1))

-- ---- in document 01's domain
pub record SmallCounts (r : Counts) : Type 0 where
  pub refinements : r.refinements ≤ 200
  pub rows : r.rows < 2 ^ 54
  pub intervals : r.intervals < 2 ^ 37

pub accepted_counts : (l : Lane) (m : Limits) (x : Result) → build_of (record { lane = l; limits = m }) ≡ done x
    → SmallCounts x.report.work
unfolding wide_lane wide_limits result_of lane_task task_of
accepted_counts l m x h =
    let wide = build_domain l m x h in
    let few-n = ltb-false 20000 l.n (or_none (ltb 16 l.d) (ltb 20000 l.n) wide.0).1 in
    let limits = or_none (ltb 20000 m.segments) (ltb 200 m.refinements) wide.1 in
    let few-g = ltb-false 20000 m.segments limits.0 in
    let few-r = ltb-false 200 m.refinements limits.1 in
    let a = build_accepted l m x h in
    let c = selected_counts m (lane_task l) (lane_units l) a.chosen (parameters_length l) a.chosen_is in
    subst (λ (z : Result). SmallCounts z.report.work) a.result_is
    (small l.n m.segments m.refinements a.chosen.report few-n few-g few-r c)
  where
    small : (n g r : ℕ) (k : Counts) → n ≤ 20000 → g ≤ 20000 → r ≤ 200
        → (k.refinements ≤ r) × (k.rows ≤ rows_most n (g + 5) + r * ((n - 1) * rows_most n (g + 5)))
        × (k.intervals ≤ (n - 1) + r * ((n - 1) * (n - 1)) + (n - 1)) → SmallCounts k
    small n g r k few-n few-g few-r c =
        let controls : g + 5 ≤ 20005 = omega arith in
        let pieces : (n + 1) * 6 ≤ 120006 = omega arith in
        let intervals : n - 1 ≤ 19999 = omega arith in
        let p : (g + 5) * ((n + 1) * 6) ≤ 20005 * 120006 = mul-le-mul controls pieces in
        let f : rows_most n (g + 5) ≤ 2400740030 = omega arith in
        let s : (n - 1) * rows_most n (g + 5) ≤ 19999 * 2400740030 = mul-le-mul intervals f in
        let t : r * ((n - 1) * rows_most n (g + 5)) ≤ 200 * (19999 * 2400740030) = mul-le-mul few-r s in
        let u : (n - 1) * (n - 1) ≤ 19999 * 19999 = mul-le-mul intervals intervals in
        let v : r * ((n - 1) * (n - 1)) ≤ 200 * (19999 * 19999) = mul-le-mul few-r u in
        record { refinements = omega (arith, c.0); rows = omega (arith, c.1, f, t); intervals = omega (arith, c.2, v) }
