-- The steps of a refit, chained: what they leave in the arrays is what the definition says.
use mathlib.Core.Path.{◌≡◌, refl, sym, ap, subst, ◌∙◌}
use mathlib.Core.Bool.{false}
use mathlib.Core.List.{List}
use Prim.Native.Nat.{ℕ, ◌-◌, ◌≤◌, min}
use native.Mathlib.Omega.{arith}
use lib.Dec.{eqb}
use lib.Ieee.{Float}
use Rattle.polynomial.specs.Outcome.{Outcome}
use Rattle.polynomial.specs.Outcome as audits
use Rattle.polynomial.specs.Audit.{Audit, audit_of}
use Rattle.seed.specs.Regions.{range}
use Rattle.fit.specs.Fit.{Fit, Answer, answer}
use Rattle.smoothing.specs.Answer.{and_then, unless}
use Rattle.smoothing.specs.Answer.Answer.{refused}
use Rattle.smoothing.specs.Rows.{Task}
use Rattle.smoothing.specs.State.{State, state, spline, Counts, add_rows, add_intervals, fit_in, fitted, audited, audit_in, polynomial_in}
use Rattle.smoothing.specs.Round.{strength_of, refit_of}
use Rattle.refinement.specs.declared.plan.Plan.{Plan}
use Rattle.running_report.specs.declared.Report.{Report}
use Rattle.refinement.specs.Memory.{Memory, with_controls, with_coefficients, with_bounds, task_in, spline_in, state_in, Stored, Wide}
use Rattle.refinement.specs.Kept.{Stale}
use Rattle.refinement.specs.Refit.{Same, audit_over, More}
use Rattle.refinement.proofs.Refreshed.{fit_stale}

-- ---- segments made anew, then the audit: the arrays were x, are x₁ with the segments and x₂ after the audit
-- the audit against the stored polynomial is that of the state
pub audit_is : (p : Plan) (x x₁ x₂ : Memory) (v : List Float) (left right number checked : ℕ) (o : Outcome) (report : Counts)
    → x₁ ≡ with_coefficients v x → Stored p x₁ → number ≡ audits.number_of o → o ≡ (audit_over p left right x₁).outcome
    → checked ≡ (audit_over p left right x₁).checked
    → x₂ ≡ with_bounds (audit_over p left right x₁).bounds (audit_over p left right x₁).witness x₁
    → unless number (state_in p (add_intervals checked report) x₂) ≡ audit_in (task_in p x) left right (state_in p report x)
unfolding audit_in audited
audit_is p x x₁ x₂ v left right number checked o report e s n q k e₂ =
    let A = audit_over p left right x₁ in
    let P = polynomial_in p.axes (spline_in p x₁) in
    let same : A ≡ audit_of P.breaks P.coefficients x₁.s x₁.y p.axes left right x₁.bounds x₁.witness =
    ap (λ (l : List Float). audit_of l x₁.coefficients x₁.s x₁.y p.axes left right x₁.bounds x₁.witness) s.breaks_are
    ∙ ap (λ (l : List Float). audit_of P.breaks l x₁.s x₁.y p.axes left right x₁.bounds x₁.witness)
    s.coefficients_are in
    ap (λ (i : ℕ). unless i (state_in p (add_intervals checked report) x₂)) (n ∙ ap audits.number_of q)
    ∙ ap (λ (i : ℕ). unless (audits.number_of A.outcome) (state_in p (add_intervals i report) x₂)) k
    ∙ ap (λ (y : Memory). unless (audits.number_of A.outcome) (state_in p (add_intervals A.checked report) y)) e₂
    ∙ ap (λ (B : Audit). audited B (state_in p report x₁)) same
    ∙ ap (λ (y : Memory). audit_in (task_in p y) left right (state_in p report y)) e

-- what the audit leaves
pub after_audit : (p : Plan) (x x₁ x₂ : Memory) (v bounds witness : List Float) → x₁ ≡ with_coefficients v x → Stored p x₁
    → x₂ ≡ with_bounds bounds witness x₁
    → Stored p x₂ × Same x x₂
after_audit p x x₁ x₂ v bounds witness e s e₂ = (
  subst (Stored p) (sym e₂) (record { breaks_are = s.breaks_are; coefficients_are = s.coefficients_are }),
  subst (Same x) (sym (e₂ ∙ ap (with_bounds bounds witness) e))
      (record { same_s = refl; same_y = refl; same_t = refl; same_locations = refl }),
)

-- ---- a refit, as its fit ends
module _ (q : Task) (a z : ℕ) (st : State) where
  abbrev f : Fit
  f = fit_in q a z (strength_of st.report.refinements) st.b

  refit_refused : (number : ℕ) → eqb number 0 ≡ false → answer number 0 0 0 ≡ f.answered → refit_of q (range a z) st ≡ refused number
  unfolding refit_of fitted unless and_then
  refit_refused number b e =
      let n : f.answered.number ≡ number = sym (ap (λ (r : Answer). r.number) e) in rw (n, b)

  abbrev fitted_state : ℕ → State
  fitted_state rows = state (spline st.b.t f.controls st.b.m) st.bounds st.witness (add_rows rows st.report)

  refit_done : (first last rows : ℕ) → answer 0 first last rows ≡ f.answered
      → refit_of q (range a z) st ≡ audit_in q (first - 1) (min last (q.n - 1)) (fitted_state rows)
  unfolding refit_of fitted unless and_then
  refit_done first last rows e =
      ap (λ (r : Answer). and_then (unless r.number (fitted_state r.rows)) (audit_in q (r.first - 1) (min r.last (q.n - 1))))
      (sym e)

not_done : (s : State) (number : ℕ) → eqb number 0 ≡ false → unless number s ≡ refused number
unfolding unless
not_done s number b = rw b

module _ (p : Plan) (x : Memory) (a z : ℕ) (strength : Float) where
  abbrev g : Float → Fit
  g v = fit_in (task_in p x) a z v (spline_in p x)

  module _ (x₁ : Memory) (e₁ : x₁ ≡ with_controls (g strength).controls x) where
    pub refit_same : (x₂ : Memory) → Same x₁ x₂ → Same x x₂
    refit_same x₂ s =
        let k = subst (λ (y : Memory). Same y x₂) e₁ s in
        record { same_s = k.same_s; same_y = k.same_y; same_t = k.same_t; same_locations = k.same_locations }

    -- what the steps after the fit ask
    pub fitted_wide : Wide x.t p.count → Wide x₁.t p.count
    fitted_wide h = subst (λ (y : Memory). Wide y.t p.count) (sym e₁) h

    pub fitted_stale : a ≤ z → Stored p x → Stale p a z x₁
    fitted_stale az s = subst (Stale p a z) (sym e₁) (fit_stale p a z strength x az s)

  module _ (report : Counts) (es : strength ≡ strength_of report.refinements) where
    pub refit_refuses : (s : State) (number : ℕ) → eqb number 0 ≡ false → answer number 0 0 0 ≡ (g strength).answered
        → unless number s ≡ refit_of (task_in p x) (range a z) (state_in p report x)
    refit_refuses s number b e =
        not_done s number b
        ∙ sym (refit_refused (task_in p x) a z (state_in p report x) number b (e ∙ ap (λ (v : Float). (g v).answered) es))

    pub refit_follows : (x₁ : Memory) → x₁ ≡ with_controls (g strength).controls x
        → (x₂ : Memory) (first last rows number : ℕ) (report' : Counts) → answer 0 first last rows ≡ (g strength).answered
        → unless number (state_in p report' x₂)
        ≡ audit_in (task_in p x₁) (first - 1) (min last (p.samples - 1)) (state_in p (add_rows rows report) x₁)
        → unless number (state_in p report' x₂) ≡ refit_of (task_in p x) (range a z) (state_in p report x)
    refit_follows x₁ e₁ x₂ first last rows number report' e h =
        h
        ∙ ap (λ (y : Memory). audit_in (task_in p y) (first - 1) (min last (p.samples - 1)) (state_in p (add_rows rows report) y)) e₁
        ∙ ap (λ (v : Float). audit_in (task_in p x) (first - 1) (min last (p.samples - 1))
        (state_in p (add_rows rows report) (with_controls (g v).controls x))) es
        ∙ sym (refit_done (task_in p x) a z (state_in p report x) first last rows (e ∙ ap (λ (v : Float). (g v).answered) es))

-- ---- the counts
pub more_none : (n : ℕ) (r : Report) → More n r r
more_none n r = record { rows = omega arith; intervals = omega arith }
