-- Back to physical units, the final audit, and how it is judged.
use mathlib.Core.Path.{◌≡◌, sym, ap, ◌∙◌}
use mathlib.Core.Bool.{Bool, true, false, cond}
use mathlib.Core.List.{List}
use Prim.Native.Nat.{ℕ, ◌+◌, ◌-◌, ◌*◌}
use native.Mathlib.Omega.{arith}
use lib.ListN.{length, take}
use lib.Seq.{get_or-take}
use lib.Ieee.{Float, nan}
use Rattle.window.specs.Window.{window}
use Rattle.window.specs.Cells.{at}
use Rattle.window.specs.Rows.{list_of, table}
use Rattle.window.proofs.Joined.{table_ap}
use Rattle.polynomial.specs.Outcome.{Outcome}
use Rattle.polynomial.specs.Outcome as audits
use Rattle.polynomial.specs.Audit.{Audit}
use Rattle.smoothing.specs.Answer.{Answer, and_then, unless}
use Rattle.smoothing.specs.Answer.Answer.{done, refused}
use Rattle.smoothing.specs.Refusal.{refused_by}
use Rattle.smoothing.specs.declared.refusal.Refusal.{Refusal}
use Rattle.smoothing.proofs.Refused.{then_refused}
use Rattle.smoothing.specs.Rows.{Units}
use Rattle.smoothing.specs.State.{Counts, add_intervals, polynomial_in}
use Rattle.smoothing.specs.Finish.{Selected, physical_of, final_polynomial, error_of, errors_of, excessive, judged, finish_of}
use Rattle.refinement.specs.declared.plan.Plan.{Plan}
use Rattle.refinement.specs.Memory.{Roomy, Memory, memory_at, with_controls, with_polynomial, with_bounds, task_in, spline_in, state_in}
use Rattle.refinement.specs.Refit.{audit_over}
use Rattle.selected_axes.specs.Physical.{scaled, with_points, physical_in}
use Rattle.selected_axes.specs.Selected.{selected_in}

-- ---- the spline in physical units
module _ (p : Plan) (rows eps : List Float) (x x₁ x₂ : Memory) where
  abbrev k : ℕ
  k = p.axes

  abbrev u : Units
  u = record { rows = rows; eps = take k eps }

  abbrev P : List Float
  P = physical_of u k (spline_in p x)

  module _ (e₁ : x₁ ≡ with_points rows x) (e₂ : x₂ ≡ with_controls
      (table p.count k (λ i a. scaled (at x₁.c (i * k + a)) (at eps a) (at x₁.y a))) x₁) where
    controls_are : table p.count k (λ i a. scaled (at x.c (i * k + a)) (at eps a) (at rows a)) ≡ P
    unfolding physical_of
    controls_are =
        table_ap p.count k _ _ (λ i a h l. ap (λ (v : Float). scaled (at x.c (i * k + a)) v (at rows a))
        (sym (get_or-take k eps a nan l)))

    scaled_is : x₂ ≡ with_controls P (with_points rows x)
    scaled_is =
        e₂ ∙ ap (λ (y : Memory). with_controls (table p.count k (λ i a. scaled (at y.c (i * k + a)) (at eps a) (at y.y a))) y) e₁
        ∙ ap (λ (l : List Float). with_controls l (with_points rows x)) controls_are

    pub scaled_knots : x₂.t ≡ x.t
    scaled_knots = ap (λ (y : Memory). y.t) scaled_is

    pub physical_is : (x₃ : Memory) → x₃ ≡ with_polynomial (polynomial_in k (spline_in p x₂)) x₂ → x₃ ≡ physical_in p u x
    unfolding final_polynomial
    physical_is x₃ e₃ = e₃ ∙ ap (λ (y : Memory). with_polynomial (polynomial_in k (spline_in p y)) y) scaled_is

-- ---- the errors
pub errors_are : (p : Plan) (w errors : List Float) (b : ℕ) → Roomy p (length w) → b ≡ p.room * p.axes
    → take p.axes errors ≡ list_of p.axes (error_of (p.samples - 1 + 1) p.axes
    (window (2 * p.room + 2 * b) (2 * p.room + 2 * b + (p.samples - 1) * p.axes) w))
    → take p.axes errors ≡ errors_of (task_in p (memory_at p w)) (memory_at p w).bounds
unfolding errors_of
errors_are p w errors b r e h =
    let n : p.samples - 1 + 1 ≡ p.samples = omega (arith, r.two) in
    h ∙ ap (λ (i : ℕ). list_of p.axes (error_of (p.samples - 1 + 1) p.axes
    (window (2 * p.room + 2 * i) (2 * p.room + 2 * i + (p.samples - 1) * p.axes) w))) e
    ∙ ap (λ (i : ℕ). list_of p.axes (error_of i p.axes (memory_at p w).bounds)) n

-- ---- the answer
-- x₁ is in physical units, and x₂ is audited
pub record Physical (p : Plan) (u : Units) (x x₁ x₂ : Memory) (checked : ℕ) (o : Outcome) : Type 0 where
  pub physical : x₁ ≡ physical_in p u x
  pub outcome : o ≡ (audit_over p 0 (p.samples - 1) x₁).outcome
  pub counted : checked ≡ (audit_over p 0 (p.samples - 1) x₁).checked
  pub after : x₂ ≡ with_bounds (audit_over p 0 (p.samples - 1) x₁).bounds (audit_over p 0 (p.samples - 1) x₁).witness x₁

module _ {p : Plan} {u : Units} {x x₁ x₂ : Memory} {checked : ℕ} {o : Outcome} (h : Physical p u x x₁ x₂ checked o) (report : Counts) where
  abbrev A : Audit
  A = audit_over p 0 (p.samples - 1) (physical_in p u x)

  abbrev E : List Float
  E = errors_of (task_in p x) A.bounds

  abbrev whole : Answer Selected
  whole = finish_of (task_in p x) u (state_in p report x)

  abbrev fine : Answer Selected
  fine = done (record { curve = final_polynomial u p.axes (spline_in p x); errors = E; report = add_intervals A.checked report })

  number_is : audits.number_of o ≡ audits.number_of A.outcome
  number_is = ap audits.number_of (h.outcome ∙ ap (λ (y : Memory). (audit_over p 0 (p.samples - 1) y).outcome) h.physical)

  audited_is : x₂ ≡ with_bounds A.bounds A.witness (physical_in p u x)
  audited_is =
      h.after ∙ ap (λ (y : Memory). with_bounds (audit_over p 0 (p.samples - 1) y).bounds (audit_over p 0 (p.samples - 1) y).witness y)
      h.physical

  judged_is : whole ≡ and_then (unless (audits.number_of o) A) (λ _. cond (excessive u.eps p.axes E) (refused 17) fine)
  unfolding finish_of judged
  judged_is =
      ap (λ (i : ℕ). and_then (unless i A) (λ _. cond (excessive u.eps p.axes E) (refused 17) fine)) (sym number_is)

  -- 12, 13
  pub finish_refused : (e : Refusal) → ((s : Audit) → unless (audits.number_of o) s ≡ refused_by e) → refused_by e ≡ whole
  finish_refused e a =
      sym (judged_is
      ∙ ap (λ (z : Answer Audit). and_then z (λ _. cond (excessive u.eps p.axes E) (refused 17) fine)) (a A)
      ∙ then_refused e (λ _. cond (excessive u.eps p.axes E) (refused 17) fine))

  module _ (errors : List Float) (read : take p.axes errors ≡ errors_of (task_in p x₂) x₂.bounds) (z : audits.number_of o ≡ 0) where
    found_errors : take p.axes errors ≡ E
    unfolding errors_of
    found_errors = read ∙ ap (λ (y : Memory). errors_of (task_in p y) y.bounds) audited_is

    passed : (b : Bool) → b ≡ excessive u.eps p.axes (take p.axes errors) → whole ≡ cond b (refused 17) fine
    unfolding unless and_then
    passed b e =
        judged_is ∙ ap (λ (i : ℕ). and_then (unless i A) (λ _. cond (excessive u.eps p.axes E) (refused 17) fine)) z
        ∙ ap (λ (b : Bool). cond b (refused 17) fine) (sym (e ∙ ap (excessive u.eps p.axes) found_errors))

    -- 17
    pub finish_excessive : true ≡ excessive u.eps p.axes (take p.axes errors) → refused 17 ≡ whole
    finish_excessive e = sym (passed true e)

    pub finish_done : false ≡ excessive u.eps p.axes (take p.axes errors)
        → done (selected_in p (take p.axes errors) (add_intervals checked report) x₂) ≡ whole
    finish_done e =
        ap (λ (y : Memory). done (selected_in p (take p.axes errors) (add_intervals checked report) y)) audited_is
        ∙ ap (λ (l : List Float). done (selected_in p l (add_intervals checked report) (physical_in p u x))) found_errors
        ∙ ap (λ (i : ℕ). done (selected_in p E (add_intervals i report) (physical_in p u x)))
        (h.counted ∙ ap (λ (y : Memory). (audit_over p 0 (p.samples - 1) y).checked) h.physical)
        ∙ sym (passed false e)
