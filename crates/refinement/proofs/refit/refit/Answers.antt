-- As the fit ends, and then the audit.
use Rattle.std.proofs.Common.{arith, refl, sym, ap, ◌∙◌, ◌≡◌, length}
use Rattle.std.proofs.lemmas.Result.{err_from_is_err_and}
use Rattle.normal.specs.Solve.{refusal_number}
use Rattle.normal.proofs.Outcomes.{refusal_told}
use Rattle.polynomial.specs.Outcome as audits
use Rattle.smoothing.specs.Answer.Answer.{done}
use Rattle.smoothing.specs.State.{Counts, add_rows, add_intervals}
use Rattle.smoothing.proofs.Refused.{unsolved_is, audit_refused, audit_done}
use Rattle.running_report.specs.Counted.{counts_of}
use Rattle.refinement.specs.Memory.{memory_at, state_at}
use Rattle.refinement.proofs.Fits.{fit_few}
use Rattle.refinement.proofs.Refitting.{refit_follows, refit_refuses, refit_same, fitted_wide, fitted_stale, more_none}
use Rattle.refinement.proofs.refit.refit.Goals as goal

pub returns-in_err-fitted : goal.returns-in_err-fitted
returns-in_err-fitted c =
    let a = c.args in
    let v = c.in_err-fitted in
    let e = v.field-0.0 in
    let w = c.fit_in.new.work in
    let p = err_from_is_err_and c.from_residual.result c.from_residual.ensures.1 in
    let s = state_at a.p (counts_of a.report.now) w in
    rw (p.1, p.2) (
      sym (unsolved_is e s) ∙ refit_refuses a.p (memory_at a.p a.work.now) a.a a.z a.strength (counts_of a.report.now) c.requires.1 s
          (refusal_number e) (refusal_told e) v.ensures.result_value,
      tt,
      refl,
      more_none 1 a.report.now,
    )

pub add_rows-requires : goal.add_rows-requires
add_rows-requires c =
    let a = c.args in
    let n = fit_few a.p a.work.now c.requires.0.0 a.a a.z _ a.strength c.in_ok-fitted.ensures.result_value in
    omega (arith, n.1, c.requires.2.0)

pub follow-audited-requires-clause-roomy : goal.follow-audited-requires-clause-roomy
follow-audited-requires-clause-roomy c =
    let a = c.args in
    let f = c.fit_in in
    let r = c.requires.0 in
    let x = memory_at a.p a.work.now in
    let x₁ = memory_at a.p f.new.work in
    let same : length f.new.work ≡ length a.work.now = omega arith in (
      rw same r.0,
      r.1,
      r.2,
      fitted_wide a.p x a.a a.z a.strength x₁ f.ensures.work_after r.3,
      fitted_stale a.p x a.a a.z a.strength x₁ f.ensures.work_after r.1 r.4,
    )

pub follow-audited-requires-clause-first_le_samples : goal.follow-audited-requires-clause-first_le_samples
follow-audited-requires-clause-first_le_samples c =
    let a = c.args in
    (fit_few a.p a.work.now c.requires.0.0 a.a a.z _ a.strength c.in_ok-fitted.ensures.result_value).0

pub returns-in_err-audited : goal.returns-in_err-audited
returns-in_err-audited c =
    let a = c.args in
    let f = c.fit_in in
    let k = c.in_ok-fitted.fitted in
    let v = c.follow-audited in
    let x = memory_at a.p a.work.now in
    let e = c.in_err-audited.field-0.0 in
    let p = err_from_is_err_and c.from_residual-in_err-audited.result c.from_residual-in_err-audited.ensures.1 in
    let r = counts_of a.report.now in
    let n = fit_few a.p a.work.now c.requires.0.0 a.a a.z _ a.strength c.in_ok-fitted.ensures.result_value in
    let told = c.add_intervals.ensures ∙ ap (add_intervals v.result.checked) c.add_rows.ensures in
    let s = state_at a.p (add_intervals v.result.checked (add_rows k.rows r)) v.new.work in
    let g = refit_follows a.p x a.a a.z a.strength r c.requires.1 (memory_at a.p f.new.work) f.ensures.work_after
    (memory_at a.p v.new.work) k.first k.last k.rows (audits.number_of v.result.outcome)
    (add_intervals v.result.checked (add_rows k.rows r)) c.in_ok-fitted.ensures.result_value (v.ensures.audits (add_rows k.rows r)) in
    rw (p.1, p.2) (
      sym (audit_refused v.result.outcome e s c.in_err-audited.was) ∙ g,
      tt,
      ap (λ (k : Counts). k.refinements) told,
      record {
        rows = omega (arith, n.1, ap (λ (k : Counts). k.rows) told);
        intervals = omega (arith, v.ensures.checked_few, ap (λ (k : Counts). k.intervals) told);
      },
    )

pub returns : goal.returns
returns c =
    let a = c.args in
    let f = c.fit_in in
    let k = c.in_ok-fitted.fitted in
    let v = c.follow-audited in
    let x = memory_at a.p a.work.now in
    let x₁ = memory_at a.p f.new.work in
    let x₂ = memory_at a.p v.new.work in
    let r = counts_of a.report.now in
    let n = fit_few a.p a.work.now c.requires.0.0 a.a a.z _ a.strength c.in_ok-fitted.ensures.result_value in
    let told = c.add_intervals.ensures ∙ ap (add_intervals v.result.checked) c.add_rows.ensures in
    let s = state_at a.p (add_intervals v.result.checked (add_rows k.rows r)) v.new.work in
    let g = refit_follows a.p x a.a a.z a.strength r c.requires.1 x₁ f.ensures.work_after x₂ k.first k.last k.rows
    (audits.number_of v.result.outcome) (add_intervals v.result.checked (add_rows k.rows r)) c.in_ok-fitted.ensures.result_value
    (v.ensures.audits (add_rows k.rows r)) in (
      ap (λ (i : Counts). done (state_at a.p i v.new.work)) told
          ∙ sym (audit_done v.result.outcome s c.in_ok-audited.was) ∙ g,
      (v.ensures.stored.0, refit_same a.p x a.a a.z a.strength x₁ f.ensures.work_after x₂ v.ensures.stored.1),
      ap (λ (k : Counts). k.refinements) told,
      record {
        rows = omega (arith, n.1, ap (λ (k : Counts). k.rows) told);
        intervals = omega (arith, v.ensures.checked_few, ap (λ (k : Counts). k.intervals) told);
      },
    )
