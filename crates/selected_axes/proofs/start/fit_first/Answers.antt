-- No fit of straight waypoints; a fit's refusal; its rows.
use Rattle.std.proofs.Common.{arith, refl, sym, ap, ◌∙◌}
use Rattle.std.proofs.lemmas.Result.{err_from_is_err_and}
use lib.Ieee.{of_bits, round}
use Rattle.smoothing.specs.Answer.{unless}
use Rattle.smoothing.specs.Answer.Answer.{done}
use Rattle.smoothing.specs.State.{Counts, add_rows}
use Rattle.smoothing.specs.Start.{first_strength}
use Rattle.smoothing.proofs.Refused.{unsolved_is}
use Rattle.running_report.specs.Counted.{counts_of}
use Rattle.refinement.specs.Memory.{memory_at, state_at}
use Rattle.refinement.proofs.Fits.{fit_few}
use Rattle.selected_axes.proofs.Starting.{fit_none, fit_made}
use Rattle.selected_axes.proofs.start.fit_first.Goals as goal

pub returns-then-not-bent-clause-work_after : goal.returns-then-not-bent-clause-work_after
returns-then-not-bent-clause-work_after c =
    let a = c.args in
    fit_none a.p (memory_at a.p a.work.now) (counts_of a.report.now) (sym c.requires.1 ∙ c.if-not-bent.true)

pub returns-in_err-fitted-clause-work_after : goal.returns-in_err-fitted-clause-work_after
unfolding of_bits round
returns-in_err-fitted-clause-work_after c =
    let a = c.args in
    let v = c.in_err-fitted in
    let e = v.field-0.0 in
    let p = err_from_is_err_and c.from_residual.result c.from_residual.ensures.1 in
    let r = counts_of a.report.now in
    let w = c.fit_in.new.work in
    rw (p.1, p.2) (
    sym (unsolved_is e (state_at a.p (add_rows 0 r) w))
    ∙ fit_made a.p (memory_at a.p a.work.now) r (memory_at a.p w) _ (add_rows 0 r) (sym c.requires.1 ∙ c.if-not-bent.false)
    v.ensures.result_value c.fit_in.ensures.work_after refl
    )

pub after_fit-requires : goal.after_fit-requires
unfolding of_bits round
after_fit-requires c =
    let a = c.args in
    let n = fit_few a.p a.work.now c.requires.0 1 _ _ first_strength c.in_ok-fitted.ensures.result_value in
    omega (arith, n.1, c.requires.2)

pub returns-clause-work_after : goal.returns-clause-work_after
unfolding of_bits round unless
returns-clause-work_after c =
    let a = c.args in
    let r = counts_of a.report.now in
    let w = c.fit_in.new.work in
    let told = c.after_fit.ensures in
    ap (λ (k : Counts). done (state_at a.p k w)) told
    ∙ fit_made a.p (memory_at a.p a.work.now) r (memory_at a.p w) _ _ (sym c.requires.1 ∙ c.if-not-bent.false)
    c.in_ok-fitted.ensures.result_value c.fit_in.ensures.work_after refl

pub returns-clause-refinements_value : goal.returns-clause-refinements_value
unfolding of_bits round
returns-clause-refinements_value c =
    let a = c.args in
    let told = c.after_fit.ensures in
    let n = fit_few a.p a.work.now c.requires.0 1 _ _ first_strength c.in_ok-fitted.ensures.result_value in (
      ap (λ (k : Counts). k.refinements) told,
      omega (arith, n.1, ap (λ (k : Counts). k.rows) told),
      ap (λ (k : Counts). k.intervals) told,
    )
