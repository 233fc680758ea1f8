-- `builds::pamitoye_build` meets its contract.
use mathlib.Core.Path.{◌≡◌, ap, ◌∙◌}
use mathlib.Core.List.{List}
use Prim.Native.Nat.{ℕ}
use lib.Ieee.{Float}
use Rattle.request.specs.declared.parameters.Spacing.{Spacing}
use Rattle.smoothing.specs.Answer.{Answer, number_of}
use Rattle.smoothing.specs.Request.{Axes, Tolerance, Limits}
use Rattle.smoothing.specs.Build.{Result}
use Rattle.checks.specs.Request.{lane_with}
use Rattle.building.specs.Outcome.{outcome_of, reported, Results, results, lengths_of}
use Rattle.building.specs.Answered.{answer_to}
use Rattle.pamitoye.specs.Choices.{chosen_axes, chosen_tolerance, chosen_spacing}
use Rattle.pamitoye.specs.Builds.{outline, build_outputs, build_outputs_after}
use Rattle.pamitoye.proofs.UsedCells.{formed_curve}
use Rattle.pamitoye.proofs.Writing.{all_written}
use Rattle.pamitoye.proofs.builds.pamitoye_build.Goals as goal

-- what is asked of `build` is what the caller chose
asked : (d n : ℕ) (parameters points : List Float) (m : Limits) (w : List Float) (s : Results) {axes axes' : Axes} {eps eps' : Tolerance}
    {spacing spacing' : Spacing} → axes ≡ axes' → eps ≡ eps' → spacing ≡ spacing'
    → answer_to (lane_with d n axes eps spacing parameters points) m w s ≡ answer_to (lane_with d n axes' eps' spacing' parameters points) m w s
asked d n parameters points m w s p q r = λ i. answer_to (lane_with d n (p i) (q i) (r i) parameters points) m w s

pub returns-clause-value : goal.returns-clause-value
returns-clause-value c =
    let a = c.args in
    let b = c.build-built in
    let n = c.number-number in
    let s = results a.breaks.now a.coefficients.now a.other_breaks.now a.other_coefficients.now a.errors.now in
    let m : Limits = record { refinements = a.max_refinements; segments = a.max_segments } in
    let old = build_outputs a.work.now s a.counts.now a.ratio.now (outline a.k.now a.axes.now a.start.now a.end.now) in
    let e = asked a.d a.n a.parameters.now a.points.now m a.work.now s c.axes_of.ensures c.tolerance_of.ensures c.spacing_of.ensures in
    let number = n.ensures ∙ ap number_of b.ensures.answer_value ∙ ap (λ (z : Answer Result). number_of (reported z)) e in
    number

pub returns-clause-end_after : goal.returns-clause-end_after
returns-clause-end_after c =
    let a = c.args in
    let b = c.build-built in
    let n = c.number-number in
    let s = results a.breaks.now a.coefficients.now a.other_breaks.now a.other_coefficients.now a.errors.now in
    let m : Limits = record { refinements = a.max_refinements; segments = a.max_segments } in
    let old = build_outputs a.work.now s a.counts.now a.ratio.now (outline a.k.now a.axes.now a.start.now a.end.now) in
    let e = asked a.d a.n a.parameters.now a.points.now m a.work.now s c.axes_of.ensures c.tolerance_of.ensures c.spacing_of.ensures in
    let number = n.ensures ∙ ap number_of b.ensures.answer_value ∙ ap (λ (z : Answer Result). number_of (reported z)) e in
    let all = all_written c.mode_of.result a.d _ (outcome_of b.result.answer) b.result.curve n.result b.ensures.answer_value
    b.ensures.curve_value n.ensures old b.ensures.work_after b.ensures.errors_after c.put_answer.ensures.counts_after c.put_answer.ensures.ratio_after
    c.put_curve.ensures
    ∙ (λ i. build_outputs_after (c.mode_of.ensures i) a.d (e i) old) in
    all

pub returns-clause-formed_curve : goal.returns-clause-formed_curve
returns-clause-formed_curve c =
    let a = c.args in
    let b = c.build-built in
    let n = c.number-number in
    let s = results a.breaks.now a.coefficients.now a.other_breaks.now a.other_coefficients.now a.errors.now in
    let m : Limits = record { refinements = a.max_refinements; segments = a.max_segments } in
    let old = build_outputs a.work.now s a.counts.now a.ratio.now (outline a.k.now a.axes.now a.start.now a.end.now) in
    let e = asked a.d a.n a.parameters.now a.points.now m a.work.now s c.axes_of.ensures c.tolerance_of.ensures c.spacing_of.ensures in
    let number = n.ensures ∙ ap number_of b.ensures.answer_value ∙ ap (λ (z : Answer Result). number_of (reported z)) e in
    let all = all_written c.mode_of.result a.d _ (outcome_of b.result.answer) b.result.curve n.result b.ensures.answer_value
    b.ensures.curve_value n.ensures old b.ensures.work_after b.ensures.errors_after c.put_answer.ensures.counts_after c.put_answer.ensures.ratio_after
    c.put_curve.ensures
    ∙ (λ i. build_outputs_after (c.mode_of.ensures i) a.d (e i) old) in
    let l = lane_with a.d a.n (chosen_axes a.all a.axis_list.now) (chosen_tolerance a.uniform a.tolerance a.tolerance_list.now)
    (chosen_spacing a.spacing) a.parameters.now a.points.now in
    formed_curve l m c.type_inv.parameters a.clamp (lengths_of a.work.now s) old number all
