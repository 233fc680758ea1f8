use Rattle.std.proofs.Common.{◌≡◌, refl, ap, ◌∙◌}
use Rattle.listing.specs.Output.{printed}
use Rattle.smoothing.specs.Answer.{number_of}
use Rattle.building.specs.Outcome.{outcome_of}
use Rattle.replay_requests.specs.Lines.{build_word, ending, report_in, ratio_in, told_text, as_promised, buffers_of, built_text}
use Rattle.replay_requests.proofs.Printing.{then_text}
use Rattle.replay_requests.proofs.lines.line.Goals as goal

pub returns : goal.returns
unfolding built_text
returns c =
    let a = c.args in
    let told = c.report_in-told.result in
    let number = c.number-number.result in
    let l = buffers_of a.lent in
    let o = outcome_of a.built.answer in
    let curve = a.built.curve in
    let text : told_text told number c.ratio_in.result curve l ≡ told_text (report_in o) (number_of o) (ratio_in o) curve l =
    rw (c.report_in-told.ensures, c.number-number.ensures, c.ratio_in.ensures) refl
    in
    let kept : as_promised told number curve a.p l ≡ as_promised (report_in o) (number_of o) curve a.p l =
    rw (c.report_in-told.ensures, c.number-number.ensures) refl
    in
    then_text _ build_word _
    (then_text _ _ _ (c.end.ensures ∙ ap (λ b. printed c.answer.new.out (ending b)) (c.is_promised.ensures ∙ kept))
    (c.answer.ensures ∙ ap (printed c.text.new.self) text))
    c.text.ensures
