-- The job that was read is the definition's, and so is what `build` answers to it.
use Rattle.std.proofs.Common.{sym, ap, ◌∙◌, arith}
use Rattle.smoothing.specs.Answer.Answer.{refused as Refused}
use Rattle.lane.specs.Printed.{printed_of}
use Rattle.lane.proofs.Answers.{refused_lane, small, read_lane, every_input, two_errors, same_errors}
use Rattle.lane.proofs.answer.answer.Goals as goal

pub build-told-requires : goal.build-told-requires
build-told-requires c = (
  small c.args.bytes.now c.in-Ok.counts c.in-Ok.ensures.result_value,
  (
    omega arith,
    omega (arith, c.requires, c.read.auto.cells),
    omega (arith, c.requires),
    omega (arith, c.requires),
    omega (arith, c.requires),
    omega (arith, c.requires),
    omega (arith, c.requires),
    omega (arith, c.requires),
  ),
)

pub slice_bounds-answered-end : goal.slice_bounds-answered-end
slice_bounds-answered-end c =
    omega (arith, small c.args.bytes.now c.in-Ok.counts c.in-Ok.ensures.result_value, c.requires, c.build-told.auto.errors)

pub answered-requires : goal.answered-requires
answered-requires c =
    (omega (arith, c.requires), two_errors c.in-Ok.counts.d _ (small c.args.bytes.now c.in-Ok.counts c.in-Ok.ensures.result_value).0)

pub returns-in-Err-clause-out_after : goal.returns-in-Err-clause-out_after
returns-in-Err-clause-out_after c =
    c.refused.ensures.1 ∙ ap printed_of (sym (refused_lane c.args.bytes.now _ (ap Refused c.number.ensures ∙ c.in-Err.ensures.result_value)))

pub returns-in-Err-clause-by_index : goal.returns-in-Err-clause-by_index
returns-in-Err-clause-by_index c =
    (every_input c.args.bytes.now _ (returns-in-Err-clause-out_after c)).1

pub returns-in-Ok-clause-out_after : goal.returns-in-Ok-clause-out_after
returns-in-Ok-clause-out_after c =
    let b = c.args.bytes.now in
    let n = c.in-Ok.counts in
    let e = read_lane b n c.args.cells.now _ c.in-Ok.ensures.result_value c.read.ensures.cells_after in
    c.answered.ensures.out_after _ c.build-told.ensures.result_value (λ x h. same_errors n.d _ ∙ c.build-told.ensures.errors_after x h)
    ∙ ap printed_of e

pub returns-in-Ok-clause-by_index : goal.returns-in-Ok-clause-by_index
returns-in-Ok-clause-by_index c = (every_input c.args.bytes.now _ (returns-in-Ok-clause-out_after c)).1
