-- The other axes, or their refusal.
use Rattle.std.proofs.Common.{sym, ◌∙◌, take}
use Rattle.std.proofs.lemmas.Result.{err_from_is_err_and}
use Rattle.smoothing.specs.Answer.Answer.{done}
use Rattle.normal.specs.Solve.{refusal_number}
use Rattle.running_report.specs.Counted.{counts_of}
use Rattle.work_slice.specs.Rows.{other_in}
use Rattle.building.specs.Computed.{both, smoothed_at}
use Rattle.building.proofs.Computing.{other_refused, other_done, same_selected, part_is}
use Rattle.building.proofs.compute.with_others.Goals as goal

pub returns-in_err-other_segments-clause-work_after : goal.returns-in_err-other_segments-clause-work_after
returns-in_err-other_segments-clause-work_after c =
    let a = c.args in
    let v = c.in_err-other_segments in
    let g = err_from_is_err_and c.from_residual.result c.from_residual.ensures.1 in
    rw (g.1, g.2) (sym (other_refused (smoothed_at a.p a.done a.work.now) _ (refusal_number v.field-0.0) v.ensures.part_after))

pub returns-clause-work_after : goal.returns-clause-work_after
returns-clause-work_after c =
    let a = c.args in
    let w = a.work.now in
    let v = c.in_ok-other_segments in
    let R = c.requires.roomy.0 in
    let z = c.interpolate_others.new.part in
    let same = same_selected a.p a.done.count w R z (take a.p.axes a.done.errors) (counts_of a.done.report) in
    let part = part_is a.p a.done.count w R z in
    (λ t. done (both (same t) (other_in a.p.samples a.rest.now.count a.p.room v.other_segments (part t))))
    ∙ sym (other_done (smoothed_at a.p a.done w) _ _ v.ensures.part_after)
