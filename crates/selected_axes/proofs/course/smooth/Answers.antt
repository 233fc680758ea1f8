-- As the start ends, then the rounds, then the finish.
use Rattle.std.proofs.Common.{arith, ap, ◌∙◌, ◌≡◌, length, take}
use Rattle.std.proofs.lemmas.Result.{err_from_is_err_and}
use Rattle.smoothing.specs.Rows.{Task}
use Rattle.smoothing.specs.Round.{refine_of}
use Rattle.refinement.specs.Memory.{task_at, state_at, sized}
use Rattle.running_report.specs.Counted.{counts_of}
use Rattle.refinement.proofs.Memories.{lengths}
use Rattle.selected_axes.specs.Selected.{units_of}
use Rattle.selected_axes.proofs.Courses.{start_refuses, rounds_refuse, rounds_settle, settled_few, settled_intervals}
use Rattle.selected_axes.proofs.course.smooth.Goals as goal

pub returns-in_err-first-clause-work_after : goal.returns-in_err-first-clause-work_after
returns-in_err-first-clause-work_after c =
    let a = c.args in
    let p = a.p in
    let v = c.in_err-first in
    let g = err_from_is_err_and c.from_residual.result c.from_residual.ensures.1 in
    rw (g.1, g.2) (start_refuses (record { refinements = a.refinements; segments = a.segments }) (task_at p a.work.now)
    (units_of a.points.now a.d p.samples (take p.axes a.axes.now) (take p.axes a.eps.now)) v.field-0.0 v.ensures.work_after)

pub returns-in_err-count-clause-work_after : goal.returns-in_err-count-clause-work_after
returns-in_err-count-clause-work_after c =
    let a = c.args in
    let p = a.p in
    let f = c.start in
    let v = c.in_ok-first in
    let k = v.ensures.stored in
    let st = state_at (sized p v.first) (counts_of f.new.report) f.new.work in
    let e = c.in_err-count in
    let g = err_from_is_err_and c.from_residual-in_err-count.result c.from_residual-in_err-count.ensures.1 in
    rw (g.1, g.2) (rounds_refuse (record { refinements = a.refinements; segments = a.segments }) (task_at p a.work.now)
    (units_of a.points.now a.d p.samples (take p.axes a.axes.now) (take p.axes a.eps.now)) st v.ensures.work_after e.field-0.0
    (e.ensures.work_after ∙ ap (λ (t : Task). refine_of a.segments a.refinements t st) k.2))

pub finish-requires : goal.finish-requires
finish-requires c =
    let a = c.args in
    let p = a.p in
    let f = c.start in
    let v = c.in_ok-first in
    let k = v.ensures.stored in
    let st = state_at (sized p v.first) (counts_of f.new.report) f.new.work in
    let r = c.requires in
    let t = c.in_ok-count.ensures.stands in (
      t.2,
      t.1,
      r.3,
      r.4,
      r.5,
      r.6,
      settled_intervals (record { refinements = a.refinements; segments = a.segments }) (task_at p a.work.now)
          (units_of a.points.now a.d p.samples (take p.axes a.axes.now) (take p.axes a.eps.now)) st v.ensures.work_after _
          (c.in_ok-count.ensures.work_after ∙ ap (λ (t : Task). refine_of a.segments a.refinements t st) k.2)
          (lengths p a.work.now r.0).s r.4 r.2,
    )

pub returns-in_err-errors-clause-work_after : goal.returns-in_err-errors-clause-work_after
returns-in_err-errors-clause-work_after c =
    let a = c.args in
    let p = a.p in
    let f = c.start in
    let v = c.in_ok-first in
    let k = v.ensures.stored in
    let st = state_at (sized p v.first) (counts_of f.new.report) f.new.work in
    let e = c.in_err-errors in
    let g = err_from_is_err_and c.from_residual-in_err-errors.result c.from_residual-in_err-errors.ensures.1 in
    rw (g.1, g.2) (rounds_settle (record { refinements = a.refinements; segments = a.segments }) (task_at p a.work.now)
    (units_of a.points.now a.d p.samples (take p.axes a.axes.now) (take p.axes a.eps.now)) st v.ensures.work_after _
    (c.in_ok-count.ensures.work_after ∙ ap (λ (t : Task). refine_of a.segments a.refinements t st) k.2) _ _
    (c.in_ok-count.ensures.stands.0 ∙ k.2) e.ensures)

pub returns-clause-work_after : goal.returns-clause-work_after
returns-clause-work_after c =
    let a = c.args in
    let p = a.p in
    let f = c.start in
    let v = c.in_ok-first in
    let k = v.ensures.stored in
    let st = state_at (sized p v.first) (counts_of f.new.report) f.new.work in
    rounds_settle (record { refinements = a.refinements; segments = a.segments }) (task_at p a.work.now)
    (units_of a.points.now a.d p.samples (take p.axes a.axes.now) (take p.axes a.eps.now)) st v.ensures.work_after _
    (c.in_ok-count.ensures.work_after ∙ ap (λ (t : Task). refine_of a.segments a.refinements t st) k.2) _ _
    (c.in_ok-count.ensures.stands.0 ∙ k.2) c.in_ok-errors.ensures

pub returns-clause-roomy : goal.returns-clause-roomy
returns-clause-roomy c =
    let a = c.args in
    let p = a.p in
    let f = c.start in
    let v = c.in_ok-first in
    let k = v.ensures.stored in
    let st = state_at (sized p v.first) (counts_of f.new.report) f.new.work in
    let few = settled_few (record { refinements = a.refinements; segments = a.segments }) (task_at p a.work.now)
    (units_of a.points.now a.d p.samples (take p.axes a.axes.now) (take p.axes a.eps.now)) st v.ensures.work_after _
    (c.in_ok-count.ensures.work_after ∙ ap (λ (t : Task). refine_of a.segments a.refinements t st) k.2) in
    let same : length c.finish.new.work ≡ length c.refine.new.work = omega arith in
    (rw same c.in_ok-count.ensures.stands.2, few)
