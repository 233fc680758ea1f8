-- The insertions, the polynomial, the regions.
use Rattle.std.proofs.Common.{arith, refl, ◌≡◌, ◌+◌, length, Result, Ok, Err, OnOk}
use Rattle.std.proofs.lemmas.Result.{err_from_is_err_and}
use Rattle.smoothing.proofs.Refused.{stops_there}
use Rattle.refinement.specs.Memory.{memory_at, sized}
use Rattle.running_report.specs.Counted.{counts_of}
use Rattle.refinement.proofs.Memories.{roomy_more}
use Rattle.refinement.proofs.Rounds.{knots_wide, rebuilt_wide, rebuilt_stored, round_is, round_stands}
use Rattle.refinement.proofs.round.round_from.Goals as goal

on_ok : {A E P Q : Type 0} (r : Result A E) → (P → Q) → OnOk r P → OnOk r Q
on_ok (Ok a) f h = f h
on_ok (Err e) f h = h

pub returns-in_err-insert_all-clause-work_after : goal.returns-in_err-insert_all-clause-work_after
returns-in_err-insert_all-clause-work_after c =
    let e = c.in_err-insert_all.field-0.0 in
    let p = err_from_is_err_and c.from_residual.result c.from_residual.ensures.1 in
    rw (p.1, p.2) (stops_there e _ _ c.in_err-insert_all.ensures.work_after)

pub rebuild-requires : goal.rebuild-requires
rebuild-requires c =
    let a = c.args in
    let v = c.insert_all in
    let r = c.requires.roomy in
    let m = a.p.count + a.count in
    let same : length v.new.work ≡ length a.work.now = omega arith in (
      roomy_more a.p (length a.work.now) (length v.new.work) a.count m a.count r.0 same r.1 refl (omega arith),
      knots_wide a.p m a.count (memory_at a.p a.work.now) (memory_at (sized a.p m) v.new.work) c.in_ok-insert_all.ensures.work_after r.2 r.3,
    )

pub refit_all-requires-clause-roomy : goal.refit_all-requires-clause-roomy
refit_all-requires-clause-roomy c =
    let a = c.args in
    let u = c.rebuild in
    let r = c.requires.roomy in
    let m = a.p.count + a.count in
    let x = memory_at a.p a.work.now in
    let x₁ = memory_at (sized a.p m) c.insert_all.new.work in
    let x₂ = memory_at (sized a.p m) u.new.work in
    let i = c.in_ok-insert_all.ensures.work_after in
    let same : length u.new.work ≡ length a.work.now = omega arith in (
      roomy_more a.p (length a.work.now) (length u.new.work) a.count m a.count r.0 same r.1 refl (omega arith),
      omega (arith, r.1),
      rebuilt_wide a.p m a.count x x₁ i x₂ u.ensures r.2 r.3,
      rebuilt_stored a.p m a.count x x₁ i x₂ u.ensures,
    )

pub returns-clause-work_after : goal.returns-clause-work_after
returns-clause-work_after c =
    let a = c.args in
    let u = c.rebuild in
    let v = c.in_ok-insert_all.ensures in
    let m = a.p.count + a.count in
    round_is a.p m a.count (memory_at a.p a.work.now) (memory_at (sized a.p m) c.insert_all.new.work) v.work_after
    (memory_at (sized a.p m) u.new.work) u.ensures v.beside (counts_of a.report.now) _ c.refit_all.ensures.work_after

pub returns-clause-standing : goal.returns-clause-standing
returns-clause-standing c =
    let a = c.args in
    let u = c.rebuild in
    let v = c.in_ok-insert_all.ensures in
    let r = c.requires.roomy in
    let e = c.refit_all in
    on_ok e.result (λ s. round_stands a.p (a.p.count + a.count) a.count a.work.now c.insert_all.new.work u.new.work e.new.work
    v.work_after u.ensures v.beside s r.2 r.3) e.ensures.same
