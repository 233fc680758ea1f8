-- One location more, if the interval is selected.
use Rattle.std.proofs.Common.{arith, refl, ◌-◌}
use Rattle.window.specs.Rows.{join}
use Rattle.refinement.specs.Memory.{memory_at, locations_at}
use Rattle.refinement.proofs.Locating.{collect_next, collected}
use Rattle.refinement.proofs.locations.collect.Goals as goal

pub loop-i-init : goal.loop-i-init
unfolding join
loop-i-init c = (refl, omega arith, refl, refl, refl)

pub loop-i-preserved : goal.loop-i-preserved
loop-i-preserved c =
    let a = c.args in
    let l = c.loop-i in
    let v = c.add_location-count in
    let k = collect_next a.p l.i l.count v.result (memory_at a.p a.work.now) (memory_at a.p l.work)
    (memory_at a.p v.new.work) l.invariant.3 l.invariant.4 v.ensures.relocated v.ensures.work_after in
    (refl, omega (arith, v.ensures.upper_bound, l.invariant.1), omega arith, k.0, k.1)

pub returns-clause-work_after : goal.returns-clause-work_after
returns-clause-work_after c =
    let a = c.args in
    let l = c.loop-i in
    collected a.p (a.p.samples - 1) l.i (locations_at a.p l.count l.work) (memory_at a.p a.work.now)
    (omega (arith, l.auto.i-end, c.loop-i-test.false)) refl l.invariant.4
