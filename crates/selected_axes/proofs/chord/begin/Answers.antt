-- `chord::begin` meets its contract.
use Rattle.refinement.specs.Memory.{memory_at}
use Rattle.selected_axes.proofs.Starting.{begun}
use Rattle.selected_axes.proofs.chord.begin.Goals as goal

pub returns-clause-work_after : goal.returns-clause-work_after
returns-clause-work_after c =
    let p = c.args.p in
    let e = c.put_ends in
    let f = c.put_chord in
    let g = c.clear_bounds in
    let h = begun p c.args.work.now c.requires (memory_at p e.new.work) (memory_at p f.new.work) (memory_at p g.new.work)
    (e.ensures.work_after, e.ensures.work_unchanged) f.ensures g.ensures in
    h.0
