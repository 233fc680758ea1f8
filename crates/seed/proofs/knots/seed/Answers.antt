use Rattle.std.proofs.Common.{◌<◌, length, length-take, sym, arith}
use Rattle.window.proofs.Written.{written_none}
use Rattle.seed.specs.Placed.{parameters_at, points_at}
use Rattle.seed.proofs.Writing.{parameters_length, raw_count}
use Rattle.seed.proofs.Seeded.{seeded_empty, settled}
use Rattle.seed.proofs.knots.seed.Goals as goal

pub returns-then-p-lt2-clause-value : goal.returns-then-p-lt2-clause-value
returns-then-p-lt2-clause-value c =
    let p = c.args.p in
    let w = c.args.work.now in
    let h : length (parameters_at p w) < 2 = simp length-take (omega arith) in
    let e = seeded_empty (parameters_at p w) (points_at p w) p.axes h in
    rw e.0

pub returns-then-p-lt2-clause-work_after : goal.returns-then-p-lt2-clause-work_after
returns-then-p-lt2-clause-work_after c =
    let p = c.args.p in
    let w = c.args.work.now in
    let h : length (parameters_at p w) < 2 = simp length-take (omega arith) in
    let e = seeded_empty (parameters_at p w) (points_at p w) p.axes h in
    rw e.1 (sym (written_none p.knots w))

pub returns-clause-value : goal.returns-clause-value
returns-clause-value c =
    let p = c.args.p in
    let w = c.args.work.now in
    let r = c.raw_knots.ensures in
    let v = c.settle.ensures in
    let n = parameters_length p w (omega arith) in
    let few = raw_count (parameters_at p w) (points_at p w) p.axes (omega arith) in
    let done = settled (parameters_at p w) (points_at p w) p.axes p.knots w _ _ _ _ (omega arith) r.value r.work_after v.value v.cells_after in
    done.0

pub returns-clause-work_after : goal.returns-clause-work_after
returns-clause-work_after c =
    let p = c.args.p in
    let w = c.args.work.now in
    let r = c.raw_knots.ensures in
    let v = c.settle.ensures in
    let n = parameters_length p w (omega arith) in
    let few = raw_count (parameters_at p w) (points_at p w) p.axes (omega arith) in
    let done = settled (parameters_at p w) (points_at p w) p.axes p.knots w _ _ _ _ (omega arith) r.value r.work_after v.value v.cells_after in
    done.1
