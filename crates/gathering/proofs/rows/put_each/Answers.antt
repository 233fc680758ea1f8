use Rattle.std.proofs.Common.{◌≡◌, ◌*◌, true, refl, arith}
use Rattle.window.specs.Rows.{join, list_of}
use Rattle.curve.proofs.Putting.{put_none, put_step, put_rows}
use Rattle.arith.proofs.Rows.{row_end}
use Rattle.window.proofs.Joined.{list_length}
use Rattle.gathering.proofs.Gathered.{rows_written}
use Rattle.gathering.proofs.rows.put_each.Goals as goal

pub loop-i-init : goal.loop-i-init
unfolding join
loop-i-init g c = λ f h. (refl, put_none true 0 c.args.cells.now)

pub loop-a-init : goal.loop-a-init
unfolding join
loop-a-init g c = λ f h. (refl, put_none true (c.loop-i.i * c.args.k) c.loop-i.cells)

pub loop-a-preserved : goal.loop-a-preserved
loop-a-preserved g c = λ f h.
    let a = c.args in
    let i = c.loop-i in
    let l = c.loop-a in
    let room = row_end i.i a.n a.k (a.n * a.k) (omega arith) (omega arith) in
    put_step true (i.i * a.k) l.a a.k (f i.i) i.cells l.cells _ c.cell.result (omega arith) (λ b. omega (arith, room, c.requires.size))
    (l.invariant f h).1 refl (h _ _ _ (omega arith) (omega arith) c.cell.ensures)

pub loop-i-preserved : goal.loop-i-preserved
loop-i-preserved g c = λ f h.
    let a = c.args in
    let i = c.loop-i in
    let e : c.loop-a.a ≡ a.k = omega arith in
    put_rows true a.k i.i a.n (λ j. list_of a.k (f j)) a.cells.now i.cells c.loop-a.cells (λ j. list_length a.k (f j)) (omega arith)
    (λ b. omega (arith, c.requires.size)) (i.invariant f h).1 (rw e at (c.loop-a.invariant f h).1)

pub returns : goal.returns
returns g c = λ f h.
    let a = c.args in
    let e : c.loop-i.i ≡ a.n = omega arith in
    rows_written a.n a.k f a.cells.now c.requires.size (rw e at (c.loop-i.invariant f h).1)
