use Rattle.std.proofs.Common.{◌≡◌, ℕ, ◌+◌, ◌-◌, ◌*◌, ◌≤◌, refl, sym, ap, ◌∙◌, arith}
use Rattle.arith.proofs.Rows.{row_end}
use Rattle.window.specs.Rows.{join, written}
use Rattle.window.proofs.Written.{written_none}
use Rattle.return_lane.specs.Return.{return_coefficients}
use Rattle.return_lane.proofs.Returned.{segment_length}
use Rattle.return_lane.proofs.Rows.{row_put}
use Rattle.return_lane.proofs.segments.put_segments.Invariants.{row}
use Rattle.return_lane.proofs.segments.put_segments.Goals as goal

pub loop-i-init : goal.loop-i-init
unfolding join
loop-i-init c = (refl, sym (written_none 0 c.args.cells.now))

-- segment i lies within all from the front, and from the end
pub put_segment-requires : goal.put_segment-requires
put_segment-requires c =
    let a = c.args in
    let i = c.loop-i.i in
    let front : i * a.m + a.m ≤ a.n * a.m = row_end i a.n a.m (a.n * a.m) c.loop-i-test.true (omega arith) in
    let end : (a.n - (i + 1)) * a.m + a.m ≤ a.n * a.m = row_end (a.n - (i + 1)) a.n a.m (a.n * a.m) (omega arith) (omega arith) in
    (omega (arith, end), omega (arith, front, c.loop-i.invariant.0))

pub loop-i-preserved : goal.loop-i-preserved
loop-i-preserved c =
    let a = c.args in
    let l = c.loop-i in
    let front : l.i * a.m + a.m ≤ a.n * a.m = row_end l.i a.n a.m (a.n * a.m) c.loop-i-test.true (omega arith) in
    row_put 0 (a.m * 6) l.i (6 * (l.i * a.m)) (row a.m a.n a.p.now) a.cells.now l.cells _
    (λ j. segment_length a.m a.p.now (a.n - (j + 1))) (omega arith) (omega arith) l.invariant.1 c.put_segment.ensures

pub returns : goal.returns
unfolding return_coefficients
returns c =
    let a = c.args in
    let e : c.loop-i.i ≡ a.n = omega arith in
    c.loop-i.invariant.1 ∙ ap (λ (n : ℕ). written 0 (join n (row a.m a.n a.p.now)) a.cells.now) e
