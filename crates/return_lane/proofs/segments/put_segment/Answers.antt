-- An axis more.
use Rattle.std.proofs.Common.{arith, ◌≡◌, ◌+◌, ◌*◌, ℕ, refl, sym, ap, ◌∙◌}
use Rattle.window.specs.Rows.{join, table, written}
use Rattle.window.proofs.Joined.{list_length}
use Rattle.window.proofs.Written.{written_none}
use Rattle.return_lane.specs.Return.{return_segment}
use Rattle.return_lane.proofs.Rows.{row_put}
use Rattle.return_lane.proofs.segments.put_segment.Invariants.{row}
use Rattle.return_lane.proofs.segments.put_segment.Goals as goal

pub loop-a-init : goal.loop-a-init
unfolding join
loop-a-init c = (refl, sym (written_none c.args.to c.args.cells.now))

pub loop-a-preserved : goal.loop-a-preserved
loop-a-preserved c =
    let g = c.args in
    row_put g.to 6 c.loop-a.a (g.to + 6 * c.loop-a.a) (row g.m g.p.now g.i) g.cells.now c.loop-a.cells _
    (λ j. list_length 6 _) (omega arith) (omega arith) c.loop-a.invariant.1 c.put_six.ensures

pub returns : goal.returns
unfolding return_segment table
returns c =
    let g = c.args in
    let e : c.loop-a.a ≡ g.m = omega arith in
    c.loop-a.invariant.1 ∙ ap (λ (n : ℕ). written g.to (join n (row g.m g.p.now g.i)) g.cells.now) e
