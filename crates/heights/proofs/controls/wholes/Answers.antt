-- A control more, or one that is turned away.
use Rattle.heights.proofs.Filled.{filled_none, filled_away, filled_next, filled_all}
use Rattle.heights.proofs.controls.wholes.Goals as goal

pub loop-k-init : goal.loop-k-init
loop-k-init c = filled_none c.args.b

pub returns-in_err-cells : goal.returns-in_err-cells
returns-in_err-cells c =
    let l = c.loop-k in
    rw c.from_residual.ensures (filled_away c.args.b l.cells l.k c.loop-k-test.true l.invariant c.in_err-cells.ensures)

pub loop-k-preserved : goal.loop-k-preserved
loop-k-preserved c =
    let l = c.loop-k in
    filled_next c.args.b l.cells l.k c.in_ok-cells.field-0 c.loop-k-test.true l.invariant c.in_ok-cells.ensures

pub returns : goal.returns
returns c = filled_all c.args.b c.loop-k.cells c.loop-k.k c.loop-k-test.false c.loop-k.invariant
