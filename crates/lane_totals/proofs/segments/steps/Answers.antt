use Rattle.std.proofs.Common.{map, arith}
use Rattle.heights.specs.Height.{height_of}
use Rattle.heights.specs.Lifted.{lowered}
use Rattle.lane_totals.proofs.Keeping.{stepped_none, stepped_next, stepped_all}
use Rattle.lane_totals.proofs.segments.steps.Goals as goal

pub loop-j-init : goal.loop-j-init
loop-j-init c = stepped_none (height_of (map lowered c.args.controls.now))

pub overflow_add-sum : goal.overflow_add-sum
overflow_add-sum c = omega (arith, c.height-h.ensures.1, c.loop-j.invariant.sum_bound)

pub loop-j-preserved : goal.loop-j-preserved
loop-j-preserved c =
    let l = c.loop-j in
    let f = height_of (map lowered c.args.controls.now) in
    stepped_next f l.low l.high l.sum l.j c.height-h.result c.min-low.result c.max-high.result l.invariant
    c.height-h.ensures.0 c.height-h.ensures.1 c.min-low.ensures c.max-high.ensures

pub returns : goal.returns
returns c =
    let l = c.loop-j in
    stepped_all (height_of (map lowered c.args.controls.now)) l.low l.high l.sum l.j
    (omega arith) l.invariant
