-- A coefficient more.
use Rattle.std.proofs.Common.{arith, ◌≡◌, ◌+◌, true, refl}
use Rattle.arith.specs.Operations.{floats}
use Rattle.window.specs.Cells.{at}
use Rattle.window.specs.Rows.{join}
use Rattle.curve.proofs.Putting.{put_none, put_step}
use Rattle.return_lane.specs.Segment.{return_coefficient}
use Rattle.return_lane.proofs.segments.put_six.Goals as goal

pub loop-k-init : goal.loop-k-init
unfolding join
loop-k-init c = (refl, put_none true c.args.to c.args.cells.now)

pub loop-k-preserved : goal.loop-k-preserved
loop-k-preserved c =
    let a = c.args in
    put_step true a.to c.loop-k.k 6 (return_coefficient floats (λ j. at a.p.now (a.from + j))) a.cells.now c.loop-k.cells _ _
    c.loop-k-test.true (λ t. c.requires.1) c.loop-k.invariant.1 refl c.coefficient.ensures

pub returns : goal.returns
returns c = let e : c.loop-k.k ≡ 6 = omega arith in rw e at c.loop-k.invariant.1
