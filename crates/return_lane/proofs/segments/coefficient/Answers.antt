-- A term more.
use Rattle.std.proofs.Common.{arith, ◌≡◌, ◌+◌, sym, ap, ◌∙◌}
use lib.Ieee.{Float, binary64, add, mul}
use Rattle.arith.specs.Loop.{each}
use Rattle.arith.proofs.Loops.{each_done, each_next}
use Rattle.window.specs.Cells.{+0, at}
use Rattle.return_lane.specs.Segment.{return_coefficient}
use Rattle.return_lane.proofs.segments.coefficient.Invariants.{turn}
use Rattle.return_lane.proofs.segments.coefficient.Goals as goal

pub loop-j-preserved : goal.loop-j-preserved
loop-j-preserved c =
    let a = c.args in
    each_next (turn a.p.now a.from a.k) c.loop-j.j 6 c.loop-j-test.true
    (ap (λ (x : Float). add binary64 c.loop-j.sum (mul binary64 x (at a.p.now (a.from + c.loop-j.j)))) c.choose.ensures) c.loop-j.invariant

pub returns : goal.returns
unfolding return_coefficient
returns c =
    let a = c.args in
    let e : c.loop-j.sum ≡ each (turn a.p.now a.from a.k) a.k 6 +0 =
    sym (each_done (turn a.p.now a.from a.k) c.loop-j.j 6 c.loop-j.sum (omega arith)) ∙ c.loop-j.invariant in
    λ i. mul binary64 (c.sign_of.ensures i) (e i)
