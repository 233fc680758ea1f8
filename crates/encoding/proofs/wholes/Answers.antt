use Rattle.std.proofs.Common.{refl, arith}
use Rattle.encoding.specs.Bytes.{low_first, each_of}
use Rattle.encoding.proofs.Laws.{each_next}
use Rattle.encoding.proofs.wholes.Goals as goal

pub loop-i-init : goal.loop-i-init
unfolding each_of
loop-i-init c = refl

pub loop-i-preserved : goal.loop-i-preserved
loop-i-preserved c =
    let l = c.loop-i in
    let a = c.args in
    rw (l.invariant, c.eight.ensures) (each_next low_first l.i a.bytes.now a.cells.now (omega arith))
