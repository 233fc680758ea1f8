use Rattle.std.proofs.Common.{Bool, cond, ◌+◌, ap, ◌∙◌, arith}
use lib.Ieee.{lt}
use Rattle.window.specs.Cells.{at}
use Rattle.encoding.specs.Bytes.{floats_of}
use Rattle.curve.proofs.Counting.{counted_none, counted_next}
use Rattle.lane_file.proofs.ByteBreaks.{compared}
use Rattle.lane_file.proofs.formed.rise.Goals as goal

pub loop-i-init : goal.loop-i-init
loop-i-init c =
    let b = floats_of (c.args.n + 1) c.args.bytes.now in counted_none (λ j. lt (at b j) (at b (j + 1)))

pub loop-i-preserved : goal.loop-i-preserved
loop-i-preserved c =
    let a = c.args in
    let l = c.loop-i in
    let b = floats_of (a.n + 1) a.bytes.now in
    let k = counted_next (λ j. lt (at b j) (at b (j + 1))) l.i l.below l.invariant in
    let t = compared a.bytes.now a.n l.i c.float.result c.float-in-loop-i.result (omega arith) c.float.ensures c.float-in-loop-i.ensures in
    rw (c.one_if-below.ensures.0 ∙ ap (λ (t : Bool). cond t 1 0) t) k
