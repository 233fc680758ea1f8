use Rattle.std.proofs.Common.{◌≡◌, arith}
use Rattle.curve.proofs.Counting.{counted_none, counted_next}
use Rattle.curve.proofs.Shaped.{formed_at, formed_counted}
use Rattle.curve.proofs.form.segments_formed.Goals as goal

pub loop-i-init : goal.loop-i-init
loop-i-init c = let a = c.args in counted_none (formed_at a.breaks.now a.cells.now a.from)

pub overflow_add-kept : goal.overflow_add-kept
overflow_add-kept c = omega (arith, c.loop-i.invariant.0, c.one_if-kept.ensures.1)

pub loop-i-preserved : goal.loop-i-preserved
loop-i-preserved c =
    let a = c.args in
    let k = counted_next (formed_at a.breaks.now a.cells.now a.from) c.loop-i.i c.loop-i.kept c.loop-i.invariant in
    rw (c.one_if-kept.ensures.0, c.is_width.ensures) k

pub returns : goal.returns
returns c =
    let a = c.args in
    let e : c.loop-i.i ≡ a.n = omega arith in
    rw (← e) (formed_counted a.breaks.now a.cells.now a.from c.loop-i.i c.loop-i.kept c.loop-i.invariant)
