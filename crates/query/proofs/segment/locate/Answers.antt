use Rattle.std.proofs.Common.{◌+◌, ◌∙◌, arith}
use borrow.Author.Tests.{lt-ltb, le-ltb}
use Rattle.query.specs.Segment.{located}
use Rattle.query.proofs.Sets.{span_below}
use Rattle.query.proofs.segment.locate.Goals as goal

pub returns-then-breaks-lt2 : goal.returns-then-breaks-lt2
unfolding located
returns-then-breaks-lt2 c = rw (lt-ltb _ _ c.if-breaks-lt2.true)

pub span-span-requires : goal.span-span-requires
span-span-requires c = (c.requires.0, c.requires.1 c.if-breaks-lt2.false)

pub overflow_add-from : goal.overflow_add-from
overflow_add-from c = let a = c.args in
    let w = c.requires.2 c.span-span.result (rw c.span-span.ensures (span_below a.breaks.now a.x c.if-breaks-lt2.false)) in
    omega (arith, w.0)

pub bounds-cells-from : goal.bounds-cells-from
bounds-cells-from c = let a = c.args in
    let w = c.requires.2 c.span-span.result (rw c.span-span.ensures (span_below a.breaks.now a.x c.if-breaks-lt2.false)) in
    omega (arith, w.0)

pub on_span-requires : goal.on_span-requires
on_span-requires c = let a = c.args in
    let w = c.requires.2 c.span-span.result (rw c.span-span.ensures (span_below a.breaks.now a.x c.if-breaks-lt2.false)) in
    (omega (arith, c.span-span.ensures), w.1 (c.type_inv.cells (a.from + c.span-span.result)))

pub returns : goal.returns
unfolding located
returns c = rw (le-ltb _ _ c.if-breaks-lt2.false) (c.on_span.ensures ∙ rw c.span-span.ensures)
