use Rattle.std.proofs.Common.{length, arith}
use Rattle.bspline.proofs.InsertPlaced.{weights_room}
use Rattle.bspline.proofs.PolynomialPlaced.{span_room, span_skipped, span_put_law}
use Rattle.bspline.proofs.segments.put_span.Goals as goal

pub returns-then-h : goal.returns-then-h
returns-then-h c =
    let a = c.args in
    span_skipped a.s a.span a.work.now (omega arith) a.breaks a.coefficients a.n c.if-h.true

pub powers-rows-requires : goal.powers-rows-requires
powers-rows-requires c =
    let a = c.args in
    let r = weights_room a.s.knots a.s.count a.span a.work.now (omega arith) (omega arith) (omega arith) in
    (omega arith, r.1)

pub returns : goal.returns
returns c =
    let a = c.args in
    let p = c.powers-rows in
    let r = span_room a.s.controls a.s.count a.s.axes a.span a.n a.breaks a.coefficients (length a.work.now)
    (omega arith) (omega arith) (omega arith) (omega arith) (omega arith) (omega arith) in
    rw c.put_axes.ensures
    (span_put_law a.s a.span a.work.now (omega arith) a.breaks a.coefficients a.n p.result
    c.if-h.false p.ensures r.2 (omega arith))
