use Rattle.std.proofs.Common.{◌≡◌, arith}
use Rattle.bspline.proofs.PolynomialPlaced.{partly_start, partly_next, partly_done}
use Rattle.bspline.proofs.segments.polynomial.Goals as goal

pub loop-span-init : goal.loop-span-init
loop-span-init c = partly_start c.args.s c.args.breaks c.args.coefficients c.args.work.now

pub loop-span-preserved : goal.loop-span-preserved
loop-span-preserved c =
    let a = c.args in
    let l = c.loop-span in
    let p = c.put_span-n in
    rw (p.ensures.0, p.ensures.1)
    (partly_next a.s a.breaks a.coefficients a.work.now (omega arith) (omega arith) (omega arith) (omega arith)
    l.span l.n l.work (omega arith) (omega arith) l.invariant)

pub returns : goal.returns
returns c =
    let a = c.args in
    let l = c.loop-span in
    let e : l.span ≡ a.s.count = omega arith in
    partly_done a.s a.breaks a.coefficients a.work.now (omega arith) (omega arith) (omega arith) (omega arith) l.n l.work
    (omega arith) (rw e at l.invariant)
