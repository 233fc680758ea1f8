use Rattle.bspline.proofs.PolynomialPlaced.{Partly}
use Rattle.bspline.proofs.segments.polynomial.Given as goal

-- the polynomial as far as the spans passed lies in its places
abbrev pub invariant-loop-span : goal.invariant-loop-span
invariant-loop-span l = Partly l.s l.breaks l.coefficients l.fn.work l.span l.n l.work
