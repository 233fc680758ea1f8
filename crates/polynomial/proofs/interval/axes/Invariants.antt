-- The turns left, from what is found now, give what all give.
use Rattle.std.proofs.Common.{◌≡◌, length}
use Rattle.arith.specs.Loop.{till}
use Rattle.polynomial.specs.Interval.{found, axis_turn, axes_of}
use Rattle.polynomial.proofs.interval.axes.Given as goal

abbrev pub invariant-loop-axis : goal.invariant-loop-axis
invariant-loop-axis l =
    (length l.bounds ≡ l.d)
    × (till (axis_turn l.coefficients l.y l.d l.first l.row l.q) (λ f. f) l.axis l.d
    (found l.bounds (record { peak = l.peak; witness = l.witness }))
    ≡ axes_of l.coefficients l.y l.d l.first l.row l.q (found l.fn.bounds l.fn.f))
