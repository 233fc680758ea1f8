use Rattle.std.proofs.Common.{◌≡◌, ◌-◌, ℕ}
use Rattle.arith.specs.Loop.{each}
use lib.Ieee.{Float}
use mathlib.Core.List.{List}
use Rattle.bspline.specs.Placed.{span_put, spans_put}
use Rattle.bspline.proofs.segments.put_spans.Given as goal

-- the spans left, from the slice as it is, give what all give
abbrev pub invariant-loop-span : goal.invariant-loop-span
invariant-loop-span l =
    each (λ (i : ℕ) (w : List Float). span_put l.s l.breaks l.coefficients i (i - 5) w) l.span l.to l.work
    ≡ spans_put l.s l.breaks l.coefficients l.from l.to l.fn.work
