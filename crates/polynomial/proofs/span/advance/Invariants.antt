-- The turns left, from the span now, give what all give; there are enough to reach the last segment.
use Rattle.std.proofs.Common.{◌-◌, ◌≡◌, ◌+◌, ◌≤◌, ◌<◌, length, ℕ}
use Rattle.arith.specs.Loop.{whilst}
use Rattle.polynomial.specs.Span.{passed}
use Rattle.polynomial.proofs.span.advance.Given as goal

abbrev pub invariant-loop-k : goal.invariant-loop-k
invariant-loop-k l =
    (l.k + 1 < length l.breaks)
    × (l.span ≤ l.k)
    × ((m : ℕ)
    × (length l.breaks ≤ m + l.k + 1)
    × (whilst (passed l.breaks l.left) (λ k. k + 1) m l.k ≡ whilst (passed l.breaks l.left) (λ k. k + 1) (length l.breaks) l.span))

abbrev pub decreases-loop-k : goal.decreases-loop-k
decreases-loop-k l = length l.breaks - l.k
