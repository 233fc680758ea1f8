-- The turns left, from the sum now, give what all give.
use Rattle.std.proofs.Common.{◌≡◌, ◌+◌, ℕ, List}
use lib.Ieee.{Float}
use Rattle.arith.specs.Operations.{floats}
use Rattle.arith.specs.Loop.{each}
use Rattle.window.specs.Cells.{+0, at}
use Rattle.return_lane.specs.Segment.{add_term}
use Rattle.return_lane.proofs.segments.coefficient.Given as goal

abbrev pub turn : List Float → ℕ → ℕ → ℕ → Float → Float
turn p from k = add_term floats (λ j. at p (from + j)) k

abbrev pub invariant-loop-j : goal.invariant-loop-j
invariant-loop-j l = each (turn l.p l.from l.k) l.j 6 l.sum ≡ each (turn l.p l.from l.k) l.k 6 +0
