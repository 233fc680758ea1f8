-- The bounds left, from the largest so far, give what all give.
use Rattle.std.proofs.Common.{◌≡◌, ℕ, length}
use lib.Ieee.{Float}
use Rattle.arith.specs.Loop.{each}
use Rattle.window.specs.Cells.{at}
use Rattle.float.specs.Order.{max_of}
use Rattle.smoothing.specs.Round.{worst_of}
use Rattle.refinement.proofs.refine.worst.Given as goal

abbrev pub invariant-loop-i : goal.invariant-loop-i
invariant-loop-i l = each (λ (k : ℕ) (v : Float). max_of v (at l.bounds k)) l.i (length l.bounds) l.w ≡ worst_of l.bounds
