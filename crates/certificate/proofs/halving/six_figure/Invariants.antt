-- The turns left, from the figure now, give what all give.
use Rattle.std.proofs.Common.{◌≡◌, ℕ}
use Rattle.arith.specs.Loop.{each}
use Rattle.fraction.specs.Pair as pairs
use Rattle.figure.specs.Figure.{Figure, absolute_end, larger}
use Rattle.certificate.specs.Structs.{figure_in, pair_at}
use Rattle.certificate.proofs.halving.six_figure.Given as goal

abbrev pub turn : (ℕ → pairs.Ends) → ℕ → Figure → Figure
turn p k so_far = larger so_far (absolute_end (p k))

abbrev pub invariant-loop-k : goal.invariant-loop-k
invariant-loop-k l = each (turn (pair_at l.b)) l.k 6 (figure_in l.f) ≡ each (turn (pair_at l.b)) 0 6 (figure_in l.initial.f)
