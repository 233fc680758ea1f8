-- The sum so far.
use Rattle.std.proofs.Common.{◌≡◌}
use Rattle.request.specs.Parameters.{sum_of, chord_length}
use Rattle.request.proofs.parameters.chords.Given as goal

abbrev pub invariant-loop-i : goal.invariant-loop-i
invariant-loop-i l = l.sum ≡ sum_of l.i (chord_length l.points l.d)
