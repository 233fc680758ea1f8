-- The turns left, from the value now, give what all give.
use Rattle.std.proofs.Common.{◌≡◌}
use Rattle.arith.specs.Loop.{back}
use Rattle.window.specs.Cells.{+0}
use Rattle.query.specs.Segment.{horner_turn}
use Rattle.query.proofs.segment.horner.Given as goal

abbrev pub invariant-loop-k : goal.invariant-loop-k
invariant-loop-k l = back (horner_turn l.p l.u l.r) l.r l.k l.v ≡ back (horner_turn l.p l.u l.r) l.r 6 +0
