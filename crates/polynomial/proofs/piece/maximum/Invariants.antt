-- The turns left, from the largest now, give what all give.
use Rattle.std.proofs.Common.{◌≡◌}
use Rattle.arith.specs.Loop.{each}
use Rattle.window.specs.Cells.{at}
use Rattle.fraction.specs.Value.{absolute_float}
use Rattle.polynomial.specs.Largest.{larger_of, largest_of}
use Rattle.polynomial.proofs.piece.maximum.Given as goal

abbrev pub invariant-loop-k : goal.invariant-loop-k
invariant-loop-k l = each (λ k m. larger_of m (absolute_float (at l.b k))) l.k 6 l.m ≡ largest_of l.b
