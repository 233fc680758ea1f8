-- The terms left, from the sum now, give what all give.
use Rattle.std.proofs.Common.{◌≡◌}
use Rattle.arith.specs.Operations.{floats}
use Rattle.arith.specs.Loop.{each}
use Rattle.float.specs.Power.{power_of}
use Rattle.polynomial.specs.Piece.{add_term}
use Rattle.polynomial.proofs.piece.power.Given as goal

abbrev pub invariant-loop-k : goal.invariant-loop-k
invariant-loop-k l =
    each (add_term floats (power_of floats) l.p l.u l.j) l.k 6 l.value
    ≡ each (add_term floats (power_of floats) l.p l.u l.j) l.j 6 l.initial.value
