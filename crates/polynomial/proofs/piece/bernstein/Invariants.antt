-- The shares left, from the sum now, give what all give.
use Rattle.std.proofs.Common.{◌≡◌, ◌+◌}
use Rattle.arith.specs.Operations.{floats}
use Rattle.arith.specs.Loop.{each}
use Rattle.polynomial.specs.Piece.{add_share}
use Rattle.polynomial.proofs.piece.bernstein.Given as goal

abbrev pub invariant-loop-j : goal.invariant-loop-j
invariant-loop-j l = each (add_share floats l.powers l.k) l.j (l.k + 1) l.v ≡ each (add_share floats l.powers l.k) 0 (l.k + 1) l.initial.v
