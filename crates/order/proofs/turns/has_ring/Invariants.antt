-- The places left give the whole order.
use Rattle.std.proofs.Common.{List, ℕ}
use Rattle.order.proofs.Turning.{Course}
use Rattle.order.proofs.turns.has_ring.Given as goal

abbrev pub invariant-loop-place : goal.invariant-loop-place
invariant-loop-place l = (list : List ℕ) × Course l.lanes l.pairs list l.cut l._place
