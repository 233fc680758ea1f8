-- The first cells hold the lanes that are cut, the others are as at entry, and the places left give the whole order.
use Rattle.std.proofs.Common.{◌≡◌, List, ℕ, ◌++◌, drop}
use Rattle.order.proofs.Turning.{Course}
use Rattle.order.proofs.turns.write_order.Given as goal

abbrev pub invariant-loop-place : goal.invariant-loop-place
invariant-loop-place l =
    (list : List ℕ) × Course l.lanes l.pairs list l.cut l.place × (l.order ≡ list ++ drop l.place l.fn.order)
