use Rattle.std.proofs.Common.{◌≡◌, ◌-◌, length}
use Rattle.seed.specs.Placed.{parameters_at, points_at}
use Rattle.seed.proofs.Writing.{Begun}
use Rattle.seed.proofs.knots.raw_knots.Given as goal

-- the knots around the anchors before b are written
abbrev pub invariant-loop-b : goal.invariant-loop-b
invariant-loop-b l =
    Begun (parameters_at l.p l.fn.work) (points_at l.p l.fn.work) l.p.axes l.p.knots l.fn.work l.work l.a l.b l.k
    × (length l.work ≡ length l.fn.work)
    × (length (parameters_at l.p l.fn.work) ≡ l.p.samples)

abbrev pub decreases-loop-b : goal.decreases-loop-b
decreases-loop-b l = l.p.samples - l.b
