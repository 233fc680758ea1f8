-- The locations left, from the spline as it is, give what all give.
use Rattle.std.proofs.Common.{◌≡◌, ◌+◌, length, drop}
use Rattle.smoothing.specs.Round.{insert_all}
use Rattle.refinement.specs.Memory.{memory_at, spline_at, locations_at, sized}
use Rattle.refinement.specs.Kept.{Beside}
use Rattle.refinement.proofs.insertions.insert_all.Given as goal

abbrev pub invariant-loop-i : goal.invariant-loop-i
invariant-loop-i l =
    let w = l.fn.work in
    (length l.work ≡ length w)
    × Beside (memory_at l.p w) (memory_at (sized l.p (l.p.count + l.i)) l.work)
    × (insert_all l.p.axes (drop l.i (locations_at l.p l.count w)) (spline_at (sized l.p (l.p.count + l.i)) l.work)
    ≡ insert_all l.p.axes (locations_at l.p l.count w) (spline_at l.p w))
