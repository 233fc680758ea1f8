-- The locations of the intervals passed lie in their place.
use Rattle.std.proofs.Common.{◌≡◌, ◌-◌, ◌≤◌, length}
use Rattle.window.specs.Rows.{join}
use Rattle.refinement.specs.Memory.{memory_at, locations_at}
use Rattle.refinement.specs.Kept.{Relocated}
use Rattle.refinement.specs.Round.{location_of}
use Rattle.refinement.proofs.locations.collect.Given as goal

abbrev pub invariant-loop-i : goal.invariant-loop-i
invariant-loop-i l =
    (l.n ≡ l.p.samples - 1)
    × (l.count ≤ l.i)
    × (length l.work ≡ length l.fn.work)
    × Relocated (memory_at l.p l.fn.work) (memory_at l.p l.work)
    × (locations_at l.p l.count l.work ≡ join l.i (location_of l.p (memory_at l.p l.fn.work)))
