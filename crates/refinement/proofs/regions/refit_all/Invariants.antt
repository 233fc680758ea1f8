-- The regions left, from the state as it is, give what all give, and the stored polynomial is that of the spline.
use Rattle.std.proofs.Common.{◌≡◌, ◌-◌, ◌≤◌, length}
use Rattle.refinement.specs.Memory.{memory_at, state_at, Stored}
use Rattle.refinement.specs.Refit.{Same, More}
use Rattle.running_report.specs.Counted.{counts_of}
use Rattle.refinement.specs.Round.{refits_from}
use Rattle.refinement.proofs.regions.refit_all.Given as goal

abbrev pub invariant-loop-from : goal.invariant-loop-from
invariant-loop-from l =
    let w = l.fn.work in
    let p = l.p in
    (l.from ≤ l.count)
    × (length l.work ≡ length w)
    × Stored p (memory_at p l.work)
    × Same (memory_at p w) (memory_at p l.work)
    × (refits_from p l.count l.from (memory_at p w) (state_at p (counts_of l.report) l.work)
    ≡ refits_from p l.count 0 (memory_at p w) (state_at p (counts_of l.fn.report) w))
    × (l.report.refinements ≡ l.fn.report.refinements)
    × More l.from l.fn.report l.report

abbrev pub decreases-loop-from : goal.decreases-loop-from
decreases-loop-from l = l.count - l.from
