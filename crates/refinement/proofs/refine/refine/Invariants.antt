-- The rounds left, from the state as it is, give what all give; the task is as at entry, and the knots rise.
use Rattle.std.proofs.Common.{◌≡◌, ◌+◌, ◌*◌, ◌≤◌, length}
use Rattle.smoothing.specs.Rising.{Rising}
use Rattle.smoothing.specs.Round.{refine_of}
use Rattle.refinement.specs.Memory.{Roomy, memory_at, task_at, state_at, sized}
use Rattle.running_report.specs.Counted.{counts_of}
use Rattle.refinement.proofs.refine.refine.Given as goal

abbrev pub invariant-loop-p : goal.invariant-loop-p
invariant-loop-p l =
    let w = l.fn.work in
    (length l.work ≡ length w)
    × Roomy (sized l.p l.m) (length l.work)
    × Rising (memory_at (sized l.p l.m) l.work).t l.m
    × (task_at (sized l.p l.m) l.work ≡ task_at l.p w)
    × (refine_of l.segments l.rest (task_at l.p w) (state_at (sized l.p l.m) (counts_of l.report) l.work)
    ≡ refine_of l.segments l.left (task_at l.p w) (state_at l.p (counts_of l.fn.report) w))
    × (l.report.refinements + l.rest ≤ 1000000)
    × (l.report.rows + 85968065396736 * l.rest ≤ 4611686018427387904)
    × (l.report.intervals + 400640256 * l.rest ≤ 4611686018427387904)

abbrev pub decreases-loop-p : goal.decreases-loop-p
decreases-loop-p l = l.rest
