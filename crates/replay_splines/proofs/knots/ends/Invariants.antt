-- Each region takes a location at least.
use Rattle.std.proofs.Common.{◌≤◌, ◌-◌, length}
use Rattle.replay_splines.proofs.knots.ends.Given as goal

abbrev pub invariant-loop-from : goal.invariant-loop-from
invariant-loop-from l = l.from ≤ length l.x

abbrev pub decreases-loop-from : goal.decreases-loop-from
decreases-loop-from l = length l.x - l.from
