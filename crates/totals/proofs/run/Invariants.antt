-- What is left in front of the buffer is less than a count and a file, and the totals are those of what was read before it.
use Rattle.std.proofs.Common.{◌-◌, ◌≤◌}
use Rattle.season.specs.Run.{files_in, Running}
use Rattle.totals.specs.Input.{Course}
use Rattle.totals.proofs.run.Given as goal

abbrev pub invariant-loop-outcome : goal.invariant-loop-outcome
invariant-loop-outcome l = (l.filled ≤ 60002) × Running l.all × Course l.buffer l.filled l.all

abbrev pub decreases-loop-outcome : goal.decreases-loop-outcome
decreases-loop-outcome l = 65535 - files_in l.all
