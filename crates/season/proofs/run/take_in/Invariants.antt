-- The bytes before the place are taken in.
use Rattle.std.proofs.Common.{◌-◌, length}
use Rattle.season.specs.Run.{WentOn}
use Rattle.season.proofs.run.take_in.Given as goal

abbrev pub invariant-loop-taken : goal.invariant-loop-taken
invariant-loop-taken l = WentOn l.bytes 0 l.last l.fn.before l.taken

abbrev pub decreases-loop-taken : goal.decreases-loop-taken
decreases-loop-taken l = length l.bytes - l.taken.at
