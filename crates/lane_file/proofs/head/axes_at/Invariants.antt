-- i axes were read, and the others, read from here on, give all.
use Rattle.std.proofs.Common.{◌≡◌, length}
use Rattle.lane_file.proofs.AxisLists.{SoFar}
use Rattle.lane_file.proofs.head.axes_at.Given as goal

abbrev pub invariant-loop-i : goal.invariant-loop-i
invariant-loop-i l = (length l.axes ≡ 16) × SoFar l.file l.at l.k l.axes l.next l.i
