-- `kept` of the first i segments have breaks that rise and the width of these.
use Rattle.std.proofs.Common.{map}
use Rattle.curve.proofs.Counting.{Counted}
use Rattle.curve.proofs.Shaped.{formed_at}
use Rattle.lane_file.specs.Curves.{number_of}
use Rattle.lane_file.proofs.kept.segments_formed.Given as goal

abbrev pub invariant-loop-i : goal.invariant-loop-i
invariant-loop-i l = Counted (formed_at l.breaks (map number_of l.cells) l.from) l.i l.kept
