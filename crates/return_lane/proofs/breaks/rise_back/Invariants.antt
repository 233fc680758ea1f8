-- `below` of the first i breaks are below the next.
use Rattle.curve.proofs.Counting.{Counted}
use Rattle.return_lane.proofs.Returned.{rises_at}
use Rattle.return_lane.proofs.breaks.rise_back.Given as goal

abbrev pub invariant-loop-i : goal.invariant-loop-i
invariant-loop-i l = Counted (rises_at l.breaks) l.i l.below
