-- The first j heights are taken in.
use Rattle.std.proofs.Common.{map}
use Rattle.heights.specs.Height.{height_of}
use Rattle.heights.specs.Lifted.{lowered}
use Rattle.lane_totals.proofs.Keeping.{Stepped}
use Rattle.lane_totals.proofs.segments.steps.Given as goal

abbrev pub invariant-loop-j : goal.invariant-loop-j
invariant-loop-j l = Stepped (height_of (map lowered l.controls)) l.low l.high l.sum l.j
