-- The segments before i are gathered, and none of their controls is turned away.
use Rattle.std.proofs.Common.{map}
use Rattle.lane_file.specs.Curves.{number_of}
use Rattle.heights.specs.Sets.{set_with}
use Rattle.lane_totals.proofs.Keeping.{Gathered}
use Rattle.lane_totals.proofs.segments.all_segments.Given as goal

abbrev pub invariant-loop-i : goal.invariant-loop-i
invariant-loop-i l = Gathered (set_with l.breaks (map number_of l.coefficients) l.n l.m l.at) l.all l.i
