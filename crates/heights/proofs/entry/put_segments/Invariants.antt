-- The heights of the segments before i are written.
use Rattle.std.proofs.Common.{◌≡◌}
use Rattle.window.specs.Rows.{join, written}
use Rattle.heights.specs.Sets.{set_with}
use Rattle.heights.specs.Heights.{segment_heights}
use Rattle.heights.proofs.entry.put_segments.Given as goal

abbrev pub invariant-loop-i : goal.invariant-loop-i
invariant-loop-i l = l.out ≡ written 0 (join l.i (segment_heights (set_with l.breaks l.coefficients l.n l.m l.at))) l.fn.out
