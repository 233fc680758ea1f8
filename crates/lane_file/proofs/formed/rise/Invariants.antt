-- `below` of the first i breaks are below the next.
use Rattle.std.proofs.Common.{◌+◌}
use lib.Ieee.{lt}
use Rattle.window.specs.Cells.{at}
use Rattle.encoding.specs.Bytes.{floats_of}
use Rattle.curve.proofs.Counting.{Counted}
use Rattle.lane_file.proofs.formed.rise.Given as goal

abbrev pub invariant-loop-i : goal.invariant-loop-i
invariant-loop-i l = Counted (λ j. lt (at (floats_of (l.n + 1) l.bytes) j) (at (floats_of (l.n + 1) l.bytes) (j + 1))) l.i l.below
