-- No control of the segments before i is turned away.
use Rattle.std.proofs.Common.{◌≡◌, not}
use Rattle.arith.specs.First.{first_of}
use Rattle.heights.specs.Controls.{segment_fits}
use Rattle.heights.specs.Sets.{set_with}
use Rattle.heights.proofs.entry.all_fit.Given as goal

abbrev pub invariant-loop-i : goal.invariant-loop-i
invariant-loop-i l = first_of l.i (λ j. not (segment_fits (set_with l.breaks l.coefficients l.n l.m l.at) j)) ≡ l.i
