-- None of the first i parameters is refused.
use Rattle.std.proofs.Common.{◌≡◌, is_none}
use Rattle.window.specs.Cells.{at}
use Rattle.arith.specs.First.{first_of}
use Rattle.query.specs.Range.{ranged_of}
use Rattle.query.proofs.entry.first_refused.Given as goal

abbrev pub invariant-loop-i : goal.invariant-loop-i
invariant-loop-i l = first_of l.i (λ j. is_none (ranged_of l.fn.curve (at l.xs j))) ≡ l.i
