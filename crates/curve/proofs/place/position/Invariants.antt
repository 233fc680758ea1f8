-- None of the first i axes is the one looked for.
use Rattle.std.proofs.Common.{◌≡◌, eqb, get_or}
use Rattle.arith.specs.First.{first_of}
use Rattle.curve.proofs.place.position.Given as goal

abbrev pub invariant-loop-i : goal.invariant-loop-i
invariant-loop-i l = first_of l.i (λ j. eqb (get_or l.axes j 0) l.a) ≡ l.i
