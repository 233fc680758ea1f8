-- Each of the first i axes is below d and none of those before it.
use Rattle.std.proofs.Common.{◌≡◌, not}
use Rattle.arith.specs.First.{first_of}
use Rattle.curve.proofs.Placing.{axis_good}
use Rattle.curve.proofs.form.axes_formed.Given as goal

abbrev pub invariant-loop-i : goal.invariant-loop-i
invariant-loop-i l = first_of l.i (λ j. not (axis_good l.axes l.d j)) ≡ l.i
