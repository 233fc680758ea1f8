-- No axis passed is above.
use Rattle.std.proofs.Common.{◌≡◌, false}
use Rattle.request.specs.Any.{any}
use Rattle.refinement.proofs.Locating.{test}
use Rattle.refinement.proofs.locations.is_selected.Given as goal

abbrev pub invariant-loop-a : goal.invariant-loop-a
invariant-loop-a l = any l.a (test l.bounds l.i l.d) ≡ false
