-- Up to i, no normalised parameter is at or below the one before it.
use Rattle.std.proofs.Common.{◌≡◌, ◌+◌, false}
use lib.Ieee.{le}
use Rattle.window.specs.Cells.{at}
use Rattle.request.specs.Any.{any}
use Rattle.request.specs.Parameters.{normalised_of, parameter_list}
use Rattle.request.proofs.parameters.falls.Given as goal

abbrev pub invariant-loop-i : goal.invariant-loop-i
invariant-loop-i l =
    let p = parameter_list l.spacing l.list l.points l.d l.n in
    (l.current ≡ at p l.i) × (l.previous ≡ normalised_of p l.n l.i)
    × (any l.i (λ j. le (normalised_of p l.n (j + 1)) (normalised_of p l.n j)) ≡ false)
