-- The parameters up to i are finite, and none is at or below the one before it.
use Rattle.std.proofs.Common.{◌≡◌}
use Rattle.window.specs.Cells.{at}
use Rattle.request.specs.Parameters.{parameter_list}
use Rattle.request.proofs.InPlace.{InPlace}
use Rattle.request.proofs.parameters.tested.Given as goal

abbrev pub invariant-loop-i : goal.invariant-loop-i
invariant-loop-i l =
    let p = parameter_list l.spacing l.list l.points l.d l.n in
    (l.previous ≡ at p l.i) × InPlace (at p) l.i
