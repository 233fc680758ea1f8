-- The first i + 1 cells are written, and `current` is parameter i.
use Rattle.std.proofs.Common.{◌≡◌, ◌+◌, true}
use Rattle.window.specs.Cells.{at}
use Rattle.curve.proofs.Putting.{Put}
use Rattle.request.specs.Parameters.{parameter_list}
use Rattle.gathering.proofs.parameters.put_list.Given as goal

abbrev pub invariant-loop-i : goal.invariant-loop-i
invariant-loop-i l =
    let p = parameter_list l.spacing l.list l.points l.d l.n in
    (l.current ≡ at p l.i) × Put true 0 (l.i + 1) (at p) l.fn.cells l.cells
