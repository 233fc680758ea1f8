-- Where the walk stands, what is left to do gives the figure, and `current` is the parameter where the interval ends. The measure: the
-- intervals and segments left.
use Rattle.std.proofs.Common.{◌≡◌, ◌+◌, ◌-◌, ◌<◌, length}
use Rattle.window.specs.Cells.{at}
use Rattle.request.specs.Parameters.{parameter_list}
use Rattle.certificate.specs.Structs.{figure_in}
use Rattle.certificate.proofs.Standing.{Standing}
use Rattle.certificate.proofs.walk.walk.Given as goal

abbrev pub invariant-loop-i : goal.invariant-loop-i
invariant-loop-i l = record {
  standing : Standing l.breaks l.coefficients l.k l.place l.points l.d l.axis l.n l.spacing l.parameters l.depth l.i l.m l.from l.to
      (figure_in l.so_far);
  current : l.i + 1 < l.n → l.current ≡ at (parameter_list l.spacing l.parameters l.points l.d l.n) (l.i + 1);
}

abbrev pub decreases-loop-i : goal.decreases-loop-i
decreases-loop-i l = l.n - l.i + (length l.breaks - l.m)
