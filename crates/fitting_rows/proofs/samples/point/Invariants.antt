-- The axes left, from the cells so far, give all cells.
use Rattle.std.proofs.Common.{◌≡◌, ℕ, ◌+◌, ◌*◌, List, set}
use lib.Ieee.{Float}
use Rattle.arith.specs.Loop.{each}
use Rattle.window.specs.Cells.{at}
use Rattle.fitting_rows.specs.Samples.{point_of}
use Rattle.fitting_rows.proofs.samples.point.Given as goal

-- one axis
abbrev pub turn : List Float → ℕ → ℕ → ℕ → List Float → List Float
turn y d i axis r = set r axis (at y (i * d + axis))

abbrev pub invariant-loop-axis : goal.invariant-loop-axis
invariant-loop-axis l = each (turn l.y l.d l.i) l.axis l.d l.cells ≡ point_of l.y l.d l.i
