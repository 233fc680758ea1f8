-- The first a axes are written.
use Rattle.std.proofs.Common.{◌+◌, ◌*◌, ℕ, List}
use lib.Ieee.{Float}
use Rattle.arith.specs.Operations.{floats}
use Rattle.window.specs.Cells.{at}
use Rattle.window.specs.Rows.{list_of}
use Rattle.return_lane.specs.Segment.{return_coefficient}
use Rattle.return_lane.proofs.Rows.{RowsPut}
use Rattle.return_lane.proofs.segments.put_segment.Given as goal

-- the six of axis a
abbrev pub row : ℕ → List Float → ℕ → ℕ → List Float
row m p i a = list_of 6 (λ k. return_coefficient floats (λ j. at p (6 * (i * m + a) + j)) k)

abbrev pub invariant-loop-a : goal.invariant-loop-a
invariant-loop-a l = RowsPut l.to l.a (row l.m l.p l.i) l.fn.cells l.cells
