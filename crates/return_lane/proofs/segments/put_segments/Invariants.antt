-- The first i segments are written.
use Rattle.std.proofs.Common.{ℕ, ◌+◌, ◌-◌, List}
use lib.Ieee.{Float}
use Rattle.return_lane.specs.Return.{return_segment}
use Rattle.return_lane.proofs.Rows.{RowsPut}
use Rattle.return_lane.proofs.segments.put_segments.Given as goal

-- segment i, from the end
abbrev pub row : ℕ → ℕ → List Float → ℕ → List Float
row m n p i = return_segment m p (n - (i + 1))

abbrev pub invariant-loop-i : goal.invariant-loop-i
invariant-loop-i l = RowsPut 0 l.i (row l.m l.n l.p) l.fn.cells l.cells
