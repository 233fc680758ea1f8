-- The first k coefficients are in their cells.
use Rattle.std.proofs.Common.{◌≡◌, ◌++◌, map, take, drop}
use Rattle.lane_file.specs.Curves.{number_of}
use Rattle.lane_totals.proofs.segments.powers_at.Given as goal

abbrev pub invariant-loop-k : goal.invariant-loop-k
invariant-loop-k l = l.cells ≡ take l.k (drop l.from (map number_of l.coefficients)) ++ drop l.k l.initial.cells
