use Rattle.std.proofs.Common.{◌≡◌}
use Rattle.arith.specs.Operations.{floats}
use Rattle.arith.specs.Loop.{each}
use Rattle.bspline.specs.Powers.{row_turn}
use Rattle.bspline.proofs.basis.raise_rows.Given as goal

-- the rows left, from the table now, give the table of degree j but for its last row
abbrev pub invariant-loop-r : goal.invariant-loop-r
invariant-loop-r l =
    each (row_turn floats l.t l.span l.x l.j) l.r l.j (record { rows = l.b; saved = l.saved })
    ≡ each (row_turn floats l.t l.span l.x l.j) 0 l.j (record { rows = l.initial.b; saved = l.initial.saved })
