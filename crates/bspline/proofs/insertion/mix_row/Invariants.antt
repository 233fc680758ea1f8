use Rattle.std.proofs.Common.{◌≡◌, ◌+◌, ◌-◌}
use Rattle.arith.specs.Operations.{floats}
use Rattle.window.specs.Rows.{list_of, written}
use lib.ListN.{get_or}
use lib.Ieee.{nan}
use Rattle.bspline.specs.Insertion.{mixed}
use Rattle.bspline.proofs.insertion.mix_row.Given as goal

-- the first j axes are mixed, the other cells as at entry
abbrev pub invariant-loop-j : goal.invariant-loop-j
invariant-loop-j l =
    l.c ≡ written l.at (list_of l.j (λ i. mixed floats l.a (get_or l.fn.c (l.at - l.d + i) nan) (get_or l.fn.c (l.at + i) nan))) l.fn.c
