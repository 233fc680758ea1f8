use Rattle.std.proofs.Common.{ap, arith}
use Rattle.normal.specs.Add.{row_of}
use Rattle.normal.specs.declared.Row.{Row}
use Rattle.replay_systems.proofs.systems.add_row.Goals as goal

-- the row starts where it was found
pub add-requires : goal.add-requires
unfolding row_of
add-requires c =
    let start = ap (λ (r : Row). r.start) c.fitting_row-row.ensures in
    omega arith
