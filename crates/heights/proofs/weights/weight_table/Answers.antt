-- One test of the constant's 1,542 entries against their formula.
use Rattle.std.proofs.Common.{refl}
use Rattle.window.specs.Rows.{table, join}
use Rattle.heights.specs.Weights.{weight_table}
use Rattle.heights.proofs.Rows.{row_total_law, same_is}
use Rattle.heights.proofs.weights.weight_table.Goals as goal

pub returns : goal.returns
unfolding weight_table table join
returns c =
    let e = same_is _ weight_table refl in
    record { cells_value = e; by_index = row_total_law _ e }
