-- `pieces::node_row` meets its contract: the parts are long enough, and the constants are the definition's.
use Rattle.std.proofs.Common.{arith, rules}
use lib.Ieee.{of_bits, round}
use Rattle.fitting_rows.specs.Pieces.{node_row_of}
use Rattle.fitting_rows.proofs.Rooms.{knots_length, controls_length, parameters_length, points_length}
use Rattle.fitting_rows.proofs.pieces.node_row.Statement.{statement}
use Rattle.fitting_rows.proofs.pieces.node_row.Tie as tie

mul-x : tie.Need-offset_bounds-r
mul-x c = search rules

array-read-x : tie.Need-bounds-r
array-read-x c = search rules

mul-weight : tie.Need-offset_bounds-r-2
mul-weight c = search rules

array-read-weight : tie.Need-bounds-r-2
array-read-weight c = search rules

add-t-end : tie.Need-overflow_add-t_end
add-t-end c = search rules

add-t-end-2 : tie.Need-overflow_add-t_end-2
add-t-end-2 c = search rules

mul-c-end : tie.Need-overflow_mul-c_end
mul-c-end c = search rules

add-c-end : tie.Need-overflow_add-c_end
add-c-end c = search rules

add-s-end : tie.Need-overflow_add-s_end
add-s-end c = search rules

mul-y-end : tie.Need-overflow_mul-y_end
mul-y-end c = search rules

add-y-end : tie.Need-overflow_add-y_end
add-y-end c = search rules

mul-row-at : tie.Need-offset_bounds-cells-t
mul-row-at c = search rules

sub-row-at : tie.Need-slice_bounds-row_at-count
sub-row-at c = search rules

part-row-at-start : tie.Need-slice_bounds-row_at-start
part-row-at-start c = search rules

part-row-at-end : tie.Need-slice_bounds-row_at-end
part-row-at-end c = search rules

mul-row-at-2 : tie.Need-offset_bounds-cells-c
mul-row-at-2 c = search rules

sub-row-at-2 : tie.Need-slice_bounds-row_at-count-2
sub-row-at-2 c = search rules

part-row-at-start-2 : tie.Need-slice_bounds-row_at-start-2
part-row-at-start-2 c = search rules

part-row-at-end-2 : tie.Need-slice_bounds-row_at-end-2
part-row-at-end-2 c = search rules

mul-row-at-3 : tie.Need-offset_bounds-cells-s
mul-row-at-3 c = search rules

sub-row-at-3 : tie.Need-slice_bounds-row_at-count-3
sub-row-at-3 c = search rules

part-row-at-start-3 : tie.Need-slice_bounds-row_at-start-3
part-row-at-start-3 c = search rules

part-row-at-end-3 : tie.Need-slice_bounds-row_at-end-3
part-row-at-end-3 c = search rules

mul-row-at-4 : tie.Need-offset_bounds-cells-y
mul-row-at-4 c = search rules

sub-row-at-4 : tie.Need-slice_bounds-row_at-count-4
sub-row-at-4 c = search rules

part-row-at-start-4 : tie.Need-slice_bounds-row_at-start-4
part-row-at-start-4 c = search rules

part-row-at-end-4 : tie.Need-slice_bounds-row_at-end-4
part-row-at-end-4 c = search rules

row-at-requires : tie.Need-row_at-requires
row-at-requires c κs =
    let p = c.args.p in
    let l = c.args.cells.now in
    let h = c.requires.0 in
    let t = knots_length p l h in
    let k = controls_length p l h in
    let n = parameters_length p l h in
    let y = points_length p l h in
    ((h.0, omega arith, omega arith), (h.2, h.1, omega arith, omega arith))

returns : tie.Need-returns
unfolding node_row_of of_bits round
returns c = c.row_at.ensures

pub node_row_spec : {M : Type 1} → statement M
node_row_spec =
    tie.close
    (tie.spec
    mul-x
    array-read-x
    mul-weight
    array-read-weight
    add-t-end
    add-t-end-2
    mul-c-end
    add-c-end
    add-s-end
    mul-y-end
    add-y-end
    mul-row-at
    sub-row-at
    part-row-at-start
    part-row-at-end
    mul-row-at-2
    sub-row-at-2
    part-row-at-start-2
    part-row-at-end-2
    mul-row-at-3
    sub-row-at-3
    part-row-at-start-3
    part-row-at-end-3
    mul-row-at-4
    sub-row-at-4
    part-row-at-start-4
    part-row-at-end-4
    row-at-requires
    returns)
