use Rattle.std.proofs.Common.{◌+◌, sym, arith}
use lib.Ieee.{nan}
use Rattle.window.specs.Cells.{at}
use Rattle.fitting_rows.specs.Arrays.{arrays_at}
use Rattle.window.proofs.Windows.{window_cell}
use Rattle.fitting_rows.proofs.Rooms.{span_controls, sample_point}
use Rattle.interpolation.proofs.Turns.{found_within, waypoint_row_is}
use Rattle.interpolation.proofs.rows.waypoint_row.Goals as goal

pub point-target-requires : goal.point-target-requires
point-target-requires c =
    (c.requires.0.2, sample_point c.args.q c.args.cells.now c.requires.0 c.args.i c.requires.1)

pub overflow_sub-span : goal.overflow_sub-span
overflow_sub-span c =
    (found_within _ c.args.q.count _ _ c.requires.0.0 c.span-span.ensures).0

pub fitting_row-requires : goal.fitting_row-requires
fitting_row-requires c =
    let q = c.args.q in
    let w = c.args.cells.now in
    let k = c.span-span in
    let i = found_within (arrays_at q w).t q.count (at w (q.parameters + c.args.i)) k.result c.requires.0.0 k.ensures in
    (c.requires.0.2, span_controls q w c.requires.0 k.result i.0 i.1)

pub returns : goal.returns
returns c =
    let q = c.args.q in
    let w = c.args.cells.now in
    let i = c.args.i in
    let y = c.point-target in
    let b = c.values-basis in
    let k = c.span-span in
    let u = sym (window_cell q.parameters (q.parameters + q.samples) w i nan (omega arith)) in
    waypoint_row_is (arrays_at q w) i k.result (at w (q.parameters + i)) b.result y.result c.fitting_row.result
    u k.ensures b.ensures y.ensures c.fitting_row.ensures
