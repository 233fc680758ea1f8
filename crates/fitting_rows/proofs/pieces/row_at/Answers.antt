use Rattle.std.proofs.Common.{◌+◌, ◌-◌, ◌≤◌, ◌<◌, length, arith}
use Rattle.fitting_rows.specs.Pieces.{row_at}
use Rattle.arith.proofs.Rows.{rows_le, row_end}
use Rattle.bspline.proofs.InsertPlaced.{span_within}
use Rattle.fitting_rows.proofs.Rooms.{interval_within}
use Rattle.fitting_rows.proofs.pieces.row_at.Goals as goal

pub line-target-requires : goal.line-target-requires
line-target-requires c =
    let a = c.args in
    let h = c.requires.d_bound in
    let i = c.interval-i.result in
    let e : i + 1 < a.n = rw c.interval-i.ensures (interval_within a.s.now a.n a.x h.1) in
    let w : i + 1 < length a.s.now = omega arith in
    (h.0, w, row_end (i + 1) a.n a.d (length a.y.now) e h.3)

pub fitting_row-requires : goal.fitting_row-requires
fitting_row-requires c =
    let a = c.args in
    let h = c.requires.le_m in
    let k = c.span-span.result in
    let b = span_within a.t.now a.m a.x h.0 in
    let low : 5 ≤ k = rw c.span-span.ensures b.0 in
    let high : k < a.m = rw c.span-span.ensures b.1 in
    let e : k - 5 + 6 ≤ a.m = omega arith in
    (c.requires.d_bound.0, rows_le (k - 5 + 6) a.m a.d (length a.c.now) e h.2)

pub returns : goal.returns
unfolding row_at
returns c =
    rw c.fitting_row.ensures
    (rw (
      c.values-basis.ensures,
      c.line-target.ensures,
      c.span-span.ensures,
      c.interval-i.ensures,
    ))
