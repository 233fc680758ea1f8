use Rattle.std.proofs.Common.{◌+◌, ◌*◌, ◌<◌, length, ℕ, sym, ◌∙◌, arith}
use Rattle.arith.proofs.Loops.{each_done, each_turn}
use Rattle.arith.proofs.Rows.{rows_le}
use Rattle.bspline.specs.Segments.{add_row, segment_of}
use Rattle.bspline.proofs.segments.segment.Goals as goal

-- control r of the span's six lies within the controls
within : (r at d n : ℕ) → r < 6 → at + 5 * d < n → at + r * d < n
within r at d n h g = let e = rows_le r 5 d (5 * d) (omega arith) (omega arith) in omega arith

pub overflow_mul-r : goal.overflow_mul-r
overflow_mul-r c = omega (arith, within c.loop-r.r c.args.at c.args.d (length c.args.c.now) (omega arith) (omega arith))

pub overflow_add-at : goal.overflow_add-at
overflow_add-at c = omega (arith, within c.loop-r.r c.args.at c.args.d (length c.args.c.now) (omega arith) (omega arith))

pub offset_bounds-c-at : goal.offset_bounds-c-at
offset_bounds-c-at c = omega (arith, within c.loop-r.r c.args.at c.args.d (length c.args.c.now) (omega arith) (omega arith))

pub bounds-c-at : goal.bounds-c-at
bounds-c-at c = omega (arith, within c.loop-r.r c.args.at c.args.d (length c.args.c.now) (omega arith) (omega arith))

pub loop-r-preserved : goal.loop-r-preserved
unfolding add_row
loop-r-preserved c = rw c.add_row.ensures (sym (each_turn _ _ _ _ (omega arith)) ∙ c.loop-r.invariant)

pub returns : goal.returns
unfolding segment_of
returns c =
    let e = sym (each_done _ _ _ _ (omega arith)) ∙ c.loop-r.invariant in
    c.scale_by.ensures ∙ rw e
