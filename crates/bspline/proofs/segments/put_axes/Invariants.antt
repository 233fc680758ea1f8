use Rattle.std.proofs.Common.{◌≡◌, ◌+◌, length}
use Rattle.arith.specs.Operations.{floats}
use Rattle.window.specs.Window.{window}
use Rattle.window.specs.Rows.{join, written}
use Rattle.bspline.specs.Segments.{segment_of}
use Rattle.bspline.proofs.segments.put_axes.Given as goal

-- the first i segments are written, the other cells as at entry
abbrev pub invariant-loop-i : goal.invariant-loop-i
invariant-loop-i l =
    (length l.work ≡ length l.fn.work)
    × (l.work ≡ written l.to (join l.i (λ k. segment_of floats l.rows l.h (window l.c l.e l.fn.work) (l.at + k) l.d)) l.fn.work)
