-- The widths of the first i segments are written.
use Rattle.std.proofs.Common.{◌≡◌, length}
use Rattle.window.specs.Rows.{list_of, written}
use Rattle.curve.specs.Form.{width_of}
use Rattle.lane_file.specs.Curves.{pattern_of}
use Rattle.lane_file.proofs.cells.put_widths.Given as goal

abbrev pub invariant-loop-i : goal.invariant-loop-i
invariant-loop-i l =
    (length l.cells ≡ length l.initial.cells)
    × (l.cells ≡ written l.from (list_of l.i (λ j. pattern_of (width_of l.breaks j))) l.initial.cells)
