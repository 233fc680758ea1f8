-- A line for each of the first errors was put.
use Rattle.std.proofs.Common.{◌≡◌, ◌++◌, ◌+◌, ◌*◌, ◌≤◌, length, take}
use Rattle.lane.specs.Printed.{error_lines}
use Rattle.lane.proofs.lines.error_lines.Given as goal

abbrev pub invariant-loop-error : goal.invariant-loop-error
invariant-loop-error l =
    (l.next ≤ l.at + 17 * l.error-index) × (length l.out ≡ length l.fn.out)
    × (take l.next l.out ≡ take l.at l.fn.out ++ error_lines (take l.error-index l.errors))
