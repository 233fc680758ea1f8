-- The first i axes were put, one after the other.
use Rattle.std.proofs.Common.{◌≡◌, ◌+◌, ◌*◌, ◌≤◌, length, take}
use Rattle.forms.specs.Form.{groups, write_all}
use Rattle.forms.proofs.Putting.{Put}
use Rattle.lane_file.proofs.put.put_axes.Given as goal

abbrev pub invariant-loop-i : goal.invariant-loop-i
invariant-loop-i l =
    (length l.file ≡ length l.initial.file) × (l.next ≤ l.at + 3 * l.i)
    × Put l.at (write_all groups (take l.i l.axes)) l.initial.file l.file l.next
