-- The first i cells are the numbers of the bytes, the others as at entry.
use Rattle.std.proofs.Common.{◌≡◌, ◌++◌, drop}
use Rattle.encoding.specs.Bytes.{floats_of}
use Rattle.encoding.proofs.floats.Given as goal

abbrev pub invariant-loop-i : goal.invariant-loop-i
invariant-loop-i l = l.cells ≡ floats_of l.i l.bytes ++ drop l.i l.fn.cells
