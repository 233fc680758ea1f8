-- The value is that of the bytes from i on, and fits in as many bytes.
use Rattle.std.proofs.Common.{◌≡◌, ◌-◌, ◌*◌, ◌^◌, ◌<◌, length, drop}
use Rattle.encoding.specs.Bytes.{low_first}
use Rattle.encoding.proofs.whole.Given as goal

abbrev pub invariant-loop-i : goal.invariant-loop-i
invariant-loop-i l = (l.value ≡ low_first (drop l.i l.bytes)) × (l.value < 2 ^ (8 * (length l.bytes - l.i)))
