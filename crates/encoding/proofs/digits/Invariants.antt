-- The i digits left of what is left of the number, before the digits there are, are all its digits.
use Rattle.std.proofs.Common.{◌≡◌, [], drop, length}
use Rattle.encoding.specs.Text.{hex_digits}
use Rattle.encoding.proofs.digits.Given as goal

abbrev pub invariant-loop-i : goal.invariant-loop-i
invariant-loop-i l = (length l.bytes ≡ 16) × (hex_digits l.i l.rest (drop l.i l.bytes) ≡ hex_digits 16 l.bits [])
