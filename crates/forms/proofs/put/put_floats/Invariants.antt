-- The cells from here on, put from here on, give the whole.
use Rattle.std.proofs.Common.{◌≡◌, length, map}
use lib.Ieee.{binary64, to_bits}
use Rattle.forms.proofs.Putting.{Left}
use Rattle.forms.proofs.put.put_floats.Given as goal

abbrev pub invariant-loop-i : goal.invariant-loop-i
invariant-loop-i l =
    (length l.file ≡ length l.initial.file) × Left l.initial.file l.at (map (λ x. to_bits binary64 x) l.cells) l.file l.i
