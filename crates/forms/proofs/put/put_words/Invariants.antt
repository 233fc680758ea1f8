-- The cells from here on, put from here on, give the whole.
use Rattle.std.proofs.Common.{◌≡◌, length}
use Rattle.forms.proofs.Putting.{Left}
use Rattle.forms.proofs.put.put_words.Given as goal

abbrev pub invariant-loop-i : goal.invariant-loop-i
invariant-loop-i l = (length l.file ≡ length l.initial.file) × Left l.initial.file l.at l.cells l.file l.i
