-- `kept` of the first i segments have breaks that rise and the width of these.
use Rattle.curve.proofs.Counting.{Counted}
use Rattle.curve.proofs.Shaped.{formed_at}
use Rattle.curve.proofs.form.segments_formed.Given as goal

abbrev pub invariant-loop-i : goal.invariant-loop-i
invariant-loop-i l = Counted (formed_at l.breaks l.cells l.from) l.i l.kept
