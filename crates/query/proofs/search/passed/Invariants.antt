-- Of the breaks tried so far the first c are at or below x, and the others are not.
use Rattle.query.proofs.Searching.{Passing}
use Rattle.query.proofs.search.passed.Given as goal

abbrev pub invariant-loop-j : goal.invariant-loop-j
invariant-loop-j l = Passing l.breaks l.x l.base l.step l.j l.c
