-- `inside` of the first i parameters are not outside.
use Rattle.std.proofs.Common.{Bool, ◌&&◌, List, Float, ℕ}
use Rattle.std.specs.Float.Ieee.{le}
use Rattle.window.specs.Cells.{at}
use Rattle.curve.proofs.Counting.{Counted}
use Rattle.query.proofs.range.all_inside.Given as goal

-- parameter j is not outside start to end
abbrev pub inside_at : List Float → Float → Float → ℕ → Bool
inside_at xs start end j = le start (at xs j) && le (at xs j) end

abbrev pub invariant-loop-i : goal.invariant-loop-i
invariant-loop-i l = Counted (inside_at l.xs l.start l.end) l.i l.inside
