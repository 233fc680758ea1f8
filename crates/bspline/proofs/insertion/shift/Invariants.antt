use Rattle.std.proofs.Common.{◌≡◌, ◌≤◌}
use Rattle.window.proofs.Written.{moved}
use Rattle.bspline.proofs.insertion.shift.Given as goal

-- the cells from i on have moved
abbrev pub invariant-loop-i : goal.invariant-loop-i
invariant-loop-i l = (l.from ≤ l.i) × (l.s ≡ moved l.fn.s l.n l.by l.i)
