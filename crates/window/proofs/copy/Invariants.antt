use Rattle.std.proofs.Common.{◌≡◌, ◌++◌, length, take, drop}
use Rattle.window.proofs.copy.Given as goal

-- the first i cells are the source's, the others as at entry
abbrev pub invariant-loop-i : goal.invariant-loop-i
invariant-loop-i l = (length l.dst ≡ length l.fn.dst) × (l.dst ≡ take l.i l.src ++ drop l.i l.fn.dst)
