-- The functions left, from the values so far, give all values.
use Rattle.std.proofs.Common.{◌≡◌, ℕ, ◌+◌, ◌*◌, List, set}
use lib.Ieee.{Float, binary64, mul}
use Rattle.arith.specs.Loop.{each}
use Rattle.arith.specs.Operations.{floats}
use Rattle.window.specs.Cells.{at}
use Rattle.fitting_rows.specs.Penalty.{third_of}
use Rattle.fitting_rows.proofs.penalty.third.Given as goal

-- one function
abbrev pub turn : List Float → ℕ → List Float → List Float
turn powers i b = set b i (mul binary64 (floats.literal 6 1) (at powers (6 * i + 3)))

abbrev pub invariant-loop-i : goal.invariant-loop-i
invariant-loop-i l = each (turn l.powers) l.i 6 l.values ≡ third_of l.powers
