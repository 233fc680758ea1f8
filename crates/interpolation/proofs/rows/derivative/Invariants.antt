-- The functions left, from the values so far, give all values.
use Rattle.std.proofs.Common.{◌≡◌, ℕ, ◌+◌, ◌*◌, List, [], set}
use lib.Ieee.{Float, binary64, mul}
use Rattle.arith.specs.Loop.{each}
use Rattle.window.specs.Cells.{at}
use Rattle.smoothing.specs.Interpolate.{derivative_of}
use Rattle.interpolation.proofs.rows.derivative.Given as goal

-- one function
abbrev pub turn : List Float → ℕ → Float → Float → ℕ → List Float → List Float
turn rows r factorial scale i v = set v i (mul binary64 (mul binary64 (at rows (6 * i + r)) factorial) scale)

abbrev pub invariant-loop-i : goal.invariant-loop-i
invariant-loop-i l =
    each (turn l.powers l.r l.factorial l.scale) l.i 6 l.values ≡ derivative_of 0 0 [] [] l.powers l.h l.r
