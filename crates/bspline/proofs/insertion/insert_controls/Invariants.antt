use Rattle.std.proofs.Common.{◌≡◌, ◌+◌, ◌*◌, ◌≤◌, length}
use Rattle.arith.specs.Operations.{floats}
use mathlib.Core.List.{List}
use lib.Ieee.{Float}
use Rattle.window.specs.Window.{window, splice}
use Rattle.bspline.specs.Insertion.{weight_at}
use Rattle.bspline.proofs.Inserted.{Mixing}
use Rattle.bspline.proofs.insertion.insert_controls.Given as goal

-- whatever list was shifted, the controls from i on are as they are to be, and those below as they were
abbrev pub invariant-loop-i : goal.invariant-loop-i
invariant-loop-i l =
    (l.low ≤ l.i)
    × ((old : List Float) → (l.m + 1) * l.d ≤ length old
    → l.initial.c ≡ splice (l.k * l.d + l.d) (l.m * l.d + l.d) (window (l.k * l.d) (l.m * l.d) old) old
    → Mixing floats (weight_at floats l.w l.k) l.d l.m l.k old l.i l.c)
