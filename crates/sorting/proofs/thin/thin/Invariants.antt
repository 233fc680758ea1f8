use Rattle.std.proofs.Common.{◌≡◌, ◌≤◌, Bool, Option}
use lib.Ieee.{Float}
use Rattle.sorting.specs.Thin.{last_of}
use Rattle.sorting.proofs.Thinning.{Walked}
use Rattle.sorting.proofs.thin.thin.Given as goal

-- for any test that the closure decides, the walk has come to element i
abbrev pub invariant-loop-i : goal.invariant-loop-i
invariant-loop-i g l =
    (l.kept ≤ l.i) × (l.last ≡ last_of l.kept l.s)
    × ((test : Option Float → Float → Bool)
    → ((last : Option Float) (x : Float) (b : Bool) → goal.F-post g l.keeps last x b → b ≡ test last x)
    → Walked test l.fn.s l.s l.kept l.i)
