use Rattle.std.proofs.Common.{◌≡◌, ◌+◌, ◌≤◌, length, ℕ}
use mathlib.Core.Bool.{Bool}
use lib.Ieee.{Float, nan}
use Rattle.arith.specs.Loop.{whilst}
use Rattle.bspline.specs.Search.{halve, several}
use Rattle.bspline.proofs.search.bisect.Given as goal

-- the halvings left, from the part now, give what all give; there are at least as many as elements
abbrev pub invariant-loop-size : goal.invariant-loop-size
invariant-loop-size g l =
    (1 ≤ l.size) × (l.base + l.size ≤ length l.list) × ((test : Float → Bool)
    → ((v : Float) (b : Bool) → goal.F-post g l.passes v b → b ≡ test v)
    → (n : ℕ) × (l.size ≤ n) × (whilst several (halve nan test l.list) n (record { base = l.base; size = l.size })
    ≡ whilst several (halve nan test l.list) (length l.list) (record { base = 0; size = length l.list })))

abbrev pub decreases-loop-size : goal.decreases-loop-size
decreases-loop-size g l = l.size
