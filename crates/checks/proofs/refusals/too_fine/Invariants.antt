-- None of the first a axes has a coordinate that exceeds its bound.
use mathlib.Core.Path.{◌≡◌}
use mathlib.Core.Bool.{Bool, false}
use mathlib.Core.List.{List}
use Prim.Native.Nat.{ℕ}
use lib.ListN.{get_or}
use lib.Ieee.{Float}
use Rattle.window.specs.Cells.{at}
use Rattle.request.specs.Any.{any}
use Rattle.smoothing.specs.Checks.{most_of, exceeds}
use Rattle.checks.proofs.refusals.too_fine.Given as goal

-- axis j of the cells, with bound j, has a coordinate that exceeds it
abbrev pub tried : List Float → ℕ → ℕ → List ℕ → List Float → ℕ → Bool
tried points d n cells bounds j = exceeds points d n (get_or cells j 0) (most_of (at bounds j))

abbrev pub invariant-loop-a : goal.invariant-loop-a
invariant-loop-a l = any l.a (tried l.r.points.now l.r.d l.r.n l.c.axes l.bounds) ≡ false
