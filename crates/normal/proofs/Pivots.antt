-- One row of the factor: what becomes of its pivot.
use mathlib.Core.Path.{◌≡◌}
use mathlib.Core.Bool.{true, false}
use mathlib.Core.List.{List}
use Prim.Native.Nat.{ℕ, ◌*◌}
use lib.ListN.{set}
use lib.Ieee.{Float, binary64}
use Rattle.float.specs.Root.{sqrt_of}
use Rattle.arith.specs.Loop.Step.{next, stop}
use Rattle.normal.specs.Solve.{unfit_of, reduced_of, eliminated_of, pivot_of}

module _ (i : ℕ) (h : List Float) (v : Float) (e : v ≡ reduced_of (eliminated_of i h) i i) where
  -- an unfit pivot ends the work
  pub pivot_stop : unfit_of true v ≡ true → pivot_of i h ≡ stop (record { whole = false; band = eliminated_of i h })
  unfolding pivot_of
  pivot_stop t = rw (← e, t)

  -- any other becomes its root
  pub pivot_next : unfit_of true v ≡ false → pivot_of i h ≡ next (set (eliminated_of i h) (6 * i) (sqrt_of binary64 v))
  unfolding pivot_of
  pivot_next t = rw (← e, t)
