-- The corridor's arrays have sixteen cells, of which the first d are the axes'.
use mathlib.Core.Path.{◌≡◌, refl, ap}
use mathlib.Core.Bool.{not}
use mathlib.Core.List.{List, ◌∷◌}
use Prim.Native.Nat.{ℕ, zero, suc, ◌+◌, ◌-◌, ◌≤◌, ◌<◌}
use native.Mathlib.Decide.{dec_lt}
use native.Mathlib.Omega.{arith}
use borrow.Author.Tests.{lt-ltb, le-ltb, eq-eqb, ne_eqb}
use lib.Dec.{ltb, eqb}
use lib.ListN.{take, replicate}
use lib.Seq.{get_or-take, take-set-lt}
use lib.Ieee.{Float, nan}
use Rattle.seed.specs.Corridor.{Corridor, corridor, axis_turn}

-- the first d cells of both bounds
abbrev pub cut : ℕ → Corridor → Corridor
cut d c = corridor (take d c.lo) (take d c.hi) c.ok

-- a turn on the first cells is a turn on all
pub turn_cut : (s y : List Float) (d anchor i j : ℕ) (c : Corridor) → j < d → axis_turn s y d anchor i j (cut d c)
    ≡ cut d (axis_turn s y d anchor i j c)
unfolding axis_turn
turn_cut s y d anchor i j c h = rw (
  get_or-take d c.lo j nan h,
  get_or-take d c.hi j nan h,
  take-set-lt d c.lo j _ h,
  take-set-lt d
      c.hi j _ h,
)

pub take_replicate : (d n : ℕ) (v : Float) → d ≤ n → take d (replicate n v) ≡ replicate d v
take_replicate zero n v h = refl
take_replicate (suc d) zero v h = absurd (omega arith)
take_replicate (suc d) (suc n) v h = ap (λ (l : List Float). v ∷ l) (take_replicate d n v (omega arith))

-- more than one waypoint after the anchor
pub later : (a i : ℕ) → a < i → ltb 1 (i - a) ≡ not (eqb i (a + 1))
later a i h = elim (dec_lt 1 (i - a)) [
  | yes g ↦ rw (lt-ltb 1 (i - a) g, ne_eqb i (a + 1) (λ e. omega arith))
  | no g ↦ rw (le-ltb 1 (i - a) (omega arith), eq-eqb i (a + 1) (omega arith))
]
