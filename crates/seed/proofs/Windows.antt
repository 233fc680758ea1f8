-- The windows that `regions` gives: at most one for each location, and none with the first or the last control.
use mathlib.Core.Bool.{Bool, true, false, cond}
use mathlib.Core.List.{List, [], ◌∷◌}
use Prim.Native.Nat.{ℕ, ◌+◌, ◌-◌, ◌≤◌, max}
use native.Mathlib.Omega.{arith}
use lib.Dec.{leb}
use lib.ListN.{length}
use lib.Ieee.{Float}
use Rattle.seed.specs.Regions.{Range, range, range_of, merged, regions_of}

joined_few : (t : List Float) (m : ℕ) (last : Range) (x : List Float) → length (merged t m last x) ≤ length x + 1
unfolding merged
joined_few t m last [] = omega arith
joined_few t m last (x ∷ rest) =
    let r = range_of t m x in
    let wider = range last.a (max last.z r.z) in
    go (merged t m wider rest) (merged t m r rest) (leb r.a (last.z + 5)) (joined_few t m wider rest) (joined_few t m r rest)
  where
    go : (p q : List Range) (b : Bool) → length p ≤ length rest + 1 → length q ≤ length rest + 1
        → length (cond b p (last ∷ q)) ≤ length (x ∷ rest) + 1
    go p q true h k = omega arith
    go p q false h k = omega arith

pub regions_few : (t : List Float) (m : ℕ) (x : List Float) → length (regions_of t m x) ≤ length x
unfolding regions_of
regions_few t m [] = omega arith
regions_few t m (x ∷ rest) = omega (arith, joined_few t m (range_of t m x) rest)

-- ---- none holds the first or the last control
abbrev pub Inner : ℕ → Range → Type 0
Inner m r = (1 ≤ r.a) × (r.z ≤ m - 1)

abbrev pub Inners : ℕ → List Range → Type 0
Inners m [] = Unit {0}
Inners m (r ∷ l) = Inner m r × Inners m l

joined_inner : (t : List Float) (m : ℕ) (last : Range) (x : List Float) → Inner m last → Inners m (merged t m last x)
unfolding merged range_of
joined_inner t m last [] h = (h, tt)
joined_inner t m last (x ∷ rest) h =
    let r = range_of t m x in
    let w = range last.a (max last.z r.z) in
    let i : Inner m r = (omega arith, omega arith) in
    go (leb r.a (last.z + 5)) (joined_inner t m w rest (h.0, wider last.z r.z (m - 1) h.1 i.1)) (joined_inner t m r rest i)
  where
    wider : (a b c : ℕ) → a ≤ c → b ≤ c → max a b ≤ c
    wider a b c h k = omega arith

    go : (b : Bool) → Inners m (merged t m (range last.a (max last.z (range_of t m x).z)) rest)
        → Inners m (merged t m (range_of t m x) rest)
        → Inners m (cond b (merged t m (range last.a (max last.z (range_of t m x).z)) rest) (last ∷ merged t m (range_of t m x) rest))
    go true p n = p
    go false p n = (h, n)

pub regions_inner : (t : List Float) (m : ℕ) (x : List Float) → Inners m (regions_of t m x)
unfolding regions_of range_of
regions_inner t m [] = tt
regions_inner t m (x ∷ rest) = joined_inner t m (range_of t m x) rest (omega arith, omega arith)
