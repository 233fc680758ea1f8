-- De Casteljau's triangle as the code has it: fifteen midpoints of six pairs, and its two edges.
use mathlib.Core.Bool.{false}
use mathlib.Core.List.{List, [], ◌∷◌}
use mathlib.Core.Path.{◌≡◌, refl}
use Prim.Native.Nat.{ℕ, suc}
use lib.Ieee.{nan}
use lib.ListN.{get_or}
use Rattle.fraction.specs.Pair as pairs
use Rattle.figure.specs.Halving.{left_half, level, midpoint, right_half}
use Rattle.figure.specs.Operations.{ends}
use Rattle.pairs.specs.Structs.{ends_of}
use Rattle.certificate.specs.Structs.{Holds, pair_at}
use Rattle.pairs.specs.declared.ends.Ends.{Ends}
use Rattle.certificate.proofs.Sums.{holds_six}

-- the cell at j of an array
abbrev cell : List Ends → ℕ → Ends
cell l j = get_or l j (record { low = nan; high = nan; good = false })

-- r is the midpoint of p and q
abbrev Middle : pairs.Ends → pairs.Ends → Ends → Type 0
Middle p q r = ends_of r ≡ midpoint ends p q

-- one place of a further level
step : (c : ℕ → pairs.Ends) (n i : ℕ) (p q r : Ends) → ends_of p ≡ level ends n c i → ends_of q ≡ level ends n c (suc i)
    → Middle (ends_of p) (ends_of q) r → ends_of r ≡ level ends (suc n) c i
unfolding level
step c n i p q r a b e = rw (e, a, b)

pub triangle : (l : List Ends) (p01 p12 p23 p34 p45 p02 p13 p24 p35 p03 p14 p25 p04 p15 p05 : Ends)
    → Middle (pair_at l 0) (pair_at l 1) p01 → Middle (pair_at l 1) (pair_at l 2) p12 → Middle (pair_at l 2) (pair_at l 3) p23
    → Middle (pair_at l 3) (pair_at l 4) p34 → Middle (pair_at l 4) (pair_at l 5) p45
    → Middle (ends_of p01) (ends_of p12) p02 → Middle (ends_of p12) (ends_of p23) p13 → Middle (ends_of p23) (ends_of p34) p24
    → Middle (ends_of p34) (ends_of p45) p35
    → Middle (ends_of p02) (ends_of p13) p03 → Middle (ends_of p13) (ends_of p24) p14 → Middle (ends_of p24) (ends_of p35) p25
    → Middle (ends_of p03) (ends_of p14) p04 → Middle (ends_of p14) (ends_of p25) p15
    → Middle (ends_of p04) (ends_of p15) p05
    → Holds (cell l 0 ∷ p01 ∷ p02 ∷ p03 ∷ p04 ∷ p05 ∷ []) (left_half ends (pair_at l))
    × Holds (p05 ∷ p15 ∷ p25 ∷ p35 ∷ p45 ∷ cell l 5 ∷ []) (right_half ends (pair_at l))
unfolding level
triangle l p01 p12 p23 p34 p45 p02 p13 p24 p35 p03 p14 p25 p04 p15 p05 e01 e12 e23 e34 e45 e02 e13 e24 e35 e03 e14 e25 e04 e15 e05 =
    let c = pair_at l in
    let q02 = step c 1 0 p01 p12 p02 e01 e12 e02 in
    let q13 = step c 1 1 p12 p23 p13 e12 e23 e13 in
    let q24 = step c 1 2 p23 p34 p24 e23 e34 e24 in
    let q35 = step c 1 3 p34 p45 p35 e34 e45 e35 in
    let q03 = step c 2 0 p02 p13 p03 q02 q13 e03 in
    let q14 = step c 2 1 p13 p24 p14 q13 q24 e14 in
    let q25 = step c 2 2 p24 p35 p25 q24 q35 e25 in
    let q04 = step c 3 0 p03 p14 p04 q03 q14 e04 in
    let q15 = step c 3 1 p14 p25 p15 q14 q25 e15 in
    let q05 = step c 4 0 p04 p15 p05 q04 q15 e05 in (
      holds_six (cell l 0) p01 p02 p03 p04 p05 (left_half ends c) refl e01 q02 q03 q04 q05,
      holds_six p05 p15 p25 p35 p45 (cell l 5) (right_half ends c) q05 q15 q25 q35 e45 refl,
    )
