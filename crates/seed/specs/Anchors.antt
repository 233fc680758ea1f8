-- The anchors that the corridor finds: `indices` of the source's `seed`.
use Rattle.std.specs.Prelude.{Bool, ◌||◌, cond, List, [], ◌∷◌, ◌++◌, ℕ, zero, suc, ◌+◌, ◌-◌, ◌*◌, ltb, eqb, length, Float}
use Rattle.arith.specs.Loop.{whilst}
use Rattle.seed.specs.Corridor.{lowest, highest, narrowed}

-- Waypoint i fits the corridor from the anchor. The first after the anchor always does: where it failed there, the source would find the
-- same anchor again, without end. That takes parameters that do not rise, or a slope that is a NaN, which no request that `build` takes on
-- has: so there this scan is the source's own (`smoothing/proofs/SeedEnds`: `seed_ends`, `lane_anchors`).
unfoldable pub fits : Bool → ℕ → ℕ → Bool
fits ok anchor i = ok || eqb i (anchor + 1)

pub record Scan : Type 0 where
  pub anchor : ℕ
  pub i : ℕ
  pub lo : List Float
  pub hi : List Float
  pub indices : List ℕ

-- a turn of `while i < s.len()`: the next waypoint, or a new anchor with the corridor open again
unfoldable pub scan_turn : List Float → List Float → ℕ → Scan → Scan
scan_turn s y d t =
    let c = narrowed s y d t.anchor t.i t.lo t.hi in
    cond (fits c.ok t.anchor t.i)
    (record { anchor = t.anchor; i = t.i + 1; lo = c.lo; hi = c.hi; indices = t.indices })
    (record { anchor = t.i - 1; i = t.i; lo = lowest d; hi = highest d; indices = t.indices ++ ((t.i - 1) ∷ []) })

abbrev pub unscanned : List Float → Scan → Bool
unscanned s t = ltb t.i (length s)

-- `indices`, with `indices.push(s.len() - 1)`. A turn raises i or the anchor, so that 2n turns are enough.
unfoldable pub anchors_of : List Float → List Float → ℕ → List ℕ
anchors_of s y d =
    (whilst (unscanned s) (scan_turn s y d) (2 * length s)
    (record { anchor = 0; i = 1; lo = lowest d; hi = highest d; indices = 0 ∷ [] })).indices
    ++ ((length s - 1) ∷ [])

-- The same, one anchor at a time. That `anchors_of` lists these is proved: `proofs/Scanning`.
-- the anchor after `anchor`, from waypoint i on, of which so many are left; the last waypoint where the corridor holds to the end
unfoldable pub next_from : List Float → List Float → ℕ → ℕ → ℕ → ℕ → List Float → List Float → ℕ
next_from s y d zero anchor i lo hi = length s - 1
next_from s y d (suc left) anchor i lo hi =
    let c = narrowed s y d anchor i lo hi in
    let rest = next_from s y d left anchor (i + 1) c.lo c.hi in
    cond (fits c.ok anchor i) rest (i - 1)

unfoldable pub next_anchor : List Float → List Float → ℕ → ℕ → ℕ
next_anchor s y d anchor = next_from s y d (length s - (anchor + 1)) anchor (anchor + 1) (lowest d) (highest d)
