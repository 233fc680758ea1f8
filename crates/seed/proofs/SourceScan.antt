-- `seed` scans as the source does: taking the first waypoint after an anchor as fitting changes nothing, wherever it does fit.
use mathlib.Core.Path.{◌≡◌, refl, sym, ap, ◌∙◌}
use mathlib.Core.Bool.{Bool, true, false, cond, ◌||◌, true≢false}
use mathlib.Core.List.{List, [], ◌∷◌, ◌++◌}
use Prim.Native.Nat.{ℕ, zero, suc, ◌+◌, ◌-◌, ◌*◌, ◌≤◌, ◌<◌}
use native.Mathlib.Omega.{arith}
use native.Mathlib.Decide.{ℕ_discrete}
use borrow.Author.Tests.{ltb-true, le-ltb, eq-eqb, ne_eqb}
use lib.ListN.{length}
use lib.Ieee.{Float}
use Rattle.arith.specs.Loop.{whilst}
use Rattle.seed.specs.Corridor.{Corridor, lowest, highest, narrowed}
use Rattle.seed.specs.Anchors.{fits, Scan, scan_turn, unscanned, anchors_of}

-- a turn of the source's `while i < s.len()`, with its own test
unfoldable pub source_turn : List Float → List Float → ℕ → Scan → Scan
source_turn s y d t =
    let c = narrowed s y d t.anchor t.i t.lo t.hi in
    cond c.ok
    (record { anchor = t.anchor; i = t.i + 1; lo = c.lo; hi = c.hi; indices = t.indices })
    (record { anchor = t.i - 1; i = t.i; lo = lowest d; hi = highest d; indices = t.indices ++ ((t.i - 1) ∷ []) })

module _ (s y : List Float) (d : ℕ) (first : (a : ℕ) → a + 1 < length s → (narrowed s y d a (a + 1) (lowest d) (highest d)).ok ≡ true) where
  -- the waypoint in hand lies after the anchor, and right after it the corridor is open
  pub record Right (t : Scan) : Type 0 where
    pub later : t.anchor < t.i
    pub low : t.i ≡ t.anchor + 1 → t.lo ≡ lowest d
    pub high : t.i ≡ t.anchor + 1 → t.hi ≡ highest d

  corridor_at : Scan → Corridor
  corridor_at t = narrowed s y d t.anchor t.i t.lo t.hi

  same_test : (t : Scan) → Right t → t.i < length s → fits (corridor_at t).ok t.anchor t.i ≡ (corridor_at t).ok
  unfolding fits corridor_at
  same_test t r l = elim (ℕ_discrete t.i (t.anchor + 1)) [
    | yes e ↦
        let open_corridor : (corridor_at t).ok ≡ true =
        ap (λ (i : ℕ). (narrowed s y d t.anchor i t.lo t.hi).ok) e
        ∙ ap (λ (x : List Float). (narrowed s y d t.anchor (t.anchor + 1) x t.hi).ok) (r.low e)
        ∙ ap (λ (x : List Float). (narrowed s y d t.anchor (t.anchor + 1) (lowest d) x).ok) (r.high e)
        ∙ first t.anchor (omega arith) in
        rw open_corridor
    | no e ↦ rw (ne_eqb t.i (t.anchor + 1) e) (or_false (corridor_at t).ok)
  ]
    where
      or_false : (b : Bool) → (b || false) ≡ b
      or_false true = refl
      or_false false = refl

  same_turn : (t : Scan) → Right t → t.i < length s → scan_turn s y d t ≡ source_turn s y d t
  unfolding scan_turn source_turn corridor_at
  same_turn t r l =
      ap (λ (b : Bool). cond b (record {
        anchor = t.anchor;
        i = t.i + 1;
        lo = (corridor_at t).lo;
        hi = (corridor_at t).hi;
        indices =
            t.indices;
      })
      (record { anchor = t.i - 1; i = t.i; lo = lowest d; hi = highest d; indices = t.indices ++ ((t.i - 1) ∷ []) })) (same_test t r l)

  turn_right : (t : Scan) → Right t → Right (source_turn s y d t)
  unfolding source_turn corridor_at
  turn_right t r = go (corridor_at t).ok
    where
      on : Scan
      on = record { anchor = t.anchor; i = t.i + 1; lo = (corridor_at t).lo; hi = (corridor_at t).hi; indices = t.indices }

      anew : Scan
      anew = record { anchor = t.i - 1; i = t.i; lo = lowest d; hi = highest d; indices = t.indices ++ ((t.i - 1) ∷ []) }

      go : (b : Bool) → Right (cond b on anew)
      go true =
          record {
            later = omega (arith, r.later);
            low = λ e. absurd (omega (arith, r.later));
            high = λ e. absurd
                (omega (arith, r.later));
          }
      go false = record { later = omega (arith, r.later); low = λ e. refl; high = λ e. refl }

  -- any number of turns
  pub same_scan : (k : ℕ) (t : Scan) → Right t → whilst (unscanned s) (scan_turn s y d) k t ≡ whilst (unscanned s) (source_turn s y d) k t
  unfolding whilst
  same_scan zero t r = refl
  same_scan (suc k) t r = go (unscanned s t) refl (same_scan k (source_turn s y d t) (turn_right t r))
    where
      go : (b : Bool) → unscanned s t ≡ b
          → whilst (unscanned s) (scan_turn s y d) k (source_turn s y d t) ≡ whilst (unscanned s) (source_turn s y d) k (source_turn s y d t)
          → cond b (whilst (unscanned s) (scan_turn s y d) k (scan_turn s y d t)) t ≡ cond b (whilst (unscanned s) (source_turn s y d) k
          (source_turn s y d t)) t
      go false e again = refl
      go true e again = ap (whilst (unscanned s) (scan_turn s y d) k) (same_turn t r (ltb-true t.i (length s) e)) ∙ again

  -- `anchors_of` is the source's `indices`
  pub source_anchors : anchors_of s y d
      ≡ (whilst (unscanned s) (source_turn s y d) (2 * length s)
      (record { anchor = 0; i = 1; lo = lowest d; hi = highest d; indices = 0 ∷ [] })).indices ++ ((length s - 1) ∷ [])
  unfolding anchors_of
  source_anchors =
      ap (λ (t : Scan). t.indices ++ ((length s - 1) ∷ []))
      (same_scan (2 * length s) (record { anchor = 0; i = 1; lo = lowest d; hi = highest d; indices = 0 ∷ [] })
      (record { later = omega arith; low = λ e. refl; high = λ e. refl }))

  -- a turn takes the next waypoint or a later anchor
  progress : (t : Scan) → Right t → t.i < length s
      → ((source_turn s y d t).i ≤ length s) × ((length s - (source_turn s y d t).i) + (length s - (source_turn s y d t).anchor)
      < (length s - t.i) + (length s - t.anchor))
  unfolding source_turn corridor_at fits
  progress t r l = go (corridor_at t).ok refl
    where
      or_true : (b : Bool) → (b || true) ≡ true
      or_true true = refl
      or_true false = refl

      on : Scan
      on = record { anchor = t.anchor; i = t.i + 1; lo = (corridor_at t).lo; hi = (corridor_at t).hi; indices = t.indices }

      anew : Scan
      anew = record { anchor = t.i - 1; i = t.i; lo = lowest d; hi = highest d; indices = t.indices ++ ((t.i - 1) ∷ []) }

      go : (b : Bool) → (corridor_at t).ok ≡ b
          → ((cond b on anew).i ≤ length s) × ((length s - (cond b on anew).i) + (length s - (cond b on anew).anchor)
          < (length s - t.i) + (length s - t.anchor))
      go true e = (omega arith, omega (arith, r.later))
      go false e =
          let n : t.i ≡ t.anchor + 1 → ⊥ =
          λ q. true≢false (sym (sym (same_test t r l) ∙ rw (eq-eqb t.i (t.anchor + 1) q) (or_true (corridor_at t).ok)) ∙ e) in
          (omega arith, omega (arith, r.later, n))

  -- and after these turns no waypoint is left, so that the source's loop has ended
  pub scan_ends : (k : ℕ) (t : Scan) → Right t → t.i ≤ length s → (length s - t.i) + (length s - t.anchor) ≤ k
      → unscanned s (whilst (unscanned s) (source_turn s y d) k t) ≡ false
  unfolding whilst
  scan_ends zero t r h l = le-ltb t.i (length s) (omega (arith, r.later))
  scan_ends (suc k) t r h l = go (unscanned s t) refl (λ i g. scan_ends k (source_turn s y d t) (turn_right t r) i g)
    where
      go : (b : Bool) → unscanned s t ≡ b
          → ((source_turn s y d t).i ≤ length s → (length s - (source_turn s y d t).i) + (length s - (source_turn s y d t).anchor) ≤ k
          → unscanned s (whilst (unscanned s) (source_turn s y d) k (source_turn s y d t)) ≡ false)
          → unscanned s (cond b (whilst (unscanned s) (source_turn s y d) k (source_turn s y d t)) t) ≡ false
      go false e again = e
      go true e again =
          let p = progress t r (ltb-true t.i (length s) e) in again p.0 (omega (arith, p.1, l))
