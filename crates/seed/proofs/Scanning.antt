-- The scan finds the anchors one after the other: `anchors_of` is the first waypoint, then each anchor's next.
use mathlib.Core.Path.{◌≡◌, refl, sym, ◌∙◌}
use mathlib.Core.Bool.{Bool, true, false, not, cond, true≢false}
use mathlib.Core.List.{List, [], ◌∷◌, ◌++◌, append_assoc}
use Prim.Native.Nat.{ℕ, zero, suc, ◌+◌, ◌-◌, ◌*◌, ◌≤◌, ◌<◌}
use native.Mathlib.Decide.{dec_lt}
use native.Mathlib.Omega.{arith}
use borrow.Author.Tests.{lt-ltb, le-ltb, eqb-false, not-true, not-false}
use lib.Dec.{ltb}
use lib.ListN.{length}
use lib.Ieee.{Float}
use Rattle.arith.specs.Loop.{whilst}
use Rattle.arith.proofs.Loops.{whilst_done, whilst_turn}
use Rattle.seed.specs.Corridor.{Corridor, lowest, highest, narrowed}
use Rattle.seed.specs.Anchors.{fits, Scan, scan_turn, unscanned, anchors_of, next_from, next_anchor}

-- a waypoint that does not fit is not the first after the anchor
late : (ok : Bool) (a i : ℕ) → a + 1 ≤ i → fits ok a i ≡ false → a + 2 ≤ i
unfolding fits
late true a i h e = absurd (true≢false e)
late false a i h e = let n = eqb-false i (a + 1) e in apart n
  where
    apart : (i ≡ a + 1 → ⊥) → a + 2 ≤ i
    apart n = omega arith

module _ (s y : List Float) (d : ℕ) where
  -- ---- a turn of the search for the next anchor
  module _ (a i : ℕ) (lo hi : List Float) where
    next_fits : i < length s → fits (narrowed s y d a i lo hi).ok a i ≡ true → next_from s y d (length s - i) a i lo hi
        ≡ next_from s y d (length s - (i + 1)) a (i + 1) (narrowed s y d a i lo hi).lo (narrowed s y d a i lo hi).hi
    unfolding next_from
    next_fits h e =
        let k : length s - i ≡ suc (length s - (i + 1)) = omega arith in rw (k, e)

    next_breaks : i < length s → fits (narrowed s y d a i lo hi).ok a i ≡ false → next_from s y d (length s - i) a i lo hi ≡ i - 1
    unfolding next_from
    next_breaks h e =
        let k : length s - i ≡ suc (length s - (i + 1)) = omega arith in rw (k, e)

    -- the same, of a corridor c that is this one
    module _ (c : Corridor) (is : c ≡ narrowed s y d a i lo hi) (h : i < length s) where
      pub next_on : not (fits c.ok a i) ≡ false → next_from s y d (length s - (i + 1)) a (i + 1) c.lo c.hi
          ≡ next_from s y d (length s - i) a i lo hi
      next_on e = rw is (sym (next_fits h (not-false _ (rw is at e))))

      pub next_here : not (fits c.ok a i) ≡ true → i - 1 ≡ next_from s y d (length s - i) a i lo hi
      next_here e = sym (next_breaks h (not-true _ (rw is at e)))

    pub next_ends : length s ≤ i → next_from s y d (length s - i) a i lo hi ≡ length s - 1
    unfolding next_from
    next_ends h =
        let k : length s - i ≡ 0 = omega arith in rw k

  -- ---- the next anchor comes later, and is a waypoint
  from_between : (left a i : ℕ) (lo hi : List Float) → i + left ≡ length s → a + 1 ≤ i → a + 1 < length s
      → (a < next_from s y d left a i lo hi) × (next_from s y d left a i lo hi < length s)
  unfolding next_from
  from_between zero a i lo hi e h g = (omega arith, omega arith)
  from_between (suc left) a i lo hi e h g =
      go (fits (narrowed s y d a i lo hi).ok a i) refl (from_between left a (i + 1) (narrowed s y d a i lo hi).lo
      (narrowed s y d a i lo hi).hi (omega arith) (omega arith) g)
    where
      rest : ℕ
      rest = next_from s y d left a (i + 1) (narrowed s y d a i lo hi).lo (narrowed s y d a i lo hi).hi

      go : (b : Bool) → fits (narrowed s y d a i lo hi).ok a i ≡ b → (a < rest) × (rest < length s) → (a < cond b rest (i - 1))
          × (cond b rest (i - 1) < length s)
      go true f p = p
      go false f p = let k = late (narrowed s y d a i lo hi).ok a i h f in (omega arith, omega arith)

  pub next_between : (a : ℕ) → a + 1 < length s → (a < next_anchor s y d a) × (next_anchor s y d a < length s)
  unfolding next_anchor
  next_between a h = from_between (length s - (a + 1)) a (a + 1) (lowest d) (highest d) (omega arith) (omega arith) h

  -- ---- the anchors after b, at most g of them
  unfoldable pub after : ℕ → ℕ → List ℕ
  after zero b = []
  after (suc g) b =
      let next = next_anchor s y d b in
      let rest = next ∷ after g next in
      cond (ltb (b + 1) (length s)) rest []

  pub after_more : (g b : ℕ) → b + 1 < length s → after (suc g) b ≡ next_anchor s y d b ∷ after g (next_anchor s y d b)
  unfolding after
  after_more g b h = rw (lt-ltb (b + 1) (length s) h)

  pub after_none : (g b : ℕ) → length s ≤ b + 1 → after g b ≡ []
  unfolding after
  after_none zero b h = refl
  after_none (suc g) b h = rw (le-ltb (b + 1) (length s) h)

  -- ---- the scan, from any state on
  abbrev state : ℕ → ℕ → List Float → List Float → List ℕ → Scan
  state a i lo hi xs = record { anchor = a; i = i; lo = lo; hi = hi; indices = xs }

  -- with f turns and g anchors left
  abbrev Lists : ℕ → Type 0
  Lists f =
      (g a i : ℕ) (lo hi : List Float) (xs : List ℕ) → (length s - i) + (length s - a) ≤ f → length s ≤ g + a + 1 → a + 1 ≤ i → i ≤ length s
      → (whilst (unscanned s) (scan_turn s y d) f (state a i lo hi xs)).indices ++ ((length s - 1) ∷ [])
      ≡ xs ++ (next_from s y d (length s - i) a i lo hi ∷ after g (next_from s y d (length s - i) a i lo hi))

  -- no waypoint is left
  lists_done : (f g a i : ℕ) (lo hi : List Float) (xs : List ℕ) → a + 1 ≤ i → i ≤ length s → length s ≤ i
      → (whilst (unscanned s) (scan_turn s y d) f (state a i lo hi xs)).indices ++ ((length s - 1) ∷ [])
      ≡ xs ++ (next_from s y d (length s - i) a i lo hi ∷ after g (next_from s y d (length s - i) a i lo hi))
  lists_done f g a i lo hi xs h k e =
      rw (
        whilst_done (unscanned s) (scan_turn s y d) f (state a i lo hi xs) (le-ltb i (length s) e),
        next_ends a i lo hi e,
        after_none g
            (length s - 1) (omega arith),
      )

  lists_turn : (f : ℕ) → Lists f → Lists (suc f)
  lists_turn f again g a i lo hi xs F G h k = elim (dec_lt i (length s)) [
    | yes l ↦ go l (fits (narrowed s y d a i lo hi).ok a i) refl g G
    | no l ↦ lists_done (suc f) g a i lo hi xs h k (omega arith)
  ]
    where
      turn : i < length s → whilst (unscanned s) (scan_turn s y d) (suc f) (state a i lo hi xs)
          ≡ whilst (unscanned s) (scan_turn s y d) f (scan_turn s y d (state a i lo hi xs))
      turn l =
          let e : suc f - 1 ≡ f = omega arith in
          whilst_turn (unscanned s) (scan_turn s y d) (suc f) (state a i lo hi xs) (omega arith) (lt-ltb i (length s) l) ∙ rw e

      onward : fits (narrowed s y d a i lo hi).ok a i ≡ true → scan_turn s y d (state a i lo hi xs)
          ≡ state a (i + 1) (narrowed s y d a i lo hi).lo (narrowed s y d a i lo hi).hi xs
      onward e = unfold scan_turn in rw e

      anew : fits (narrowed s y d a i lo hi).ok a i ≡ false → scan_turn s y d (state a i lo hi xs)
          ≡ state (i - 1) i (lowest d) (highest d) (xs ++ ((i - 1) ∷ []))
      anew e = unfold scan_turn in rw e

      fresh : 0 < i → next_anchor s y d (i - 1) ≡ next_from s y d (length s - i) (i - 1) i (lowest d) (highest d)
      fresh p = unfold next_anchor in let e : i - 1 + 1 ≡ i = omega arith in rw e

      go : i < length s → (b : Bool) → fits (narrowed s y d a i lo hi).ok a i ≡ b → (g : ℕ) → length s ≤ g + a + 1
          → (whilst (unscanned s) (scan_turn s y d) (suc f) (state a i lo hi xs)).indices ++ ((length s - 1) ∷ [])
          ≡ xs ++ (next_from s y d (length s - i) a i lo hi ∷ after g (next_from s y d (length s - i) a i lo hi))
      go l true e g G =
          rw (turn l, onward e, next_fits a i lo hi l e)
          (again g a (i + 1) (narrowed s y d a i lo hi).lo (narrowed s y d a i lo hi).hi xs (omega arith) G (omega arith) (omega arith))
      go l false e zero G = let q = late (narrowed s y d a i lo hi).ok a i h e in absurd (omega arith)
      go l false e (suc g) G =
          let q = late (narrowed s y d a i lo hi).ok a i h e in
          rw (turn l, anew e, next_breaks a i lo hi l e, after_more g (i - 1) (omega arith), fresh (omega arith))
          (again g (i - 1) i (lowest d) (highest d) (xs ++ ((i - 1) ∷ [])) (omega arith) (omega arith) (omega arith) k
          ∙ append_assoc xs ((i - 1) ∷ []) _)

  lists : (f : ℕ) → Lists f
  lists zero = λ g a i lo hi xs F G h k. lists_done zero g a i lo hi xs h k (omega arith)
  lists (suc f) = lists_turn f (lists f)

  -- the anchors are the first waypoint, then each one's next
  pub anchors_are : 0 < length s → anchors_of s y d ≡ 0 ∷ (next_anchor s y d 0 ∷ after (length s) (next_anchor s y d 0))
  unfolding anchors_of next_anchor
  anchors_are h = lists (2 * length s) (length s) 0 1 (lowest d) (highest d) (0 ∷ []) (omega arith) (omega arith) (omega arith) h
