-- The laws of `axis_place`: how a loop over the axes finds their places, and that a place is below d.
use mathlib.Core.Path.{◌≡◌, refl, ◌∙◌}
use mathlib.Core.Bool.{Bool, cond, ◌&&◌}
use mathlib.Core.List.{List}
use Prim.Native.Nat.{ℕ, zero, suc, ◌+◌, ◌≤◌, ◌<◌}
use native.Mathlib.Omega.{arith}
use native.Mathlib.Decide.{dec_lt, ℕ_discrete}
use native.Mathlib.Numerals.{add-one}
use borrow.Author.Tests.{lt-ltb, le-ltb, eq-eqb, ne_eqb}
use lib.Dec.{ltb, eqb}
use lib.ListN.{length, get_or, set}
use lib.Seq.{get_or-set_same, get_or-set_other}
use Rattle.arith.specs.First.{first_of}
use Rattle.curve.specs.Places.{position_of, others_below, axis_place}
use Rattle.arith.proofs.Firsts.{first_le, first_more, first_stays}

module _ (axes : List ℕ) (k : ℕ) where
  -- a listed axis is at its index
  pub listed_place : (a : ℕ) → position_of axes k a < k → axis_place axes k a ≡ position_of axes k a
  unfolding axis_place
  listed_place a h = rw (lt-ltb (position_of axes k a) k h)

  pub listed_next : (a : ℕ) → position_of axes k a < k → others_below axes k (a + 1) ≡ others_below axes k a
  unfolding others_below
  listed_next a h = rw (add-one, lt-ltb (position_of axes k a) k h) (omega arith)

  -- another axis follows the others below it
  pub other_place : (a : ℕ) → k ≤ position_of axes k a → axis_place axes k a ≡ k + others_below axes k a
  unfolding axis_place
  other_place a h = rw (le-ltb (position_of axes k a) k h)

  pub other_next : (a : ℕ) → k ≤ position_of axes k a → others_below axes k (a + 1) ≡ others_below axes k a + 1
  unfolding others_below
  other_next a h = rw (add-one, le-ltb (position_of axes k a) k h)

  -- the places of one axis more
  pub place_next : (at : List ℕ) (a v : ℕ) → a < length at → v ≡ axis_place axes k a → ((b : ℕ) → b < a → get_or at b 0 ≡ axis_place axes k b)
      → (b : ℕ) → b < a + 1 → get_or (set at a v) b 0 ≡ axis_place axes k b
  place_next at a v l e h b m = elim (dec_lt b a) [
    | yes g ↦ get_or-set_other at a b v 0 (λ q. absurd (omega arith)) ∙ h b g
    | no g ↦
        let q : b ≡ a = omega arith in rw q (get_or-set_same at a v 0 l ∙ e)
  ]

-- the first n listed axes are below d, and each is none of those before it
abbrev pub Distinct : List ℕ → ℕ → ℕ → Type 0
Distinct axes n d = (i : ℕ) → i < n → (get_or axes i 0 < d) × (position_of axes i (get_or axes i 0) ≡ i)

-- an axis that is not listed counts
abbrev mark : List ℕ → ℕ → ℕ → ℕ
mark axes n a = cond (ltb (position_of axes n a) n) 0 1

module _ (axes : List ℕ) (n : ℕ) where
  -- one listed axis more, and another axis: it counts as before
  mark_same : (a : ℕ) → (get_or axes n 0 ≡ a → ⊥) → mark axes (suc n) a ≡ mark axes n a
  mark_same a d = elim (dec_lt (position_of axes n a) n) [
    | yes l ↦
        let s = first_stays (λ i. eqb (get_or axes i 0) a) n l in
        rw (s, lt-ltb (position_of axes n a) (suc n) (omega arith), lt-ltb (position_of axes n a) n l)
    | no l ↦
        let m = first_le (λ i. eqb (get_or axes i 0) a) n in
        let e : position_of axes n a ≡ n = omega arith in
        let s = first_more (λ i. eqb (get_or axes i 0) a) n e in
        rw (s, ne_eqb (get_or axes n 0) a d, e, le-ltb (suc n) (suc n) (omega arith), le-ltb n n (omega arith))
  ]

  -- the axis itself no longer counts
  mark_new : (a : ℕ) → get_or axes n 0 ≡ a → position_of axes n a ≡ n → (mark axes (suc n) a ≡ 0) × (mark axes n a ≡ 1)
  mark_new a d e =
      let s = first_more (λ i. eqb (get_or axes i 0) a) n e in
      (rw (s, eq-eqb (get_or axes n 0) a d, lt-ltb n (suc n) (omega arith)), rw (e, le-ltb n n (omega arith)))

  -- one listed axis more, none of those before it: of the axes below d one fewer is not listed, if it is below d
  others_more : position_of axes n (get_or axes n 0) ≡ n → (d : ℕ)
      → others_below axes (suc n) d + cond (ltb (get_or axes n 0) d) 1 0 ≡ others_below axes n d
  unfolding others_below
  others_more e zero = rw (le-ltb (get_or axes n 0) 0 (omega arith))
  others_more e (suc d) =
      let again = others_more e d in
      let x = get_or axes n 0 in
      elim (ℕ_discrete x d) [
        | yes q ↦
            let m = mark_new d q (rw q at e) in
            let i : others_below axes (suc n) d + 0 ≡ others_below axes n d = rw (le-ltb x d (omega arith)) at again in
            rw (lt-ltb x (suc d) (omega arith)) (omega arith)
        | no q ↦
            let m = mark_same d q in
            elim (dec_lt x d) [
              | yes l ↦
                  let i : others_below axes (suc n) d + 1 ≡ others_below axes n d = rw (lt-ltb x d l) at again in
                  rw (lt-ltb x (suc d) (omega arith)) (omega arith)
              | no l ↦
                  let i : others_below axes (suc n) d + 0 ≡ others_below axes n d = rw (le-ltb x d (omega arith)) at again in
                  rw (le-ltb x (suc d) (omega arith)) (omega arith)
            ]
      ]

module _ (axes : List ℕ) where
  -- where none is listed, all are others
  others_all : (d : ℕ) → others_below axes 0 d ≡ d
  unfolding others_below first_of
  others_all zero = refl
  others_all (suc d) = let e = others_all d in omega arith

  -- where n distinct axes below d are listed, d - n are not
  pub others_count : (n d : ℕ) → Distinct axes n d → others_below axes n d + n ≡ d
  others_count zero d h = let e = others_all d in omega arith
  others_count (suc n) d h =
      let again = others_count n d (λ i l. h i (omega arith)) in
      let g = h n (omega arith) in
      let m : others_below axes (suc n) d + 1 ≡ others_below axes n d = rw (lt-ltb (get_or axes n 0) d g.0)
      at (others_more axes n g.1 d) in
      omega arith

  -- further up there are not fewer
  others_rise : (k a b : ℕ) → a ≤ b → others_below axes k a ≤ others_below axes k b
  unfolding others_below
  others_rise k a zero h = let e : a ≡ 0 = omega arith in rw e (omega arith)
  others_rise k a (suc b) h = elim (dec_lt b a) [
    | yes l ↦ let e : a ≡ suc b = omega arith in rw e (omega arith)
    | no l ↦ let again = others_rise k a b (omega arith) in omega arith
  ]

  -- a place is below d
  pub place_below : (k d : ℕ) → k ≤ d → Distinct axes k d → (a : ℕ) → a < d → axis_place axes k a < d
  place_below k d h good a l = elim (dec_lt (position_of axes k a) k) [
    | yes p ↦ rw (listed_place axes k a p) (omega arith)
    | no p ↦
        let e = other_next axes k a (omega arith) in
        let m = others_rise k (a + 1) d (omega arith) in
        let n = others_count k d good in
        rw (other_place axes k a (omega arith)) (omega arith)
  ]

-- what is asked of axis j
abbrev pub axis_good : List ℕ → ℕ → ℕ → Bool
axis_good axes d j = ltb (get_or axes j 0) d && eqb (position_of axes j (get_or axes j 0)) j
