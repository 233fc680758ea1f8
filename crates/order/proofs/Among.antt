-- Which lanes stand in a list, and how many can.
use mathlib.Core.Path.{◌≡◌, refl, sym, ap, ◌∙◌}
use mathlib.Core.Bool.{Bool, true, false, ◌||◌, or-true, or-false, or_assoc}
use mathlib.Core.List.{List, [], ◌∷◌, ◌++◌}
use Prim.Native.Nat.{ℕ, zero, suc, ◌<◌}
use native.Mathlib.Omega.{arith}
use native.Mathlib.Decide.{dec_lt}
use borrow.Author.Tests.{eqb-true, eq-eqb, ne_eqb}
use lib.Dec.{eqb}
use lib.ListN.{length}
use Rattle.arith.proofs.Truth.{clash}
use Rattle.order.specs.Pairs.{lane_at}
use Rattle.order.specs.Order.{among}

-- a lane that stands in the list has a place there
pub among_at : (l : List ℕ) (x : ℕ) → among l x ≡ true → (i : ℕ) × (i < length l) × (lane_at l i ≡ x)
unfolding among
among_at [] x h = clash h refl
among_at (y ∷ l) x h = go (eqb y x) refl h (among_at l x)
  where
    go : (b : Bool) → eqb y x ≡ b → (b || among l x) ≡ true → (among l x ≡ true → (i : ℕ) × (i < length l) × (lane_at l i ≡ x))
        → (i : ℕ) × (i < length (y ∷ l)) × (lane_at (y ∷ l) i ≡ x)
    go true e g again = (0, omega arith, eqb-true y x e)
    go false e g again =
        let (i, b, p) = again g in (suc i, omega arith, p)

-- the lane at a place of the list stands in it
pub at_among : (l : List ℕ) (i : ℕ) → i < length l → among l (lane_at l i) ≡ true
unfolding among
at_among [] i h = absurd (omega arith)
at_among (y ∷ l) zero h = rw (eq-eqb y y refl)
at_among (y ∷ l) (suc i) h = rw (at_among l i (omega arith)) (or-true (eqb y (lane_at l i)))

-- one lane more at the end
pub among_more : (l : List ℕ) (y x : ℕ) → among (l ++ (y ∷ [])) x ≡ (among l x || eqb y x)
unfolding among
among_more [] y x = or-false (eqb y x)
among_more (z ∷ l) y x = ap (λ (b : Bool). eqb z x || b) (among_more l y x) ∙ sym (or_assoc (eqb z x) (among l x) (eqb y x))

-- a list without one of its lanes is one shorter, and holds every other lane still
without : (l : List ℕ) (x : ℕ) → among l x ≡ true
    → (m : List ℕ) × (suc (length m) ≡ length l) × ((y : ℕ) → (x ≡ y → ⊥) → among m y ≡ among l y)
unfolding among
without [] x h = clash h refl
without (z ∷ l) x h = go (eqb z x) refl h (without l x)
  where
    go : (b : Bool) → eqb z x ≡ b → (b || among l x) ≡ true
        → (among l x ≡ true → (m : List ℕ) × (suc (length m) ≡ length l) × ((y : ℕ) → (x ≡ y → ⊥) → among m y ≡ among l y))
        → (m : List ℕ) × (suc (length m) ≡ suc (length l)) × ((y : ℕ) → (x ≡ y → ⊥) → among m y ≡ (eqb z y || among l y))
    go true e g again = (l, refl, λ y d. rw (ne_eqb z y (λ q. d (sym (eqb-true z x e) ∙ q))))
    go false e g again =
        let (m, p, k) = again g in (z ∷ m, ap suc p, λ y d. ap (λ (b : Bool). eqb z y || b) (k y d))

-- no lane stands at two places
abbrev pub Once : List ℕ → Type 0
Once l = (i j : ℕ) → i < j → j < length l → lane_at l i ≡ lane_at l j → ⊥

-- of lanes that stand once, and are more than a list has places, one is not in the list
pub outside : (o l : List ℕ) → Once o → length l < length o → (i : ℕ) × (i < length o) × (among l (lane_at o i) ≡ false)
outside [] l s h = absurd (omega arith)
outside (x ∷ o) l s h = go (among l x) refl (outside o)
  where
    go : (b : Bool) → among l x ≡ b
        → ((m : List ℕ) → Once o → length m < length o → (i : ℕ) × (i < length o) × (among m (lane_at o i) ≡ false))
        → (i : ℕ) × (i < length (x ∷ o)) × (among l (lane_at (x ∷ o) i) ≡ false)
    go false e again = (0, omega arith, e)
    go true e again =
        let (m, p, k) = without l x e in
        let (i, b, q) = again m (λ i j c d. s (suc i) (suc j) (omega arith) (omega arith)) (omega arith) in
        (suc i, omega arith, sym (k (lane_at o i) (s 0 (suc i) (omega arith) (omega arith))) ∙ q)

-- the lanes below n
below : ℕ → List ℕ
below zero = []
below (suc n) = n ∷ below n

below_length : (n : ℕ) → length (below n) ≡ n
unfolding below
below_length zero = refl
below_length (suc n) = ap suc (below_length n)

below_among : (n x : ℕ) → x < n → among (below n) x ≡ true
unfolding below among
below_among zero x h = absurd (omega arith)
below_among (suc n) x h = elim (dec_lt x n) [
  | yes g ↦ rw (below_among n x g) (or-true (eqb n x))
  | no g ↦ rw (eq-eqb n x (omega arith))
]

-- n lanes below n that stand once are all of them
pub full : (n : ℕ) (o : List ℕ) → length o ≡ n → ((i : ℕ) → i < n → lane_at o i < n) → Once o → (x : ℕ) → x < n → among o x ≡ true
full n o e b s x h = go (among o x) refl
  where
    once : among o x ≡ false → Once (x ∷ o)
    once f i zero c d p = absurd (omega arith)
    once f zero (suc j) c d p = clash (at_among o j (omega arith)) (ap (among o) (sym p) ∙ f)
    once f (suc i) (suc j) c d p = s i j (omega arith) (omega arith) p

    held : (i : ℕ) → i < suc (length o) → among (below n) (lane_at (x ∷ o) i) ≡ true
    held zero c = below_among n x h
    held (suc i) c = below_among n (lane_at o i) (b i (omega arith))

    go : (t : Bool) → among o x ≡ t → t ≡ true
    go true f = refl
    go false f =
        let l : length (below n) < length (x ∷ o) = omega (arith, below_length n) in
        let (i, c, p) = outside (x ∷ o) (below n) (once f) l in
        clash (held i c) p
