-- How far exact fractions are from each other: sums, products and quotients of fractions that are near to given ones.
use mathlib.Core.List.{[], ◌∷◌}
use mathlib.Core.Logic.{◌⊎◌, inl, inr}
use mathlib.Core.Path.{◌∙◌, ◌≡◌, ap, refl, subst, sym}
use Prim.Native.Nat.{◌*◌, ◌+◌, ◌^◌, ◌≤◌, ℕ}
use native.Mathlib.Omega.{arith}
use lib.IntN.{pos}
use lib.Pow.{pow_pos}
use Rattle.fraction.specs.Order.{le_one, le_two}
use Rattle.fraction.specs.Rational.{Above, ◌*q◌, ◌+q◌, ◌-q◌, ◌/q◌, ◌<q◌, ◌≤q◌, inverse, negq, wholeq, ℚ, 𝟘, 𝟙}
use Rattle.fraction.specs.RationalRing.{rational_ring}
use Rattle.fraction.specs.Ring.{◌⊕◌, ◌⊖◌, ◌⊗◌, combine, con, opposite, solve, v0, v1, v2, v3, v4, v5, v6, v7}
use Rattle.fraction.specs.Value.{fraction}
use Rattle.fraction.proofs.Inverse.{inverse_is, inverse_nonnegative}
use Rattle.fraction.proofs.Rational.{<q-weaken, never, rational_order, ≤q-cases, ≤q-or-<, ≤q-refl, ≤q-trans, ≤q-whole}
use Rattle.fraction.proofs.Value.{fraction_le}

-- ---- sizes
-- a lies from -A to A
abbrev pub Size : ℚ → ℚ → Type 0
Size A a = (negq A ≤q a) × (a ≤q A)

pub size_same : (A B a b : ℚ) → A ≡ B → a ≡ b → Size A a → Size B b
size_same A B a b e f h = subst (λ (z : ℚ). Size z b) e (subst (λ (z : ℚ). Size A z) f h)

pub size_wider : (A B a : ℚ) → A ≤q B → Size A a → Size B a
size_wider A B a l h = (
  ≤q-trans (negq B) (negq A) a (le_one rational_ring ◌≤q◌ rational_order (A ∷ B ∷ []) (opposite v1) (opposite v0) (con (pos 1)) v0 v1 tt
      (≤q-whole 1) l) h.0,
  ≤q-trans a A B h.1 l,
)

-- y + y ≤ z + z gives y ≤ z
halved : (y z : ℚ) → y +q y ≤q z +q z → y ≤q z
halved y z h = elim (≤q-cases y z) [
  | inl k ↦ k
  | inr k ↦ le_two rational_ring ◌≤q◌ rational_order (y ∷ z ∷ []) v0 v1 (con (pos 1)) (v0 ⊕ v0) (v1 ⊕ v1) (con (pos 1)) v1 v0 tt (≤q-whole 1)
      h (≤q-whole 1) k
]

-- what has a size has one that is not below 0
pub size_not_negative : (A a : ℚ) → Size A a → 𝟘 ≤q A
size_not_negative A a h = halved 𝟘 A (le_two rational_ring ◌≤q◌ rational_order (A ∷ a ∷ []) (con (pos 0) ⊕ con (pos 0)) (v0 ⊕ v0) (con (pos
    1))
    (opposite v0) v1 (con (pos 1)) v1 v0 tt (≤q-whole 1) h.0 (≤q-whole 1) h.1)

pub size_sum : (A B a b : ℚ) → Size A a → Size B b → Size (A +q B) (a +q b)
size_sum A B a b h k = (
  le_two rational_ring ◌≤q◌ rational_order (A ∷ B ∷ a ∷ b ∷ []) (opposite (v0 ⊕ v1)) (v2 ⊕ v3) (con (pos 1)) (opposite v0) v2 (con (pos 1))
      (opposite v1) v3 tt (≤q-whole 1) h.0 (≤q-whole 1) k.0,
  le_two rational_ring ◌≤q◌ rational_order (A ∷ B ∷ a ∷ b ∷ []) (v2 ⊕ v3) (v0 ⊕ v1) (con (pos 1)) v2 v0 (con (pos 1)) v3 v1 tt (≤q-whole 1)
      h.1 (≤q-whole 1) k.1,
)

pub size_negated : (A a : ℚ) → Size A a → Size A (negq a)
size_negated A a h = (
  le_one rational_ring ◌≤q◌ rational_order (A ∷ a ∷ []) (opposite v0) (opposite v1) (con (pos 1)) v1 v0 tt (≤q-whole 1) h.1,
  le_one rational_ring ◌≤q◌ rational_order (A ∷ a ∷ []) (opposite v1) v0 (con (pos 1)) (opposite v0) v1 tt (≤q-whole 1) h.0,
)

product_above : (A B a b : ℚ) → Size A a → Size B b → a *q b ≤q A *q B
product_above A B a b h k =
    let ρ = A ∷ B ∷ a ∷ b ∷ [] in
    halved (a *q b) (A *q B) (le_two rational_ring ◌≤q◌ rational_order ρ (v2 ⊗ v3 ⊕ v2 ⊗ v3) (v0 ⊗ v1 ⊕ v0 ⊗ v1) (v0 ⊖ v2) (opposite v1) v3
    (v0 ⊕ v2) v3 v1 tt (low h) k.0 (high h) k.1)
  where
    low : Size A a → 𝟘 ≤q A -q a
    low h = le_one rational_ring ◌≤q◌ rational_order (A ∷ a ∷ []) (con (pos 0)) (v0 ⊖ v1) (con (pos 1)) v1 v0 tt (≤q-whole 1) h.1

    high : Size A a → 𝟘 ≤q A +q a
    high h = le_one rational_ring ◌≤q◌ rational_order (A ∷ a ∷ []) (con (pos 0)) (v0 ⊕ v1) (con (pos 1)) (opposite v0) v1 tt (≤q-whole 1)
        h.0

pub size_product : (A B a b : ℚ) → Size A a → Size B b → Size (A *q B) (a *q b)
size_product A B a b h k = (
  le_one rational_ring ◌≤q◌ rational_order (A ∷ B ∷ a ∷ b ∷ []) (opposite (v0 ⊗ v1)) (v2 ⊗ v3) (con (pos 1)) (opposite v2 ⊗ v3) (v0 ⊗ v1) tt
      (≤q-whole 1) (product_above A B (negq a) b (size_negated A a h) k),
  product_above A B a b h k,
)

-- ---- near fractions
-- 2^-54
abbrev pub unit : ℚ
unit = fraction (pos 1) (2 ^ 54) (pow_pos 54)

pub unit_not_negative : 𝟘 ≤q unit
unit_not_negative = fraction_le _ _ _ _ _ _ (omega arith)

-- few units are at most 1
pub few : (n : ℕ) → n ≤ 2 ^ 54 → wholeq (pos n) *q unit ≤q 𝟙
unfolding ◌*q◌
few n l = fraction_le _ _ _ _ _ _ (omega arith)

-- 1/32
abbrev pub slack : ℚ
slack = fraction (pos 1) 32 (omega arith)

pub slack_not_negative : 𝟘 ≤q slack
slack_not_negative = fraction_le _ _ _ _ _ _ (omega arith)

fewer : (n : ℕ) → n ≤ 2 ^ 49 → wholeq (pos n) *q unit ≤q slack
unfolding ◌*q◌
fewer n l = fraction_le _ _ _ _ _ _ (omega arith)

larger_bound : (n : ℕ) → n ≤ 2 ^ 49 → n ≤ 2 ^ 54
larger_bound n l = omega arith

abbrev pub whole : ℕ → ℚ
whole n = wholeq (pos n)

pub whole_order : (m n : ℕ) → m ≤ n → whole m ≤q whole n
whole_order m n l = fraction_le _ _ _ _ _ _ (omega arith)

-- v is at most k M in size, and x at most n units of M from it
pub record Near (M : ℚ) (k n : ℕ) (v x : ℚ) : Type 0 where
  pub size : Size (whole k *q M) v
  pub apart : Size (whole n *q (unit *q M)) (x -q v)

module _ (M : ℚ) where
  -- sums
  pub near_sum : (k n : ℕ) (v x : ℚ) (k' n' : ℕ) (v' x' : ℚ) → Near M k n v x → Near M k' n' v' x'
      → Near M (k + k') (n + n') (v +q v') (x +q x')
  near_sum k n v x k' n' v' x' h g =
      record {
        size = size_same _ _ _ _ (added k k' M) refl (size_sum _ _ _ _ h.size g.size);
        apart = size_same _ _ _ _ (added n n' (unit *q M)) (solve rational_ring (v ∷ x ∷ v' ∷ x' ∷ []) (v1 ⊖ v0 ⊕ (v3 ⊖ v2))
            (v1 ⊕ v3 ⊖ (v0 ⊕ v2)) tt) (size_sum _ _ _ _ h.apart g.apart);
      }
    where
      added : (a b : ℕ) (z : ℚ) → whole a *q z +q whole b *q z ≡ whole (a + b) *q z
      added a b z = solve rational_ring (whole a ∷ whole b ∷ z ∷ []) (v0 ⊗ v2 ⊕ v1 ⊗ v2) ((v0 ⊕ v1) ⊗ v2) tt
          ∙ ap (λ (w : ℚ). w *q z) (sym (rational_ring.of_add (pos a) (pos b)))

  pub near_negated : (k n : ℕ) (v x : ℚ) → Near M k n v x → Near M k n (negq v) (negq x)
  near_negated k n v x h =
      record {
        size = size_negated _ _ h.size;
        apart = size_same _ _ _ _ refl (solve rational_ring (v ∷ x ∷ []) (opposite (v1 ⊖ v0)) (opposite v1 ⊖ opposite v0) tt)
            (size_negated _ _ h.apart);
      }

  module _ (M_not_negative : 𝟘 ≤q M) where
    -- n units of M are at most M
    few_units : (n : ℕ) → n ≤ 2 ^ 54 → whole n *q (unit *q M) ≤q M
    few_units n l = le_one rational_ring ◌≤q◌ rational_order (whole n ∷ unit ∷ M ∷ []) (v0 ⊗ (v1 ⊗ v2)) v2 v2 (v0 ⊗ v1) (con (pos 1)) tt
        M_not_negative (few n l)

    -- x is at most k M and a 32nd of M in size
    pub near_size_finely : (k n : ℕ) (v x : ℚ) → n ≤ 2 ^ 49 → Near M k n v x → Size ((whole k +q slack) *q M) x
    near_size_finely k n v x l h =
        size_same _ _ _ _ (solve rational_ring (whole k ∷ slack ∷ M ∷ []) (v0 ⊗ v2 ⊕ v1 ⊗ v2) ((v0 ⊕ v1) ⊗ v2) tt)
        (solve rational_ring (v ∷ x ∷ []) (v0 ⊕ (v1 ⊖ v0)) v1 tt)
        (size_sum _ _ _ _ h.size (size_wider _ _ _ (le_one rational_ring ◌≤q◌ rational_order (whole n ∷ unit ∷ M ∷ slack ∷ [])
        (v0 ⊗ (v1 ⊗ v2)) (v3 ⊗ v2) v2 (v0 ⊗ v1) v3 tt M_not_negative (fewer n l)) h.apart))

    -- so x is at most (k + 1) M in size
    pub near_size : (k n : ℕ) (v x : ℚ) → n ≤ 2 ^ 54 → Near M k n v x → Size (whole (k + 1) *q M) x
    near_size k n v x l h =
        size_same _ _ _ _ (solve rational_ring (whole k ∷ M ∷ []) (v0 ⊗ v1 ⊕ v1) ((v0 ⊕ con (pos 1)) ⊗ v1) tt
        ∙ ap (λ (w : ℚ). w *q M) (sym (rational_ring.of_add (pos k) (pos 1))))
        (solve rational_ring (v ∷ x ∷ []) (v0 ⊕ (v1 ⊖ v0)) v1 tt)
        (size_sum _ _ _ _ h.size (size_wider _ _ _ (few_units n l) h.apart))

    -- more room
    pub near_wider : (k n k' n' : ℕ) (v x : ℚ) → k ≤ k' → n ≤ n' → Near M k n v x → Near M k' n' v x
    near_wider k n k' n' v x l m h =
        record {
          size = size_wider _ _ _ (le_one rational_ring ◌≤q◌ rational_order (whole k ∷ whole k' ∷ M ∷ []) (v0 ⊗ v2) (v1 ⊗ v2) v2 v0 v1 tt
              M_not_negative (whole_order k k' l)) h.size;
          apart = size_wider _ _ _ (le_one rational_ring ◌≤q◌ rational_order (whole n ∷ whole n' ∷ unit ∷ M ∷ []) (v0 ⊗ (v2 ⊗ v3))
              (v1 ⊗ (v2 ⊗ v3)) (v2 ⊗ v3) v0 v1 tt (rational_order.nonnegative_mul unit M unit_not_negative M_not_negative)
              (whole_order n n' m)) h.apart;
        }

    -- rounded: K units further
    pub near_rounded : (k n K : ℕ) (v x r : ℚ) → Near M k n v x → Size (whole K *q (unit *q M)) (r -q x) → Near M k (n + K) v r
    near_rounded k n K v x r h s =
        record {
          size = h.size;
          apart = size_same _ _ _ _ (solve rational_ring (whole n ∷ whole K ∷ (unit *q M) ∷ []) (v0 ⊗ v2 ⊕ v1 ⊗ v2) ((v0 ⊕ v1) ⊗ v2) tt
              ∙ ap (λ (w : ℚ). w *q (unit *q M)) (sym (rational_ring.of_add (pos n) (pos K))))
              (solve rational_ring (v ∷ x ∷ r ∷ []) (v1 ⊖ v0 ⊕ (v2 ⊖ v1)) (v2 ⊖ v0) tt) (size_sum _ _ _ _ h.apart s);
        }

-- products
module _ (M M' P : ℚ) (is : M *q M' ≡ P) (P_not_negative : 𝟘 ≤q P) where
  pub near_product : (k n : ℕ) (v x : ℚ) (k' n' : ℕ) (v' x' : ℚ) → n * n' ≤ 2 ^ 49 → Near M k n v x → Near M' k' n' v' x'
      → Near P (k * k') (n * k' + k * n' + 1) (v *q v') (x *q x')
  near_product k n v x k' n' v' x' l h g =
      record {
        size = size_same _ _ _ _ (combine rational_ring (whole k ∷ whole k' ∷ M ∷ M' ∷ P ∷ []) (v0 ⊗ v2 ⊗ (v1 ⊗ v3)) (v0 ⊗ v1 ⊗ v4) (v0 ⊗ v1)
            (v2 ⊗ v3) v4 tt is ∙ ap (λ (w : ℚ). w *q P) (sym (rational_ring.of_mul (pos k) (pos k')))) refl
            (size_product _ _ _ _ h.size g.size);
        apart = size_wider _ _ _ room (size_same _ _ _ _ refl
            (solve rational_ring (v ∷ x ∷ v' ∷ x' ∷ []) (v0 ⊗ (v3 ⊖ v2) ⊕ (v1 ⊖ v0) ⊗ v2 ⊕ (v1 ⊖ v0) ⊗ (v3 ⊖ v2)) (v1 ⊗ v3 ⊖ v0 ⊗ v2) tt)
            (size_sum _ _ _ _ (size_sum _ _ _ _ (size_product _ _ _ _ h.size g.apart) (size_product _ _ _ _ h.apart g.size))
            (size_product _ _ _ _ h.apart g.apart)));
      }
    where
      E : ℚ
      E = unit *q P

      counts : whole (n * k' + k * n' + 1) ≡ whole n *q whole k' +q whole k *q whole n' +q 𝟙
      counts = rational_ring.of_add (pos (n * k' + k * n')) (pos 1) ∙ ap (λ (z : ℚ). z +q 𝟙) (rational_ring.of_add (pos (n * k'))
          (pos (k * n')) ∙ ap (λ (z : ℚ). z +q whole (k * n')) (rational_ring.of_mul (pos n) (pos k'))
          ∙ ap (λ (z : ℚ). whole n *q whole k' +q z) (rational_ring.of_mul (pos k) (pos n')))

      last : whole n *q whole n' *q unit ≤q 𝟙
      last = subst (λ (z : ℚ). z *q unit ≤q 𝟙) (rational_ring.of_mul (pos n) (pos n')) (few (n * n') (larger_bound (n * n') l))

      room : whole k *q M *q (whole n' *q (unit *q M')) +q whole n *q (unit *q M) *q (whole k' *q M')
          +q whole n *q (unit *q M) *q (whole n' *q (unit *q M')) ≤q whole (n * k' + k * n' + 1) *q (unit *q P)
      room = rw counts (subst (λ (z : ℚ). z ≤q (whole n *q whole k' +q whole k *q whole n' +q 𝟙) *q E) (sym gathered)
          (le_one rational_ring ◌≤q◌ rational_order (whole n ∷ whole k' ∷ whole k ∷ whole n' ∷ unit ∷ E ∷ [])
          ((v0 ⊗ v1 ⊕ v2 ⊗ v3 ⊕ v0 ⊗ v3 ⊗ v4) ⊗ v5) ((v0 ⊗ v1 ⊕ v2 ⊗ v3 ⊕ con (pos 1)) ⊗ v5) v5 (v0 ⊗ v3 ⊗ v4) (con (pos 1)) tt
          (rational_order.nonnegative_mul unit P unit_not_negative P_not_negative) last))
        where
          gathered : whole k *q M *q (whole n' *q (unit *q M')) +q whole n *q (unit *q M) *q (whole k' *q M')
              +q whole n *q (unit *q M) *q (whole n' *q (unit *q M'))
              ≡ (whole n *q whole k' +q whole k *q whole n' +q whole n *q whole n' *q unit) *q (unit *q P)
          gathered = combine rational_ring (whole n ∷ whole k' ∷ whole k ∷ whole n' ∷ unit ∷ M ∷ M' ∷ P ∷ [])
              (v2 ⊗ v5 ⊗ (v3 ⊗ (v4 ⊗ v6)) ⊕ v0 ⊗ (v4 ⊗ v5) ⊗ (v1 ⊗ v6) ⊕ v0 ⊗ (v4 ⊗ v5) ⊗ (v3 ⊗ (v4 ⊗ v6)))
              ((v0 ⊗ v1 ⊕ v2 ⊗ v3 ⊕ v0 ⊗ v3 ⊗ v4) ⊗ (v4 ⊗ v7)) ((v0 ⊗ v1 ⊕ v2 ⊗ v3 ⊕ v0 ⊗ v3 ⊗ v4) ⊗ v4) (v5 ⊗ v6) v7 tt is

-- what is at most itself in size
own_size : (a : ℚ) → 𝟘 ≤q a → Size a a
own_size a h = (
  le_one rational_ring ◌≤q◌ rational_order (a ∷ []) (opposite v0) v0 (con (pos 2)) (con (pos 0)) v0 tt (≤q-whole 2) h,
  ≤q-refl a,
)

-- quotients by a whole number
module _ (M : ℚ) (M_not_negative : 𝟘 ≤q M) (d : ℕ) (positive : Above (whole d)) where
  abbrev part : ℚ
  part = inverse (whole d)

  part_not_negative : 𝟘 ≤q part
  part_not_negative = inverse_nonnegative (whole d) (<q-weaken 𝟘 (whole d) positive)

  divided : (A a B : ℚ) (k k' : ℕ) → 𝟘 ≤q B → k ≤ d * k' → A ≡ whole k *q B → Size A a → Size (whole k' *q B) (a *q part)
  divided A a B k k' b l e h =
      size_wider (A *q part) (whole k' *q B) (a *q part)
      (subst (λ (z : ℚ). z *q part ≤q whole k' *q B) (sym e)
      (subst (λ (z : ℚ). whole k *q B *q part ≤q z)
      (combine rational_ring (whole d ∷ whole k' ∷ B ∷ part ∷ []) (v0 ⊗ v1 ⊗ v2 ⊗ v3) (v1 ⊗ v2) (v1 ⊗ v2) (v0 ⊗ v3) (con (pos 1)) tt
      (inverse_is (whole d) positive))
      (le_one rational_ring ◌≤q◌ rational_order (whole k ∷ whole d ∷ whole k' ∷ B ∷ part ∷ []) (v0 ⊗ v3 ⊗ v4) (v1 ⊗ v2 ⊗ v3 ⊗ v4) (v3 ⊗ v4) v0
      (v1 ⊗ v2) tt (rational_order.nonnegative_mul B part b part_not_negative)
      (subst (λ (z : ℚ). whole k ≤q z) (rational_ring.of_mul (pos d) (pos k')) (whole_order k (d * k') l)))))
      (size_product A part a part h (own_size part part_not_negative))

  pub near_over_whole : (k n k' n' : ℕ) (v x : ℚ) → k ≤ d * k' → n ≤ d * n' → Near M k n v x → Near M k' n' (v /q whole d) (x /q whole d)
  near_over_whole k n k' n' v x l m h =
      record {
        size = divided _ v M k k' M_not_negative l refl h.size;
        apart = size_same _ _ _ _ refl (solve rational_ring (v ∷ x ∷ part ∷ []) ((v1 ⊖ v0) ⊗ v2) (v1 ⊗ v2 ⊖ v0 ⊗ v2) tt)
            (divided _ (x -q v) (unit *q M) n n' (rational_order.nonnegative_mul unit M unit_not_negative M_not_negative) m refl
            h.apart);
      }

-- quotients of lengths: v, at most l, over l
module _ (l : ℚ) (positive : Above l) (v x y : ℚ) (X : Near l 1 9 v x) (Y : Near l 1 9 l y) where
  abbrev E : ℚ
  E = unit *q l

  l_not_negative : 𝟘 ≤q l
  l_not_negative = <q-weaken 𝟘 l positive

  -- 171 units are at most 1
  some : whole 171 *q unit ≤q 𝟙
  some = few 171 (omega arith)

  -- 18 l ≤ 19 y
  pub divisor_large : whole 18 *q l ≤q whole 19 *q y
  divisor_large = le_two rational_ring ◌≤q◌ rational_order (l ∷ y ∷ unit ∷ []) (con (pos 18) ⊗ v0) (con (pos 19) ⊗ v1) (con (pos 19))
      (opposite (con (pos 9) ⊗ (v2 ⊗ v0))) (v1 ⊖ v0) v0 (con (pos 171) ⊗ v2) (con (pos 1)) tt (≤q-whole 19) Y.apart.0 l_not_negative
      some

  pub divisor_above : Above y
  divisor_above = go (≤q-or-< y 𝟘)
    where
      go : (y ≤q 𝟘) ⊎ (𝟘 <q y) → Above y
      go (inr h) = h
      go (inl h) = absurd (never 𝟘 l positive (≤q-trans l (whole 18 *q l) 𝟘
          (le_one rational_ring ◌≤q◌ rational_order (l ∷ []) v0 (con (pos 18) ⊗ v0) (con (pos 17)) (con (pos 0)) v0 tt (≤q-whole 17)
          l_not_negative)
          (≤q-trans (whole 18 *q l) (whole 19 *q y) 𝟘 divisor_large (le_one rational_ring ◌≤q◌ rational_order (y ∷ []) (con (pos 19) ⊗ v0)
          (con (pos 0)) (con (pos 19)) v0 (con (pos 0)) tt (≤q-whole 19) h))))

  abbrev i : ℚ
  i = inverse y

  abbrev j : ℚ
  j = inverse l

  i_is : y *q i ≡ 𝟙
  i_is = inverse_is y divisor_above

  j_is : l *q j ≡ 𝟙
  j_is = inverse_is l positive

  i_not_negative : 𝟘 ≤q i
  i_not_negative = inverse_nonnegative y (<q-weaken 𝟘 y divisor_above)

  j_not_negative : 𝟘 ≤q j
  j_not_negative = inverse_nonnegative l l_not_negative

  -- v / l is at most 1 in size
  ratio : Size (whole 1 *q 𝟙) (v *q j)
  ratio = size_same _ _ _ _ (combine rational_ring (l ∷ j ∷ []) (con (pos 1) ⊗ v0 ⊗ v1) (con (pos 1) ⊗ con (pos 1)) (con (pos 1)) (v0 ⊗ v1)
      (con (pos 1)) tt j_is) refl (size_product _ _ _ _ X.size (own_size j j_not_negative))

  -- x - (v / l) y is at most 18 units of l
  rest : Size (whole 18 *q E) (x -q v *q j *q y)
  rest = size_same _ _ _ _ (solve rational_ring (E ∷ []) (con (pos 9) ⊗ v0 ⊕ con (pos 1) ⊗ con (pos 1) ⊗ (con (pos 9) ⊗ v0))
      (con (pos 18) ⊗ v0) tt)
      (combine rational_ring (v ∷ x ∷ y ∷ l ∷ j ∷ []) (v1 ⊖ v0 ⊕ opposite (v0 ⊗ v4 ⊗ (v2 ⊖ v3))) (v1 ⊖ v0 ⊗ v4 ⊗ v2) v0 (v3 ⊗ v4)
      (con (pos 1)) tt j_is)
      (size_sum _ _ _ _ X.apart (size_negated _ _ (size_product _ _ _ _ ratio Y.apart)))

  pub near_quotient : Near 𝟙 1 19 (v /q l) (x /q y)
  near_quotient =
      record {
        size = ratio;
        apart = size_wider _ _ _ room (size_same _ _ _ _ refl
            (combine rational_ring (v ∷ x ∷ y ∷ j ∷ i ∷ []) ((v1 ⊖ v0 ⊗ v3 ⊗ v2) ⊗ v4) (v1 ⊗ v4 ⊖ v0 ⊗ v3) (opposite (v0 ⊗ v3)) (v2 ⊗ v4)
            (con (pos 1)) tt i_is)
            (size_product _ _ _ _ rest (own_size i i_not_negative)));
      }
    where
      room : whole 18 *q E *q i ≤q whole 19 *q (unit *q 𝟙)
      room = subst (λ (z : ℚ). whole 18 *q E *q i ≤q z) (combine rational_ring (y ∷ i ∷ unit ∷ []) (v2 ⊗ (con (pos 19) ⊗ v0) ⊗ v1)
          (con (pos 19) ⊗ (v2 ⊗ con (pos 1))) (con (pos 19) ⊗ v2) (v0 ⊗ v1) (con (pos 1)) tt i_is)
          (le_one rational_ring ◌≤q◌ rational_order (l ∷ y ∷ i ∷ unit ∷ []) (con (pos 18) ⊗ (v3 ⊗ v0) ⊗ v2) (v3 ⊗ (con (pos 19) ⊗ v1) ⊗ v2)
          (v3 ⊗ v2) (con (pos 18) ⊗ v0) (con (pos 19) ⊗ v1) tt (rational_order.nonnegative_mul unit i unit_not_negative i_not_negative)
          divisor_large)
