-- For x from a to b and y from c to d: what bounds the four combinations of ends bounds x * y, and x / y where 0 < c.
use mathlib.Core.List.{[], ◌∷◌}
use mathlib.Core.Logic.{◌⊎◌, inl, inr}
use mathlib.Core.Path.{◌≡◌, subst}
use lib.IntN.{pos}
use Rattle.fraction.specs.Order.{le_one, le_prod}
use Rattle.fraction.specs.Rational.{Above, ◌*q◌, ◌/q◌, ◌≤q◌, inverse, ℚ, 𝟘}
use Rattle.fraction.specs.RationalRing.{rational_ring}
use Rattle.fraction.specs.Ring.{◌⊗◌, con, solve, v0, v1, v2}
use Rattle.fraction.proofs.Inverse.{inverse_antitone, inverse_is, inverse_nonnegative}
use Rattle.fraction.proofs.Rational.{<q-weaken, <q-≤q-trans, rational_order, ≤q-cases, ≤q-trans}

-- z lies between the lowest and the highest of the four p, q, r, s: what is at most all of them is at most z, and so from above
pub record Spans (p q r s z : ℚ) : Type 0 where
  pub low : (w : ℚ) → w ≤q p → w ≤q q → w ≤q r → w ≤q s → w ≤q z
  pub high : (w : ℚ) → p ≤q w → q ≤q w → r ≤q w → s ≤q w → z ≤q w

-- x in [a, b], and any y: one of the ends times y is at most x * y, and one is at least x * y
ends : (x a b y : ℚ) → a ≤q x → x ≤q b → (a *q y ≤q x *q y) ⊎ (b *q y ≤q x *q y)
ends x a b y l u = elim (≤q-cases (𝟘) y) [
  | inl p ↦ inl (le_one rational_ring ◌≤q◌ rational_order (x ∷ a ∷ y ∷ []) (v1 ⊗ v2) (v0 ⊗ v2) v2 v1 v0 tt p l)
  | inr n ↦ inr (le_prod rational_ring ◌≤q◌ rational_order (x ∷ b ∷ y ∷ []) (v1 ⊗ v2) (v0 ⊗ v2) v0 v1 v2 (con (pos 0)) tt u n)
]

-- what is at most the four products of ends is at most x * y
pub product_above : (x a b y c d : ℚ) → a ≤q x → x ≤q b → c ≤q y → y ≤q d → (w : ℚ) → w ≤q a *q c → w ≤q a *q d → w ≤q b *q c → w ≤q b *q d
    → w ≤q x *q y
product_above x a b y c d l u m v w h₁ h₂ h₃ h₄ = elim (ends x a b y l u) [
  | inl p ↦ ≤q-trans w (a *q y) (x *q y) (side a h₁ h₂) p
  | inr p ↦
      ≤q-trans w (b *q y) (x *q y) (side b h₃ h₄) p
]
  where
    turn : (p q : ℚ) → p *q q ≡ q *q p
    turn p q = solve rational_ring (p ∷ q ∷ []) (v0 ⊗ v1) (v1 ⊗ v0) tt

    side : (e : ℚ) → w ≤q e *q c → w ≤q e *q d → w ≤q e *q y
    side e h k = subst (λ (z : ℚ). w ≤q z) (turn y e) (elim (ends y c d e m v) [
      | inl p ↦ ≤q-trans w (c *q e) (y *q e) (subst (λ (z : ℚ). w ≤q z) (turn e c) h) p
      | inr p ↦ ≤q-trans w (d *q e) (y *q e) (subst (λ (z : ℚ). w ≤q z) (turn e d) k) p
    ])

ends_up : (x a b y : ℚ) → a ≤q x → x ≤q b → (x *q y ≤q a *q y) ⊎ (x *q y ≤q b *q y)
ends_up x a b y l u = elim (≤q-cases (𝟘) y) [
  | inl p ↦ inr (le_one rational_ring ◌≤q◌ rational_order (x ∷ b ∷ y ∷ []) (v0 ⊗ v2) (v1 ⊗ v2) v2 v0 v1 tt p u)
  | inr n ↦ inl (le_prod rational_ring ◌≤q◌ rational_order (x ∷ a ∷ y ∷ []) (v0 ⊗ v2) (v1 ⊗ v2) v1 v0 v2 (con (pos 0)) tt l n)
]

-- what is at least the four products of ends is at least x * y
pub product_below : (x a b y c d : ℚ) → a ≤q x → x ≤q b → c ≤q y → y ≤q d → (w : ℚ) → a *q c ≤q w → a *q d ≤q w → b *q c ≤q w → b *q d ≤q w
    → x *q y ≤q w
product_below x a b y c d l u m v w h₁ h₂ h₃ h₄ = elim (ends_up x a b y l u) [
  | inl p ↦ ≤q-trans (x *q y) (a *q y) w p (side a h₁ h₂)
  | inr p
      ↦ ≤q-trans (x *q y) (b *q y) w p (side b h₃ h₄)
]
  where
    turn : (p q : ℚ) → p *q q ≡ q *q p
    turn p q = solve rational_ring (p ∷ q ∷ []) (v0 ⊗ v1) (v1 ⊗ v0) tt

    side : (e : ℚ) → e *q c ≤q w → e *q d ≤q w → e *q y ≤q w
    side e h k = subst (λ (z : ℚ). z ≤q w) (turn y e) (elim (ends_up y c d e m v) [
      | inl p ↦ ≤q-trans (y *q e) (c *q e) w p (subst (λ (z : ℚ). z ≤q w) (turn e c) h)
      | inr p ↦ ≤q-trans (y *q e) (d *q e) w p (subst (λ (z : ℚ). z ≤q w) (turn e d) k)
    ])

module _ (x a b y c d : ℚ) (l : a ≤q x) (u : x ≤q b) (m : c ≤q y) (v : y ≤q d) where
  -- x * y lies between the products of ends
  pub product_spans : Spans (a *q c) (a *q d) (b *q c) (b *q d) (x *q y)
  product_spans = record { low = product_above x a b y c d l u m v; high = product_below x a b y c d l u m v }

-- a divisor above 0: its inverse lies between the inverses of its ends, taken the other way round
pub quotient_spans : (x a b y c d : ℚ) → a ≤q x → x ≤q b → Above c → c ≤q y → y ≤q d → Spans (a /q c) (a /q d) (b /q c) (b /q d) (x /q y)
quotient_spans x a b y c d l u C m v =
    let Y = <q-≤q-trans 𝟘 c y C m in
    let D = <q-≤q-trans 𝟘 y d Y v in
    let i = inverse_antitone y d (inverse y) (inverse d) (inverse_is y Y) (inverse_is d D) (inverse_nonnegative y (<q-weaken 𝟘 y Y))
    (inverse_nonnegative d (<q-weaken 𝟘 d D)) v in
    let j = inverse_antitone c y (inverse c) (inverse y) (inverse_is c C) (inverse_is y Y) (inverse_nonnegative c (<q-weaken 𝟘 c C))
    (inverse_nonnegative y (<q-weaken 𝟘 y Y)) m in
    let S = product_spans x a b (inverse y) (inverse d) (inverse c) l u i j in
    record { low = λ w p q r s. S.low w q p s r; high = λ w p q r s. S.high w q p s r }
