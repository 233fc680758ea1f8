-- The order of ℚ, and what an equation or an order in ℚ says of fractions as they are written.
use mathlib.Core.Bool.{Bool, ◌||◌, cond, false, not, true}
use mathlib.Core.HLevel.{Π_prop}
use mathlib.Core.List.{[], ◌∷◌}
use mathlib.Core.Logic.{◌⊎◌, inl, inr}
use mathlib.Core.Path.{◌≡◌, refl, subst, sym}
use std.Quotient.{/_elim_prop, /_elim_prop₂, /_elim_prop₃, /_set, IsEquivRel, cls, effective, eq/}
use Prim.Native.Nat.{◌*◌, ℕ}
use native.Mathlib.Nat.{le_of_lt}
use native.Mathlib.Omega.{arith}
use lib.Dec.{T, T_not, T_prop, nleb→lt}
use lib.IntN.{◌*ℤ◌, pos, ℤ_set}
use Rattle.fraction.specs.Fraction.{Fraction, ◌≈◌, ◌≤f◌, add_fractions, fraction_at_most, multiply_fractions, whole_fraction}
use Rattle.fraction.specs.Integer.{◌≤z◌, equal_by_parts, integer_order, integer_ring}
use Rattle.fraction.specs.Order.{OrderedRing, le_one, le_prod}
use Rattle.fraction.specs.Rational.{Above, ◌*q◌, ◌+q◌, ◌-q◌, ◌<q◌, ◌≤q◌, absolute, at_mostq, negq, wholeq, ℚ, 𝟘}
use Rattle.fraction.specs.RationalRing.{rational_ring}
use Rattle.fraction.specs.Ring.{◌⊕◌, ◌⊖◌, ◌⊗◌, con, opposite, solve, v0, v1, v2, v3, v4, v5}
use Rattle.fraction.specs.WellDefined.{fraction_at_most_law, fraction_test, natural_nonnegative, ≈-trans, ≤f-trans}

≈-prop : (a b : Fraction) → IsProp (a ≈ b)
≈-prop a b = ℤ_set (a.numerator *ℤ pos b.denominator) (b.numerator *ℤ pos a.denominator)

≈-equivalence : IsEquivRel ◌≈◌
≈-equivalence = record { reflexive = λ a. refl; symmetric = λ a b h. sym h; transitive = ≈-trans }

-- equal in ℚ means equal by cross products; and equal by cross products gives equal in ℚ (`eq/`)
pub equal_means_≈ : (a b : Fraction) → ◌≡◌ {A = ℚ} (cls a) (cls b) → a ≈ b
equal_means_≈ = effective ≈-prop ≈-equivalence

≤f-add : (a b c : Fraction) → a ≤f b → add_fractions a c ≤f add_fractions b c
≤f-add a b c h =
    le_one integer_ring ◌≤z◌ integer_order (a.numerator ∷ b.numerator ∷ c.numerator ∷ pos a.denominator ∷ pos b.denominator ∷ pos
    c.denominator ∷ [])
    ((v0 ⊗ v5 ⊕ v2 ⊗ v3) ⊗ (v4 ⊗ v5)) ((v1 ⊗ v5 ⊕ v2 ⊗ v4) ⊗ (v3 ⊗ v5)) (v5 ⊗ v5) (v0 ⊗ v4) (v1 ⊗ v3) tt
    (natural_nonnegative (c.denominator * c.denominator)) h

nonnegative_mul_fractions : (a b : Fraction) → whole_fraction (pos 0) ≤f a → whole_fraction (pos 0) ≤f b
    → whole_fraction (pos 0) ≤f multiply_fractions a b
nonnegative_mul_fractions a b h k =
    le_prod integer_ring ◌≤z◌ integer_order (a.numerator ∷ b.numerator ∷ pos a.denominator ∷ pos b.denominator ∷ [])
    (con (pos 0) ⊗ (v2 ⊗ v3)) (v0 ⊗ v1 ⊗ con (pos 1))
    (con (pos 0) ⊗ v2) (v0 ⊗ con (pos 1)) (con (pos 0) ⊗ v3) (v1 ⊗ con (pos 1)) tt h k

-- the laws of an ordered ring
pub ≤q-refl : (a : ℚ) → a ≤q a
unfolding at_mostq
≤q-refl = /_elim_prop (λ x. x ≤q x) (λ x. T_prop (at_mostq x x))
    (λ a. fraction_test a a (integer_order.le_refl (a.numerator *ℤ pos a.denominator)))

pub ≤q-trans : (a b c : ℚ) → a ≤q b → b ≤q c → a ≤q c
unfolding at_mostq
≤q-trans = /_elim_prop₃ (λ x y z. x ≤q y → y ≤q z → x ≤q z) (λ x y z. Π_prop (λ _. Π_prop (λ _. T_prop (at_mostq x z))))
    (λ a b c h k. fraction_test a c (≤f-trans a b c (fraction_at_most_law a b h) (fraction_at_most_law b c k)))

pub ≤q-add : (a b c : ℚ) → a ≤q b → a +q c ≤q b +q c
unfolding at_mostq ◌+q◌
≤q-add = /_elim_prop₃ (λ x y z. x ≤q y → x +q z ≤q y +q z) (λ x y z. Π_prop (λ _. T_prop (at_mostq (x +q z) (y +q z))))
    (λ a b c h. fraction_test (add_fractions a c) (add_fractions b c) (≤f-add a b c (fraction_at_most_law a b h)))

pub ≤q-mul : (a b : ℚ) → wholeq (pos 0) ≤q a → wholeq (pos 0) ≤q b → wholeq (pos 0) ≤q a *q b
unfolding at_mostq ◌*q◌
≤q-mul = /_elim_prop₂ (λ x y. wholeq (pos 0) ≤q x → wholeq (pos 0) ≤q y → wholeq (pos 0) ≤q x *q y)
    (λ x y. Π_prop (λ _. Π_prop (λ _. T_prop (at_mostq (wholeq (pos 0)) (x *q y)))))
    (λ a b h k. fraction_test (whole_fraction (pos 0)) (multiply_fractions a b) (nonnegative_mul_fractions a b
    (fraction_at_most_law (whole_fraction (pos 0)) a h) (fraction_at_most_law (whole_fraction (pos 0)) b k)))

pub ≤q-whole : (n : ℕ) → wholeq (pos 0) ≤q wholeq (pos n)
unfolding at_mostq
≤q-whole n = fraction_test (whole_fraction (pos 0)) (whole_fraction (pos n)) (omega arith)

-- ℚ as an ordered ring
pub rational_order : OrderedRing rational_ring ◌≤q◌
rational_order = record { le_refl = ≤q-refl; le_trans = ≤q-trans; le_add = ≤q-add; nonnegative_of = ≤q-whole; nonnegative_mul = ≤q-mul }

or_prop : (x y : Bool) → (T (not x) → T y) → T (x || y)
or_prop true y h = tt
or_prop false y h = h tt

-- one of two numbers is at most the other
pub ≤q-total : (x y : ℚ) → T (at_mostq x y || at_mostq y x)
unfolding at_mostq
≤q-total = /_elim_prop₂ (λ x y. T (at_mostq x y || at_mostq y x)) (λ x y. T_prop (at_mostq x y || at_mostq y x))
    (λ a b. or_prop (fraction_at_most a b) (fraction_at_most b a) (λ t. fraction_test b a (le_of_lt (nleb→lt _ _ t))))

-- the same as a choice
pub ≤q-cases : (x y : ℚ) → (x ≤q y) ⊎ (y ≤q x)
≤q-cases x y = go (at_mostq x y) (at_mostq y x) (≤q-total x y)
  where
    go : (a b : Bool) → T (a || b) → T a ⊎ T b
    go true b t = inl tt
    go false b t = inr t

-- the order in ℚ is that of the cross products
pub ≤q-means-≤f : (a b : Fraction) → cls a ≤q cls b → a ≤f b
unfolding at_mostq
≤q-means-≤f a b h = fraction_at_most_law a b h

pub ≤f-gives-≤q : (a b : Fraction) → a ≤f b → cls a ≤q cls b
unfolding at_mostq
≤f-gives-≤q a b h = fraction_test a b h

-- x < y gives x ≤ y
pub <q-weaken : (x y : ℚ) → x <q y → x ≤q y
<q-weaken x y h = go (at_mostq x y) (at_mostq y x) h (≤q-total x y)
  where
    go : (a b : Bool) → T (not b) → T (a || b) → T a
    go true b h t = tt
    go false true h t = absurd h
    go false false h t = absurd t

not_test : (b : Bool) → (T b → ⊥) → T (not b)
not_test true f = f tt
not_test false f = tt

-- x < y ≤ z, and x ≤ y < z, give x < z
pub <q-≤q-trans : (x y z : ℚ) → x <q y → y ≤q z → x <q z
<q-≤q-trans x y z h g = not_test (at_mostq z x) (λ k. T_not (at_mostq y x) h (≤q-trans y z x g k))

pub ≤q-<q-trans : (x y z : ℚ) → x ≤q y → y <q z → x <q z
≤q-<q-trans x y z h g = not_test (at_mostq z x) (λ k. T_not (at_mostq z y) g (≤q-trans z x y k h))

-- x < y gives 0 < y - x
pub difference_above : (x y : ℚ) → x <q y → Above (y -q x)
difference_above x y h = not_test (at_mostq (y -q x) 𝟘) (λ k. T_not (at_mostq y x) h
    (subst (λ (z : ℚ). z ≤q x) (solve rational_ring (x ∷ y ∷ []) (v1 ⊖ v0 ⊕ v0) v1 tt)
    (subst (λ (z : ℚ). y -q x +q x ≤q z) (solve rational_ring (x ∷ y ∷ []) (con (pos 0) ⊕ v0) v0 tt) (≤q-add (y -q x) 𝟘 x k))))

-- -m ≤ x ≤ m gives |x| ≤ m
pub absolute_le : (x m : ℚ) → negq m ≤q x → x ≤q m → absolute x ≤q m
unfolding absolute
absolute_le x m l u = go (at_mostq 𝟘 x)
  where
    go : (b : Bool) → cond b x (negq x) ≤q m
    go true = u
    go false = le_one rational_ring ◌≤q◌ rational_order (x ∷ m ∷ []) (opposite v0) v1 (con (pos 1)) (opposite v1) v0 tt (≤q-whole 1) l

-- x ≤ |x| and -x ≤ |x|
pub absolute_above : (x : ℚ) → (x ≤q absolute x) × (negq x ≤q absolute x)
unfolding absolute
absolute_above x = go (at_mostq 𝟘 x) (λ t. t) (<q-weaken x 𝟘)
  where
    go : (b : Bool) → (T b → 𝟘 ≤q x) → (T (not b) → x ≤q 𝟘) → (x ≤q cond b x (negq x)) × (negq x ≤q cond b x (negq x))
    go true h k = (
      ≤q-refl x,
      le_one rational_ring ◌≤q◌ rational_order (x ∷ []) (opposite v0) v0 (con (pos 2)) (con (pos 0)) v0 tt
          (≤q-whole 2) (h tt),
    )
    go false h k = (
      le_one rational_ring ◌≤q◌ rational_order (x ∷ []) v0 (opposite v0) (con (pos 2)) v0 (con (pos 0)) tt (≤q-whole 2) (k tt),
      ≤q-refl (negq x),
    )

-- x ≤ y and y ≤ x give x = y
pub ≤q-antisymmetric : (x y : ℚ) → x ≤q y → y ≤q x → x ≡ y
≤q-antisymmetric = /_elim_prop₂ (λ x y. x ≤q y → y ≤q x → x ≡ y) (λ x y. Π_prop (λ _. Π_prop (λ _. /_set _ _)))
    (λ a b h k. let h = ≤q-means-≤f a b h in let k = ≤q-means-≤f b a k in eq/ a b (equal_by_parts (a.numerator *ℤ pos b.denominator)
    (b.numerator *ℤ pos a.denominator) (omega arith)))

-- x ≤ y gives -y ≤ -x
pub ≤q-negated : (x y : ℚ) → x ≤q y → negq y ≤q negq x
≤q-negated x y h = le_one rational_ring ◌≤q◌ rational_order (x ∷ y ∷ []) (opposite v1) (opposite v0) (con (pos 1)) v0 v1 tt (≤q-whole 1) h

-- not both x < y and y ≤ x
pub never : (x y : ℚ) → x <q y → y ≤q x → ⊥
never x y h k = T_not (at_mostq y x) h k

-- one of them
pub ≤q-or-< : (x y : ℚ) → (x ≤q y) ⊎ (y <q x)
≤q-or-< x y = go (at_mostq x y)
  where
    go : (b : Bool) → T b ⊎ T (not b)
    go true = inl tt
    go false = inr tt
