-- Halving six Bernstein coefficients. Over exact fractions the halves give the same polynomial on [0, 1/2] and on [1/2, 1]; and what the
-- operations keep, both halves keep: so halves of end pairs enclose the exact halves.
use mathlib.Core.List.{[], ◌∷◌}
use mathlib.Core.Logic.{inl, inr}
use mathlib.Core.Path.{◌∙◌, ◌≡◌, ap, fun_ext, refl, subst, sym}
use Prim.Native.Nat.{ℕ, zero, suc, ◌+◌, ◌-◌, ◌≤◌}
use native.Mathlib.Omega.{arith}
use lib.IntN.{pos}
use Rattle.fraction.specs.Bernstein.{bernstein_form, de_casteljau}
use Rattle.fraction.specs.Order.{le_one}
use Rattle.fraction.specs.Rational.{Above, ◌*q◌, ◌+q◌, ◌-q◌, ◌/q◌, ◌≤q◌, at_mostq, inverse, wholeq, ℚ, 𝟘, 𝟙}
use Rattle.fraction.specs.RationalRing.{rational_ring}
use Rattle.fraction.specs.Ring.{◌⊕◌, ◌⊖◌, ◌⊗◌, combine, con, solve, v0, v1, v2, v3, v4}
use Rattle.fraction.proofs.Bernstein.{de_casteljau_law}
use Rattle.fraction.proofs.Inverse.{inverse_is}
use Rattle.fraction.proofs.Polynomial.{monus, monus_is, monus_step}
use Rattle.fraction.proofs.Rational.{rational_order, ≤q-cases, ≤q-whole}
use Rattle.figure.specs.Halving.{left_half, level, midpoint, right_half}
use Rattle.figure.specs.Operations.{Operations}
use Rattle.figure.proofs.Enclosure.{Keeps, exact}

-- ---- relations that the operations keep
module _ {A B : Type 0} (o : Operations A) (e : Operations B) (R : A → B → Type 0) (K : Keeps o e R) (p : ℕ → A) (q : ℕ → B)
    (h : (k : ℕ) → k ≤ 5 → R (p k) (q k)) where
  level_keeps : (r i : ℕ) → r + i ≤ 5 → R (level o r p i) (level e r q i)
  unfolding level
  level_keeps zero i l = h i (omega arith)
  level_keeps (suc r) i l = K.over _ _ _ _ (K.plus _ _ _ _ (level_keeps r i (omega arith)) (level_keeps r (suc i) (omega arith)))
      (K.whole 2 (omega arith))

  pub left_keeps : (k : ℕ) → k ≤ 5 → R (left_half o p k) (left_half e q k)
  left_keeps k l = level_keeps k 0 (omega arith)

  pub right_keeps : (k : ℕ) → k ≤ 5 → R (right_half o p k) (right_half e q k)
  right_keeps k l = level_keeps (5 - k) k (omega arith)

-- ---- the triangle from the other side
module _ {A : Type 0} (o : Operations A) where
  abbrev midpoints : (ℕ → A) → ℕ → A
  midpoints c i = midpoint o (c i) (c (suc i))

  -- a further level of c is that level of the midpoints
  level_midpoints : (r : ℕ) (c : ℕ → A) (i : ℕ) → level o (suc r) c i ≡ level o r (midpoints c) i
  unfolding level
  level_midpoints zero c i = refl
  level_midpoints (suc r) c i = rw (level_midpoints r c i, level_midpoints r c (suc i))

  level_shift : (r : ℕ) (c : ℕ → A) (i : ℕ) → level o r c (suc i) ≡ level o r (λ j. c (suc j)) i
  unfolding level
  level_shift zero c i = refl
  level_shift (suc r) c i = rw (level_shift r c i, level_shift r c (suc i))

-- ---- over exact fractions
-- 1/2
abbrev pub half : ℚ
half = inverse (wholeq (pos 2))

two_above : Above (wholeq (pos 2))
unfolding at_mostq
two_above = tt

half_is : wholeq (pos 2) *q half ≡ 𝟙
half_is = inverse_is (wholeq (pos 2)) two_above

abbrev pub cut : ℕ → (ℕ → ℚ) → ℚ → ℚ
cut = de_casteljau rational_ring

-- it depends on the coefficients 0 to n
cut_same : (n : ℕ) (c d : ℕ → ℚ) (u : ℚ) → ((k : ℕ) → k ≤ n → c k ≡ d k) → cut n c u ≡ cut n d u
cut_same zero c d u h = h 0 (omega arith)
cut_same (suc n) c d u h =
    let a = cut_same n c d u (λ k l. h k (omega arith)) in
    let b = cut_same n (λ i. c (suc i)) (λ i. d (suc i)) u (λ k l. h (suc k) (omega arith)) in
    ap (λ (z : ℚ). (𝟙 -q u) *q z +q u *q cut n (λ i. c (suc i)) u) a ∙ ap (λ (z : ℚ). (𝟙 -q u) *q cut n d u +q u *q z) b

cut_midpoints : (n : ℕ) (c : ℕ → ℚ) (u : ℚ) → cut n (midpoints exact c) u ≡ (cut n c u +q cut n (λ i. c (suc i)) u) *q half
cut_midpoints zero c u = refl
cut_midpoints (suc n) c u =
    let d : ℕ → ℚ = λ i. c (suc i) in
    ap (λ (z : ℚ). (𝟙 -q u) *q z +q u *q cut n (midpoints exact d) u) (cut_midpoints n c u)
    ∙ ap (λ (z : ℚ). (𝟙 -q u) *q ((cut n c u +q cut n d u) *q half) +q u *q z) (cut_midpoints n d u)
    ∙ solve rational_ring (u ∷ half ∷ cut n c u ∷ cut n d u ∷ cut n (λ i. d (suc i)) u ∷ [])
    ((con (pos 1) ⊖ v0) ⊗ ((v2 ⊕ v3) ⊗ v1) ⊕ v0 ⊗ ((v3 ⊕ v4) ⊗ v1)) (((con (pos 1) ⊖ v0) ⊗ v2 ⊕ v0 ⊗ v3 ⊕
    ((con (pos 1) ⊖ v0) ⊗ v3 ⊕ v0 ⊗ v4)) ⊗ v1) tt

-- the left half at u is the whole at u/2, for any degree
cut_left : (n : ℕ) (c : ℕ → ℚ) (u : ℚ) → cut n (λ k. level exact k c 0) u ≡ cut n c (u *q half)
unfolding level
cut_left zero c u = refl
cut_left (suc n) c u =
    let w = u *q half in
    let d : ℕ → ℚ = λ i. c (suc i) in
    ap (λ (z : ℚ). (𝟙 -q u) *q z +q u *q cut n (λ k. level exact (suc k) c 0) u) (cut_left n c u)
    ∙ ap (λ (z : ℚ). (𝟙 -q u) *q cut n c w +q u *q z)
    (ap (λ (f : ℕ → ℚ). cut n f u) (fun_ext (λ k. level_midpoints exact k c 0)) ∙ cut_left n (midpoints exact c) u ∙ cut_midpoints n c w)
    ∙ combine rational_ring (u ∷ half ∷ cut n c w ∷ cut n d w ∷ []) ((con (pos 1) ⊖ v0) ⊗ v2 ⊕ v0 ⊗ ((v2 ⊕ v3) ⊗ v1))
    ((con (pos 1) ⊖ v0 ⊗ v1) ⊗ v2 ⊕ v0 ⊗ v1 ⊗ v3)
    (v0 ⊗ v2) (con (pos 2) ⊗ v1) (con (pos 1)) tt half_is

-- and the right half that at 1/2 + u/2
cut_right : (n : ℕ) (c : ℕ → ℚ) (u : ℚ) → cut n (λ k. level exact (monus n k) c k) u ≡ cut n c (half +q u *q half)
unfolding level
cut_right zero c u = refl
cut_right (suc n) c u =
    let w = half +q u *q half in
    let d : ℕ → ℚ = λ i. c (suc i) in
    ap (λ (z : ℚ). (𝟙 -q u) *q z +q u *q cut n (λ k. level exact (monus n k) c (suc k)) u)
    (cut_same n (λ k. level exact (monus (suc n) k) c k) (λ k. level exact (monus n k) (midpoints exact c) k) u
    (λ k l. ap (λ (r : ℕ). level exact r c k) (monus_step (suc n) k (omega arith)) ∙ level_midpoints exact (monus n k) c k)
    ∙ cut_right n (midpoints exact c) u ∙ cut_midpoints n c w)
    ∙ ap (λ (z : ℚ). (𝟙 -q u) *q ((cut n c w +q cut n d w) *q half) +q u *q z) (ap (λ (f : ℕ → ℚ). cut n f u)
    (fun_ext (λ k. level_shift exact (monus n k) c k)) ∙ cut_right n d u)
    ∙ combine rational_ring (u ∷ half ∷ cut n c w ∷ cut n d w ∷ []) ((con (pos 1) ⊖ v0) ⊗ ((v2 ⊕ v3) ⊗ v1) ⊕ v0 ⊗ v3)
    ((con (pos 1) ⊖ (v1 ⊕ v0 ⊗ v1)) ⊗ v2 ⊕ (v1 ⊕ v0 ⊗ v1) ⊗ v3)
    (v2 ⊖ v0 ⊗ v3) (con (pos 2) ⊗ v1) (con (pos 1)) tt half_is

pub left_is : (c : ℕ → ℚ) (u : ℚ) → cut 5 (left_half exact c) u ≡ cut 5 c (u *q half)
left_is c u = cut_left 5 c u

pub right_is : (c : ℕ → ℚ) (u : ℚ) → cut 5 (right_half exact c) u ≡ cut 5 c (half +q u *q half)
right_is c u = cut_same 5 (right_half exact c) (λ k. level exact (monus 5 k) c k) u (λ k l. ap (λ (r : ℕ). level exact r c k)
    (sym (monus_is 5 k))) ∙ cut_right 5 c u

-- The theorem: with eq. 1.8's polynomials, the left half's coefficients give at u what c give at u/2, and the right half's what c give at
-- (1 + u)/2.
pub left_half_law : (c : ℕ → ℚ) (u : ℚ) → bernstein_form rational_ring 5 (left_half exact c) u
    ≡ bernstein_form rational_ring 5 c (u /q wholeq (pos 2))
left_half_law c u = sym (de_casteljau_law rational_ring 5 (left_half exact c) u) ∙ left_is c u ∙ de_casteljau_law rational_ring 5 c (u *q half)

pub right_half_law : (c : ℕ → ℚ) (u : ℚ) → bernstein_form rational_ring 5 (right_half exact c) u
    ≡ bernstein_form rational_ring 5 c ((𝟙 +q u) /q wholeq (pos 2))
right_half_law c u =
    sym (de_casteljau_law rational_ring 5 (right_half exact c) u) ∙ right_is c u ∙ de_casteljau_law rational_ring 5 c (half +q u *q half)
    ∙ ap (bernstein_form rational_ring 5 c) (solve rational_ring (u ∷ half ∷ []) (v1 ⊕ v0 ⊗ v1) ((con (pos 1) ⊕ v0) ⊗ v1) tt)

-- ---- what bounds both halves bounds the whole
-- the value lies from a to b, everywhere from 0 to 1
abbrev pub Throughout : ℚ → ℚ → (ℕ → ℚ) → Type 0
Throughout a b c = (v : ℚ) → 𝟘 ≤q v → v ≤q 𝟙 → (a ≤q cut 5 c v) × (cut 5 c v ≤q b)

pub halves_bound : (a b : ℚ) (c : ℕ → ℚ) → Throughout a b (left_half exact c) → Throughout a b (right_half exact c) → Throughout a b c
halves_bound a b c L R v v0' v1' = elim (≤q-cases v half) [
  | inl h ↦
      let u = wholeq (pos 2) *q v in
      let e : cut 5 (left_half exact c) u ≡ cut 5 c v = left_is c u ∙ ap (cut 5 c) (combine rational_ring (v ∷ half ∷ [])
      (con (pos 2) ⊗ v0 ⊗ v1) v0 v0 (con (pos 2) ⊗ v1) (con (pos 1)) tt half_is) in
      subst (λ (z : ℚ). (a ≤q z) × (z ≤q b)) e (L u
      (le_one rational_ring ◌≤q◌ rational_order (v ∷ []) (con (pos 0)) (con (pos 2) ⊗ v0) (con (pos 2)) (con (pos 0)) v0 tt (≤q-whole 2)
      v0')
      (subst (λ (z : ℚ). u ≤q z) half_is (le_one rational_ring ◌≤q◌ rational_order (v ∷ half ∷ []) (con (pos 2) ⊗ v0) (con (pos 2) ⊗ v1)
      (con (pos 2)) v0 v1 tt (≤q-whole 2) h)))
  | inr h ↦
      let u = wholeq (pos 2) *q v -q 𝟙 in
      let e : cut 5 (right_half exact c) u ≡ cut 5 c v
      = right_is c u ∙ ap (cut 5 c) (combine rational_ring (v ∷ half ∷ []) (v1 ⊕ (con (pos 2) ⊗ v0 ⊖ con (pos 1)) ⊗ v1) v0 v0
      (con (pos 2) ⊗ v1) (con (pos 1)) tt half_is) in
      subst (λ (z : ℚ). (a ≤q z) × (z ≤q b)) e (R u
      (subst (λ (z : ℚ). z ≤q u) (ap (λ (z : ℚ). z -q 𝟙) half_is ∙ solve rational_ring [] (con (pos 1) ⊖ con (pos 1)) (con (pos 0)) tt)
      (le_one rational_ring ◌≤q◌ rational_order (v ∷ half ∷ []) (con (pos 2) ⊗ v1 ⊖ con (pos 1)) (con (pos 2) ⊗ v0 ⊖ con (pos 1))
      (con (pos 2)) v1 v0 tt (≤q-whole 2) h))
      (le_one rational_ring ◌≤q◌ rational_order (v ∷ []) (con (pos 2) ⊗ v0 ⊖ con (pos 1)) (con (pos 1)) (con (pos 2)) v0 (con (pos 1)) tt
      (≤q-whole 2) v1'))
]
