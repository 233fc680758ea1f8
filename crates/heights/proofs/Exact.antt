-- Each height is within half of the exact polynomial of the whole controls.
use mathlib.Core.Path.{◌≡◌, refl, sym, ap, ◌∙◌, subst}
use mathlib.Core.List.{List, [], ◌∷◌}
use Prim.Native.Nat.{ℕ, zero, suc, ◌+◌, ◌*◌, ◌-◌, ◌/◌, ◌^◌, ◌≤◌}
use native.Mathlib.Omega.{arith}
use native.Mathlib.Nat.{pow-zero, pow-succ'}
use lib.IntN.{ℤ, pos, negsuc, neg_ℤ, ◌*ℤ◌}
use lib.ListN.{get_or}
use std.Quotient.{/_rec}
use Rattle.fraction.specs.Bernstein.{bernstein, complement}
use Rattle.fraction.specs.Binomial.{choose}
use Rattle.fraction.specs.Fraction.{whole_fraction}
use Rattle.fraction.specs.Order.{le_one}
use Rattle.fraction.specs.Rational.{ℚ, wholeq, negq, inverse, absolute, at_mostq, ◌+q◌, ◌-q◌, ◌*q◌, ◌≤q◌}
use Rattle.fraction.specs.RationalRing.{rational_ring, wholeq_add, wholeq_mul}
use Rattle.fraction.specs.Ring.{Expression, ◌⊕◌, ◌⊖◌, ◌⊗◌, opposite, combine, combine2, con, solve, v0, v1, v2, v3, v4, v5, v6, v7, v8}
use Rattle.fraction.specs.Sum.{power, sum}
use Rattle.fraction.proofs.Inverse.{inverse_is, inverse_nonnegative}
use Rattle.fraction.proofs.Rational.{rational_order, ≤f-gives-≤q, absolute_le}
use Rattle.heights.specs.Weights.{weight_of}
use Rattle.heights.specs.Height.{weighted, nearest_whole, height_of}
use Rattle.heights.specs.Exact.{exact_height, WithinHalf}

v_is : wholeq (pos 256) *q inverse (wholeq (pos 256)) ≡ wholeq (pos 1)
unfolding at_mostq
v_is = inverse_is (wholeq (pos 256)) tt

whole_power : (j k : ℕ) → wholeq (pos (j ^ k)) ≡ power rational_ring (wholeq (pos j)) k
whole_power j zero = ap (λ (n : ℕ). wholeq (pos n)) (pow-zero j)
whole_power j (suc k) = ap (λ (n : ℕ). wholeq (pos n)) (pow-succ' j k) ∙ wholeq_mul (pos j) (pos (j ^ k))
    ∙ ap (λ (x : ℚ). wholeq (pos j) *q x) (whole_power j k)

-- a weight, in ℚ
abbrev weightq : ℚ → ℚ → ℕ → ℚ
weightq a b k = wholeq (pos (choose 5 k)) *q power rational_ring a k *q power rational_ring b (5 - k)

whole_weight : (j k : ℕ) → wholeq (pos (weight_of j k)) ≡ weightq (wholeq (pos j)) (wholeq (pos (256 - j))) k
whole_weight j k =
    wholeq_mul (pos (choose 5 k * j ^ k)) (pos ((256 - j) ^ (5 - k)))
    ∙ ap (λ (x : ℚ). x *q wholeq (pos ((256 - j) ^ (5 - k)))) (wholeq_mul (pos (choose 5 k)) (pos (j ^ k))
    ∙ ap (λ (x : ℚ). wholeq (pos (choose 5 k)) *q x) (whole_power j k))
    ∙ ap (λ (x : ℚ). wholeq (pos (choose 5 k)) *q power rational_ring (wholeq (pos j)) k *q x) (whole_power (256 - j) (5 - k))

abbrev weightedq : (ℕ → ℚ) → ℚ → ℚ → ℕ → ℚ
weightedq c a b zero = wholeq (pos 0)
weightedq c a b (suc k) = weightedq c a b k +q c k *q weightq a b k

whole_weighted : (c : List ℤ) (j k : ℕ) → wholeq (weighted c j k) ≡ weightedq (λ k. wholeq (get_or c k (pos 0))) (wholeq (pos j))
    (wholeq (pos (256 - j))) k
unfolding weighted
whole_weighted c j zero = refl
whole_weighted c j (suc k) =
    wholeq_add (weighted c j k) (get_or c k (pos 0) *ℤ pos (weight_of j k))
    ∙ ap (λ (x : ℚ). x +q wholeq (get_or c k (pos 0) *ℤ pos (weight_of j k))) (whole_weighted c j k)
    ∙ ap (λ (x : ℚ). weightedq (λ k. wholeq (get_or c k (pos 0))) (wholeq (pos j)) (wholeq (pos (256 - j))) k +q x)
    (wholeq_mul (get_or c k (pos 0)) (pos (weight_of j k)) ∙ ap (λ (x : ℚ). wholeq (get_or c k (pos 0)) *q x) (whole_weight j k))

-- the form with 1 - u as a variable of its own
abbrev formq : (ℕ → ℚ) → ℚ → ℚ → ℚ
formq c u x = sum rational_ring 5 (λ i. c i *q (wholeq (pos (choose 5 i)) *q power rational_ring u i *q power rational_ring x (5 - i)))

abbrev power_e : Expression → ℕ → Expression
power_e x zero = con (pos 1)
power_e x (suc k) = x ⊗ power_e x k

abbrev term_e : Expression → ℕ → Expression → ℕ → Expression → ℕ → Expression
term_e c n a k b m = c ⊗ (con (pos n) ⊗ power_e a k ⊗ power_e b m)

scaled : (c : ℕ → ℚ) (a b w : ℚ) → formq c (a *q w) (b *q w) ≡ weightedq c a b 6 *q power rational_ring w 5
scaled c a b w =
    solve rational_ring (c 0 ∷ c 1 ∷ c 2 ∷ c 3 ∷ c 4 ∷ c 5 ∷ a ∷ b ∷ w ∷ [])
    (term_e v0 1 (v6 ⊗ v8) 0 (v7 ⊗ v8) 5 ⊕ (term_e v1 5 (v6 ⊗ v8) 1 (v7 ⊗ v8) 4 ⊕ (term_e v2 10 (v6 ⊗ v8) 2 (v7 ⊗ v8) 3 ⊕
    (term_e v3 10 (v6 ⊗ v8) 3 (v7 ⊗ v8) 2 ⊕ (term_e v4 5 (v6 ⊗ v8) 4 (v7 ⊗ v8) 1 ⊕ term_e v5 1 (v6 ⊗ v8) 5 (v7 ⊗ v8) 0)))))
    ((con (pos 0) ⊕ term_e v0 1 v6 0 v7 5 ⊕ term_e v1 5 v6 1 v7 4 ⊕ term_e v2 10 v6 2 v7 3 ⊕ term_e v3 10 v6 3 v7 2 ⊕ term_e v4 5 v6 4 v7 1 ⊕
    term_e v5 1 v6 5 v7 0) ⊗ power_e v8 5)
    tt

-- 1 - j / 256 is (256 - j) / 256
complement_is : (j : ℕ) → j ≤ 256 → complement rational_ring (wholeq (pos j) *q inverse (wholeq (pos 256)))
    ≡ wholeq (pos (256 - j)) *q inverse (wholeq (pos 256))
complement_is j h =
    let e : j + (256 - j) ≡ 256 = omega arith in
    let s : wholeq (pos j) +q wholeq (pos (256 - j)) ≡ wholeq (pos 256) = sym (wholeq_add (pos j) (pos (256 - j)))
    ∙ ap (λ (n : ℕ). wholeq (pos n)) e in
    combine2 rational_ring (wholeq (pos j) ∷ wholeq (pos (256 - j)) ∷ inverse (wholeq (pos 256)) ∷ [])
    (con (pos 1) ⊕ opposite (v0 ⊗ v2)) (v1 ⊗ v2) (con (negsuc 0)) (con (pos 256) ⊗ v2) (con (pos 1)) (opposite v2) (v0 ⊕ v1)
    (con (pos 256)) tt v_is s

-- the exact height is the weighted sum over 256 ^ 5
pub exact_is : (c : List ℤ) (j : ℕ) → j ≤ 256 → exact_height c j ≡ wholeq (weighted c j 6) *q power rational_ring
    (inverse (wholeq (pos 256))) 5
unfolding bernstein
exact_is c j h =
    ap (formq (λ k. wholeq (get_or c k (pos 0))) (wholeq (pos j) *q inverse (wholeq (pos 256)))) (complement_is j h)
    ∙ scaled (λ k. wholeq (get_or c k (pos 0))) (wholeq (pos j)) (wholeq (pos (256 - j))) (inverse (wholeq (pos 256)))
    ∙ ap (λ (x : ℚ). x *q power rational_ring (inverse (wholeq (pos 256))) 5) (sym (whole_weighted c j 6))

-- 2 ^ 40 / 256 ^ 5 is 1
w_is : wholeq (pos (2 ^ 40)) *q power rational_ring (inverse (wholeq (pos 256))) 5 ≡ wholeq (pos 1)
w_is =
    let x = con (pos 256) ⊗ v0 in
    combine rational_ring (inverse (wholeq (pos 256)) ∷ []) (con (pos 1099511627776) ⊗ power_e v0 5) (con (pos 1))
    (x ⊗ x ⊗ x ⊗ x ⊕ x ⊗ x ⊗ x ⊕ x ⊗ x ⊕ x ⊕ con (pos 1)) (con (pos 256) ⊗ v0) (con (pos 1)) tt v_is

half_is : wholeq (pos 2) *q inverse (wholeq (pos 2)) ≡ wholeq (pos 1)
unfolding at_mostq
half_is = inverse_is (wholeq (pos 2)) tt

-- the quotient of a number m that is not negative, rounded, is within half of m / d; w is 1 / d, and t 1 / 2
module _ (m q : ℕ) (e : q ≡ (2 * m + 2 ^ 40) / (2 * 2 ^ 40)) (w t : ℚ) (ew : wholeq (pos (2 ^ 40)) *q w ≡ wholeq (pos 1))
    (et : wholeq (pos 2) *q t ≡ wholeq (pos 1))
    (kw : wholeq (pos 0) ≤q w) (kt : wholeq (pos 0) ≤q t) where
  doubled : wholeq (pos (2 * 2 ^ 40 * q)) ≡ wholeq (pos (2 * 2 ^ 40)) *q wholeq (pos q)
  doubled = wholeq_mul (pos (2 * 2 ^ 40)) (pos q)

  doubled_m : wholeq (pos (2 * m)) ≡ wholeq (pos 2) *q wholeq (pos m)
  doubled_m = wholeq_mul (pos 2) (pos m)

  -- 2 d q ≤ 2 m + d
  below : wholeq (pos (2 * 2 ^ 40)) *q wholeq (pos q) ≤q wholeq (pos 2) *q wholeq (pos m) +q wholeq (pos (2 ^ 40))
  below =
      subst (λ (x : ℚ). x ≤q wholeq (pos 2) *q wholeq (pos m) +q wholeq (pos (2 ^ 40))) doubled
      (subst (λ (x : ℚ). wholeq (pos (2 * 2 ^ 40 * q)) ≤q x) (wholeq_add (pos (2 * m)) (pos (2 ^ 40))
      ∙ ap (λ (x : ℚ). x +q wholeq (pos (2 ^ 40))) doubled_m)
      (≤f-gives-≤q (whole_fraction (pos (2 * 2 ^ 40 * q))) (whole_fraction (pos (2 * m + 2 ^ 40))) (omega arith)))

  -- 2 m ≤ 2 d q + d
  above : wholeq (pos 2) *q wholeq (pos m) ≤q wholeq (pos (2 * 2 ^ 40)) *q wholeq (pos q) +q wholeq (pos (2 ^ 40))
  above =
      subst (λ (x : ℚ). x ≤q wholeq (pos (2 * 2 ^ 40)) *q wholeq (pos q) +q wholeq (pos (2 ^ 40))) doubled_m
      (subst (λ (x : ℚ). wholeq (pos (2 * m)) ≤q x) (wholeq_add (pos (2 * 2 ^ 40 * q)) (pos (2 ^ 40))
      ∙ ap (λ (x : ℚ). x +q wholeq (pos (2 ^ 40))) doubled)
      (≤f-gives-≤q (whole_fraction (pos (2 * m))) (whole_fraction (pos (2 * 2 ^ 40 * q + 2 ^ 40))) (omega arith)))

  k : wholeq (pos 0) ≤q t *q w
  k = rational_order.nonnegative_mul t w kt kw

  -- both sides times t w, with d w = 1 and 2 t = 1
  pub high : wholeq (pos q) -q wholeq (pos m) *q w ≤q t
  high =
      subst (λ (x : ℚ). x ≤q t) (
      combine2 rational_ring (wholeq (pos q) ∷ wholeq (pos m) ∷ w ∷ t ∷ [])
      (con (pos 2199023255552) ⊗ v0 ⊗ (v3 ⊗ v2) ⊖ con (pos 2) ⊗ v1 ⊗ (v3 ⊗ v2)) (v0 ⊕ opposite (v1 ⊗ v2))
      (v0 ⊗ (con (pos 2) ⊗ v3)) (con (pos 1099511627776) ⊗ v2) (con (pos 1)) (v0 ⊖ v1 ⊗ v2) (con (pos 2) ⊗ v3) (con (pos 1)) tt ew et)
      (subst (λ (x : ℚ). wholeq (pos 2199023255552) *q wholeq (pos q) *q (t *q w) -q wholeq (pos 2) *q wholeq (pos m) *q (t *q w) ≤q x) (
      combine rational_ring (wholeq (pos q) ∷ wholeq (pos m) ∷ w ∷ t ∷ []) (con (pos 1099511627776) ⊗ (v3 ⊗ v2)) v3 v3
      (con (pos 1099511627776) ⊗ v2) (con (pos 1)) tt ew)
      (le_one rational_ring ◌≤q◌ rational_order (wholeq (pos q) ∷ wholeq (pos m) ∷ w ∷ t ∷ [])
      (con (pos 2199023255552) ⊗ v0 ⊗ (v3 ⊗ v2) ⊕ opposite (con (pos 2) ⊗ v1 ⊗ (v3 ⊗ v2))) (con (pos 1099511627776) ⊗ (v3 ⊗ v2)) (v3 ⊗ v2)
      (con (pos 2199023255552) ⊗ v0) (con (pos 2) ⊗ v1 ⊕ con (pos 1099511627776)) tt k below))

  flipped : wholeq (pos m) *q w -q wholeq (pos q) ≤q t
  flipped =
      subst (λ (x : ℚ). x ≤q t) (
      combine2 rational_ring (wholeq (pos q) ∷ wholeq (pos m) ∷ w ∷ t ∷ [])
      (con (pos 2) ⊗ v1 ⊗ (v3 ⊗ v2) ⊖ con (pos 2199023255552) ⊗ v0 ⊗ (v3 ⊗ v2)) (v1 ⊗ v2 ⊕ opposite v0)
      (opposite (v0 ⊗ (con (pos 2) ⊗ v3))) (con (pos 1099511627776) ⊗ v2) (con (pos 1)) (v1 ⊗ v2 ⊖ v0) (con (pos 2) ⊗ v3) (con (pos 1)) tt
      ew et)
      (subst (λ (x : ℚ). wholeq (pos 2) *q wholeq (pos m) *q (t *q w) -q wholeq (pos 2199023255552) *q wholeq (pos q) *q (t *q w) ≤q x) (
      combine rational_ring (wholeq (pos q) ∷ wholeq (pos m) ∷ w ∷ t ∷ []) (con (pos 1099511627776) ⊗ (v3 ⊗ v2)) v3 v3
      (con (pos 1099511627776) ⊗ v2) (con (pos 1)) tt ew)
      (le_one rational_ring ◌≤q◌ rational_order (wholeq (pos q) ∷ wholeq (pos m) ∷ w ∷ t ∷ [])
      (con (pos 2) ⊗ v1 ⊗ (v3 ⊗ v2) ⊕ opposite (con (pos 2199023255552) ⊗ v0 ⊗ (v3 ⊗ v2))) (con (pos 1099511627776) ⊗ (v3 ⊗ v2)) (v3 ⊗ v2)
      (con (pos 2) ⊗ v1) (con (pos 2199023255552) ⊗ v0 ⊕ con (pos 1099511627776)) tt k above))

  pub low : negq t ≤q wholeq (pos q) -q wholeq (pos m) *q w
  low = le_one rational_ring ◌≤q◌ rational_order (wholeq (pos q) ∷ wholeq (pos m) ∷ w ∷ t ∷ []) (opposite v3) (v0 ⊕ opposite (v1 ⊗ v2))
      (con (pos 1)) (v1 ⊗ v2 ⊕ opposite v0) v3 tt (rational_order.nonnegative_of 1) flipped

  -- and for -m, whose quotient is -q
  pub high_negative : negq (wholeq (pos q)) -q negq (wholeq (pos m)) *q w ≤q t
  high_negative =
      le_one rational_ring ◌≤q◌ rational_order (wholeq (pos q) ∷ wholeq (pos m) ∷ w ∷ t ∷ []) (opposite v0 ⊕ opposite (opposite v1 ⊗ v2)) v3
      (con (pos 1)) (v1 ⊗ v2 ⊕ opposite v0) v3 tt (rational_order.nonnegative_of 1) flipped

  pub low_negative : negq t ≤q negq (wholeq (pos q)) -q negq (wholeq (pos m)) *q w
  low_negative =
      le_one rational_ring ◌≤q◌ rational_order (wholeq (pos q) ∷ wholeq (pos m) ∷ w ∷ t ∷ []) (opposite v3)
      (opposite v0 ⊕ opposite (opposite v1 ⊗ v2)) (con (pos 1)) (v0 ⊕ opposite (v1 ⊗ v2)) v3 tt (rational_order.nonnegative_of 1) high

whole_negated : (n : ℕ) → wholeq (neg_ℤ (pos n)) ≡ negq (wholeq (pos n))
unfolding negq /_rec
whole_negated n = refl

-- a whole number over 2 ^ 40, to the nearest whole: within half
nearest_within : (z : ℤ) (w t : ℚ) → wholeq (pos (2 ^ 40)) *q w ≡ wholeq (pos 1) → wholeq (pos 2) *q t ≡ wholeq (pos 1)
    → wholeq (pos 0) ≤q w → wholeq (pos 0) ≤q t →
    absolute (wholeq (nearest_whole z (2 ^ 40)) -q wholeq z *q w) ≤q t
nearest_within (pos m) w t ew et kw kt =
    absolute_le (wholeq (nearest_whole (pos m) (2 ^ 40)) -q wholeq (pos m) *q w) t
    (low m ((2 * m + 2 ^ 40) / (2 * 2 ^ 40)) refl w t ew et kw kt) (high m ((2 * m + 2 ^ 40) / (2 * 2 ^ 40)) refl w t ew et kw kt)
nearest_within (negsuc n) w t ew et kw kt =
    let m = suc n in
    let q = (2 * m + 2 ^ 40) / (2 * 2 ^ 40) in
    subst (λ (x : ℚ). absolute (x -q wholeq (negsuc n) *q w) ≤q t) (sym (whole_negated q))
    (subst (λ (x : ℚ). absolute (negq (wholeq (pos q)) -q x *q w) ≤q t) (sym (whole_negated m))
    (absolute_le (negq (wholeq (pos q)) -q negq (wholeq (pos m)) *q w) t (low_negative m q refl w t ew et kw kt)
    (high_negative m q refl w t ew et kw kt)))

-- each height is within half of the exact polynomial of the whole controls
pub height_within : (c : List ℤ) (j : ℕ) → j ≤ 256 → WithinHalf c j (height_of c j)
height_within c j h =
    let v = inverse (wholeq (pos 256)) in
    let t = inverse (wholeq (pos 2)) in
    let w = power rational_ring v 5 in
    let kv = inverse_nonnegative (wholeq (pos 256)) (rational_order.nonnegative_of 256) in
    let up : (x : ℚ) → wholeq (pos 0) ≤q x → wholeq (pos 0) ≤q v *q x = λ x. rational_order.nonnegative_mul v x kv in
    let kw : wholeq (pos 0) ≤q w = up _ (up _ (up _ (up _ (up _ (rational_order.nonnegative_of 1))))) in
    let kt = inverse_nonnegative (wholeq (pos 2)) (rational_order.nonnegative_of 2) in
    subst (λ (x : ℚ). absolute (wholeq (height_of c j) -q exact_height c j) ≤q x) (solve rational_ring (t ∷ []) v0 (con (pos 1) ⊗ v0) tt)
    (subst (λ (x : ℚ). absolute (wholeq (height_of c j) -q x) ≤q t) (sym (exact_is c j h))
    (nearest_within (weighted c j 6) w t w_is half_is kw kt))
