-- Over exact fractions, the figure's formulas give the Bernstein coefficients of curve minus line on [left, right]; so what bounds the
-- polynomial of the six from 0 to 1 bounds the difference everywhere there.
use mathlib.Core.List.{[], ◌∷◌}
use mathlib.Core.Path.{◌∙◌, ◌≡◌, ap, refl, subst, sym}
use Prim.Native.Nat.{ℕ, zero, suc, ◌+◌, ◌-◌, ◌<◌, ◌≤◌}
use native.Mathlib.Nat.{zero-add}
use native.Mathlib.Omega.{arith}
use lib.IntN.{pos}
use Rattle.fraction.specs.Bernstein.{bernstein_coefficient, de_casteljau}
use Rattle.fraction.specs.Bernstein as basis
use Rattle.fraction.specs.Binomial.{choose}
use Rattle.fraction.specs.Order.{le_one, nonnegative_difference}
use Rattle.fraction.specs.Polynomial.{expanded_coefficient, polynomial}
use Rattle.fraction.specs.Rational.{Above, ◌*q◌, ◌+q◌, ◌-q◌, ◌/q◌, ◌<q◌, ◌≤q◌, inverse, wholeq, ℚ, 𝟘}
use Rattle.fraction.specs.RationalRing.{rational_ring}
use Rattle.fraction.specs.Ring.{◌⊕◌, ◌⊖◌, ◌⊗◌, combine, con, solve, v0, v1, v2, v3, v4, v5}
use Rattle.fraction.specs.Sum.{power, sum}
use Rattle.fraction.specs.Value.{value}
use Rattle.fraction.proofs.Bernstein.{de_casteljau_law, powers_to_bernstein}
use Rattle.fraction.proofs.Binomial.{choose_above}
use Rattle.fraction.proofs.Inverse.{inverse_is, inverse_nonnegative}
use Rattle.fraction.proofs.Polynomial.{expand}
use Rattle.fraction.proofs.Rational.{<q-weaken, difference_above, rational_order}
use Rattle.fraction.proofs.Sum.{sum_equal, sum_last, sum_scale}
use Rattle.figure.specs.Intersection.{Intersection, bernstein, difference_bernstein, difference_power, line_at_left, line_rise, offset, raised, scale, total, without}
use Rattle.figure.specs.Intersection as intersection
use Rattle.figure.proofs.Enclosure.{exact}
use Rattle.figure.proofs.Halves.{Throughout}

-- ---- the sums and powers of the formulas are those of `fraction`
-- terms that are 0 before the first
total_before : (first : ℕ) (f : ℕ → ℚ) → ((k : ℕ) → k < first → f k ≡ 𝟘) → total exact 0 first f ≡ 𝟘
unfolding total
total_before zero f h = refl
total_before (suc n) f h =
    ap (λ (z : ℚ). z +q f (0 + n)) (total_before n f (λ k l. h k (omega arith)))
    ∙ ap (λ (z : ℚ). 𝟘 +q z) (h (0 + n) (omega arith))
    ∙ solve rational_ring [] (con (pos 0) ⊕ con (pos 0)) (con (pos 0)) tt

total_from : (first count : ℕ) (f : ℕ → ℚ) → ((k : ℕ) → k < first → f k ≡ 𝟘) → total exact first count f ≡ total exact 0 (first + count) f
unfolding total
total_from first zero f h =
    let e : first ≡ first + 0 = omega arith in sym (total_before first f h) ∙ ap (λ (n : ℕ). total exact 0 n f) e
total_from first (suc n) f h =
    let e : suc (first + n) ≡ first + suc n = omega arith in
    ap (λ (z : ℚ). z +q f (first + n)) (total_from first n f h)
    ∙ ap (λ (k : ℕ). total exact 0 (first + n) f +q f k) (sym (zero-add (first + n)))
    ∙ ap (λ (k : ℕ). total exact 0 k f) e

total_is_sum : (n : ℕ) (f : ℕ → ℚ) → total exact 0 (suc n) f ≡ sum rational_ring n f
unfolding total
total_is_sum zero f = solve rational_ring (f 0 ∷ []) (con (pos 0) ⊕ v0) v0 tt
total_is_sum (suc n) f = ap (λ (z : ℚ). z +q f (0 + suc n)) (total_is_sum n f) ∙ ap (λ (k : ℕ). sum rational_ring n f +q f k) (zero-add
    (suc n)) ∙ sym (sum_last rational_ring n f)

-- terms that are 0 after k
sum_to : (k d n : ℕ) (f : ℕ → ℚ) → n ≡ d + k → ((j : ℕ) → k < j → f j ≡ 𝟘) → sum rational_ring n f ≡ sum rational_ring k f
sum_to k zero n f e h = ap (λ (m : ℕ). sum rational_ring m f) (e ∙ zero-add k)
sum_to k (suc d) n f e h =
    let g : n ≡ suc (d + k) = omega arith in
    ap (λ (m : ℕ). sum rational_ring m f) g ∙ sum_last rational_ring (d + k) f ∙ ap (λ (z : ℚ). sum rational_ring (d + k) f +q z) (h
    (suc (d + k)) (omega arith))
    ∙ rational_ring.add_zero (sum rational_ring (d + k) f) ∙ sum_to k d (d + k) f refl h

raised_is : (u : ℚ) (k : ℕ) → raised exact u k ≡ power rational_ring u k
unfolding raised
raised_is u zero = refl
raised_is u (suc k) = ap (λ (z : ℚ). z *q u) (raised_is u k) ∙ rational_ring.mul_comm (power rational_ring u k) u

-- power j is the coefficient of the expansion at u + w * v
power_is : (p : ℕ → ℚ) (u w : ℚ) (j : ℕ) → j ≤ 5 → intersection.power exact p u w j ≡ expanded_coefficient rational_ring 5 p u w j
unfolding intersection.power
power_is p u w j l =
    let f : ℕ → ℚ = λ k. wholeq (pos (choose k j)) *q p k *q raised exact u (k - j) in
    let e : j + (6 - j) ≡ suc 5 = omega arith in
    ap (λ (z : ℚ). z *q raised exact w j)
    (total_from j (6 - j) f (λ k h. ap (λ (z : ℕ). wholeq (pos z) *q p k *q raised exact u (k - j)) (choose_above k j h)
    ∙ solve rational_ring (p k ∷ raised exact u (k - j) ∷ []) (con (pos 0) ⊗ v0 ⊗ v1) (con (pos 0)) tt)
    ∙ ap (λ (n : ℕ). total exact 0 n f) e ∙ total_is_sum 5 f)
    ∙ rational_ring.mul_comm (sum rational_ring 5 f) (raised exact w j)
    ∙ sym (sum_scale rational_ring 5 (raised exact w j) f)
    ∙ sum_equal rational_ring 5 (λ k. raised exact w j *q f k) (λ k. wholeq (pos (choose k j)) *q
    (p k *q (power rational_ring u (k - j) *q power rational_ring w j)))
    (λ k h. ap (λ (z : ℚ). z *q (wholeq (pos (choose k j)) *q p k *q raised exact u (k - j))) (raised_is w j)
    ∙ ap (λ (z : ℚ). power rational_ring w j *q (wholeq (pos (choose k j)) *q p k *q z)) (raised_is u (k - j))
    ∙ solve rational_ring (wholeq (pos (choose k j)) ∷ p k ∷ power rational_ring u (k - j) ∷ power rational_ring w j ∷ [])
    (v3 ⊗ (v0 ⊗ v1 ⊗ v2)) (v0 ⊗ (v1 ⊗ (v2 ⊗ v3))) tt)

-- and `bernstein` gives the Bernstein coefficients
bernstein_is : (q : ℕ → ℚ) (k : ℕ) → k ≤ 5 → bernstein exact q k ≡ bernstein_coefficient 5 q k
unfolding bernstein
bernstein_is q k l =
    let f : ℕ → ℚ = λ j. q j *q wholeq (pos (choose k j)) /q wholeq (pos (choose 5 j)) in
    total_is_sum k f
    ∙ sym (sum_to k (5 - k) 5 f (omega arith) (λ j h. ap (λ (z : ℕ). q j *q wholeq (pos z) /q wholeq (pos (choose 5 j)))
    (choose_above k j h)
    ∙ solve rational_ring (q j ∷ inverse (wholeq (pos (choose 5 j))) ∷ []) (v0 ⊗ con (pos 0) ⊗ v1) (con (pos 0)) tt))

-- ---- curve minus line on an intersection
-- with c and r taken off the powers 0 and 1, the polynomial loses c + r * v
without_is : (c r : ℚ) (q : ℕ → ℚ) (v : ℚ) → polynomial rational_ring 5 (without exact c r q) v
    ≡ polynomial rational_ring 5 q v -q (c +q r *q v)
without_is c r q v =
    let rest = sum rational_ring 3 (λ k. q (suc (suc k)) *q power rational_ring v (suc (suc k))) in
    solve rational_ring (q 0 ∷ q 1 ∷ c ∷ r ∷ v ∷ rest ∷ [])
    ((v0 ⊖ v2) ⊗ con (pos 1) ⊕ ((v1 ⊖ v3) ⊗ (v4 ⊗ con (pos 1)) ⊕ v5)) (v0 ⊗ con (pos 1) ⊕ (v1 ⊗ (v4 ⊗ con (pos 1)) ⊕ v5) ⊖ (v2 ⊕ v3 ⊗ v4))
    tt

-- (t - a) / c is (l - a) / c + ((r - l) / c) * v, for the v of t between l and r
between : (t a i l r : ℚ) → Above (r -q l) → (t -q a) *q i ≡ (l -q a) *q i +q (r -q l) *q i *q ((t -q l) /q (r -q l))
between t a i l r h =
    combine rational_ring (t ∷ a ∷ i ∷ l ∷ r ∷ inverse (r -q l) ∷ []) ((v0 ⊖ v1) ⊗ v2) ((v3 ⊖ v1) ⊗ v2 ⊕ (v4 ⊖ v3) ⊗ v2 ⊗ ((v0 ⊖ v3) ⊗ v5))
    ((v0 ⊖ v3) ⊗ v2) (con (pos 1)) ((v4 ⊖ v3) ⊗ v5) tt (sym (inverse_is (r -q l) h))

-- the line from y at s to y' at s', in t
abbrev pub line : ℚ → ℚ → ℚ → ℚ → ℚ → ℚ
line s s' y y' t = y +q (t -q s) /q (s' -q s) *q (y' -q y)

-- the curve with coefficients p on [a, b], in t
abbrev pub curve : ℚ → ℚ → (ℕ → ℚ) → ℚ → ℚ
curve a b p t = polynomial rational_ring 5 p ((t -q a) /q (b -q a))

module _ (x : Intersection) where
  abbrev l : ℚ
  l = value x.left

  abbrev r : ℚ
  r = value x.right

  -- curve minus line
  abbrev pub difference : ℚ → ℚ
  difference t = curve (value x.start) (value x.end) (λ k. value (x.coefficient k)) t -q line (value x.from) (value x.to)
      (value x.first) (value x.second) t

  difference_is : (t : ℚ) → l <q r → difference t ≡ polynomial rational_ring 5 (difference_power exact x) ((t -q l) /q (r -q l))
  difference_is t h =
      let A = difference_above l r h in
      let v = (t -q l) /q (r -q l) in
      let p : ℕ → ℚ = λ k. value (x.coefficient k) in
      let q : ℕ → ℚ = intersection.power exact p (offset exact x) (scale exact x) in
      let s = value x.from in
      let i = inverse (value x.to -q s) in
      let y = value x.first in
      let d = value x.second -q y in
      ap (λ (z : ℚ). polynomial rational_ring 5 p z -q line s (value x.to) y (value x.second) t)
      (between t (value x.start) (inverse (value x.end -q value x.start)) l r A)
      ∙ ap (λ (z : ℚ). z -q line s (value x.to) y (value x.second) t)
      (expand rational_ring 5 p (offset exact x) (scale exact x) v
      ∙ sum_equal rational_ring 5 (λ k. expanded_coefficient rational_ring 5 p (offset exact x) (scale exact x) k *q power rational_ring v k)
      (λ k. q k *q power rational_ring v k)
      (λ k m. ap (λ (z : ℚ). z *q power rational_ring v k) (sym (power_is p (offset exact x) (scale exact x) k m))))
      ∙ ap (λ (z : ℚ). polynomial rational_ring 5 q v -q (y +q z *q d)) (between t s i l r A)
      ∙ ap (λ (z : ℚ). polynomial rational_ring 5 q v -q z)
      (solve rational_ring (y ∷ ((l -q s) *q i) ∷ ((r -q l) *q i) ∷ v ∷ d ∷ []) (v0 ⊕ (v1 ⊕ v2 ⊗ v3) ⊗ v4) (v0 ⊕ v1 ⊗ v4 ⊕ v2 ⊗ v4 ⊗ v3)
      tt)
      ∙ sym (without_is (line_at_left exact x) (line_rise exact x) q v)

  -- the same by de Casteljau's recursion over the six Bernstein coefficients
  difference_cut : (t : ℚ) → l <q r → difference t ≡ de_casteljau rational_ring 5 (difference_bernstein exact x) ((t -q l) /q (r -q l))
  difference_cut t h =
      let v = (t -q l) /q (r -q l) in
      let q = difference_power exact x in
      difference_is t h ∙ sym (powers_to_bernstein 5 q v)
      ∙ sum_equal rational_ring 5 (λ k. bernstein_coefficient 5 q k *q basis.bernstein rational_ring 5 k v)
      (λ k. difference_bernstein exact x k *q basis.bernstein rational_ring 5 k v)
      (λ k k5. ap (λ (z : ℚ). z *q basis.bernstein rational_ring 5 k v) (sym (bernstein_is q k k5)))
      ∙ sym (de_casteljau_law rational_ring 5 (difference_bernstein exact x) v)

  -- what bounds the polynomial of the six exact Bernstein coefficients from 0 to 1 bounds curve minus line from left to right
  pub difference_within : (a b t : ℚ) → l <q r → l ≤q t → t ≤q r → Throughout a b (difference_bernstein exact x)
      → (a ≤q difference t) × (difference t ≤q b)
  difference_within a b t h lt tr w =
      let A = difference_above l r h in
      let I = inverse_nonnegative (r -q l) (<q-weaken 𝟘 (r -q l) A) in
      let v = (t -q l) /q (r -q l) in
      subst (λ (z : ℚ). (a ≤q z) × (z ≤q b)) (sym (difference_cut t h)) (w v
      (rational_order.nonnegative_mul (t -q l) (inverse (r -q l)) (nonnegative_difference rational_ring ◌≤q◌ rational_order l t lt) I)
      (subst (λ (z : ℚ). v ≤q z) (inverse_is (r -q l) A) (le_one rational_ring ◌≤q◌ rational_order (t ∷ l ∷ r ∷ inverse (r -q l) ∷ [])
      ((v0 ⊖ v1) ⊗ v3) ((v2 ⊖ v1) ⊗ v3) v3 v0 v2 tt I tr)))
