-- What stands for two pairs gives what stands for their sum and their difference.
use mathlib.Core.Bool.{false, true}
use mathlib.Core.List.{[], ◌∷◌}
use mathlib.Core.Path.{◌∙◌, ◌≡◌, ap, refl, subst, sym}
use Prim.Native.Nat.{◌*◌, ◌^◌, ◌≤◌, suc, ℕ}
use native.Mathlib.Omega.{arith}
use lib.Dec.{T}
use lib.Ieee.{Float, binary64, fin, fits, inf, nan, neg}
use lib.Ieee.Bits.{is_true}
use lib.Ieee.Fits.{neg-fits}
use native.Mathlib.Nat.{pow-suc}
use lib.Ieee.Scale.{finite}
use lib.IntN.{pos}
use Rattle.fraction.specs.DirectedSum.{Downward, Upward, downward_sum, plain_zero, upward_sum}
use Rattle.fraction.specs.Order.{le_two}
use Rattle.fraction.specs.Pair.{Ends, add_pairs, finite_ends, pair, point, subtract_pairs}
use Rattle.fraction.specs.Rational.{◌+q◌, ◌≤q◌, negq, ℚ}
use Rattle.fraction.specs.RationalRing.{rational_ring}
use Rattle.fraction.specs.Ring.{◌⊕◌, con, opposite, solve, v0, v1, v2, v3}
use Rattle.fraction.specs.Value.{BoundsAbove, BoundsBelow, value}
use Rattle.fraction.proofs.DirectedSum.{Plain, a_zero, downward_sum_law, no_zero, plain_cases, upward_sum_law, upward_unique}
use Rattle.fraction.proofs.Rational.{rational_order, ≤q-antisymmetric, ≤q-negated, ≤q-refl, ≤q-trans, ≤q-whole}
use Rattle.fraction.proofs.Value.{fraction_le, neg_finite, value_neg}
use Rattle.pairs.specs.Spreads.{Number, Stands, UpwardSum, power, power_of_two}
use Rattle.pairs.specs.declared.spread.Spread.{Spread}
use Rattle.pairs.proofs.Numbers.{neg_back, power_finite, power_fits, power_value, turned, twice, wider}
use Rattle.pairs.proofs.Spreading.{zero_value}

-- ---- sizes of sums
double : (a : ℕ) → power_of_two a +q power_of_two a ≡ power_of_two (suc a)
unfolding ◌+q◌
double a =
    let e : 2 ^ suc a ≡ 2 ^ a * 2 = pow-suc 2 a in
    ≤q-antisymmetric _ _ (fraction_le _ _ _ _ _ _ (omega arith)) (fraction_le _ _ _ _ _ _ (omega arith))

pub sum_size : (a : ℕ) (x y : ℚ) → negq (power_of_two a) ≤q x → x ≤q power_of_two a → negq (power_of_two a) ≤q y → y ≤q power_of_two a
    → (negq (power_of_two (suc a)) ≤q x +q y) × (x +q y ≤q power_of_two (suc a))
sum_size a x y l u m v =
    let A = power_of_two a in
    let ρ = x ∷ y ∷ A ∷ [] in (
      subst (λ (z : ℚ). negq z ≤q x +q y) (double a) (le_two rational_ring ◌≤q◌ rational_order ρ (opposite (v2 ⊕ v2)) (v0 ⊕ v1) (con (pos 1))
          (opposite v2) v0 (con (pos 1)) (opposite v2) v1 tt (≤q-whole 1) l (≤q-whole 1) m),
      subst (λ (z : ℚ). x +q y ≤q z) (double a) (le_two rational_ring ◌≤q◌ rational_order ρ (v0 ⊕ v1) (v2 ⊕ v2) (con (pos 1)) v0 v2 (con
          (pos 1))
          v1 v2 tt (≤q-whole 1) u (≤q-whole 1) v),
    )

-- ---- rounded upward and downward
upward_number : (a : ℕ) → a ≤ 1000 → (z : ℚ) (w : Float) → negq (power_of_two a) ≤q z → z ≤q power_of_two a → Upward binary64 z w → Number a w
upward_number a l z w h k D = go w D.of_format D.not_below (D.smallest (power a) (power_fits a l) (power_finite a) (rw
    (power_value a) k))
  where
    go : (w : Float) → T (fits binary64 w) → BoundsAbove w z → BoundsBelow w (value (power a)) → Number a w
    go nan F b s = absurd b
    go (inf true) F b s = absurd b
    go (inf false) F b s = absurd s
    go (fin t m e) F b s =
        record {
          is_double = F;
          is_finite = tt;
          at_least = ≤q-trans (negq (power_of_two a)) z (value (fin t m e)) h b;
          at_most = subst (λ (q : ℚ). value (fin t m e) ≤q q) (power_value a) s;
        }

downward_number : (a : ℕ) → a ≤ 1000 → (z : ℚ) (w : Float) → negq (power_of_two a) ≤q z → z ≤q power_of_two a → Downward binary64 z w →
    Number a w
downward_number a l z w h k D =
    go w D.of_format D.not_above (D.largest (neg (power a)) (neg-fits binary64 (power a) (power_fits a l)) (neg_finite (power a)
    (power_finite a))
    (rw (value_neg (power a) (power_finite a), power_value a) h))
  where
    go : (w : Float) → T (fits binary64 w) → BoundsBelow w z → BoundsAbove w (value (neg (power a))) → Number a w
    go nan F b s = absurd b
    go (inf true) F b s = absurd s
    go (inf false) F b s = absurd b
    go (fin t m e) F b s =
        record {
          is_double = F;
          is_finite = tt;
          at_least = subst (λ (q : ℚ). q ≤q value (fin t m e)) (value_neg (power a) (power_finite a) ∙ ap negq (power_value a)) s;
          at_most = ≤q-trans (value (fin t m e)) z (power_of_two a) b k;
        }

pub upward_bound : (z : ℚ) (w : Float) → T (finite w) → BoundsAbove w z → z ≤q value w
upward_bound z nan F b = absurd F
upward_bound z (inf s) F b = absurd F
upward_bound z (fin s m e) F b = b

pub downward_bound : (z : ℚ) (w : Float) → T (finite w) → BoundsBelow w z → value w ≤q z
downward_bound z nan F b = absurd F
downward_bound z (inf s) F b = absurd F
downward_bound z (fin s m e) F b = b

-- ---- a zero of either sign
pub plain_value : (w : Float) → T (finite (plain_zero binary64 w)) → T (finite w) × (value (plain_zero binary64 w) ≡ value w)
plain_value w = go (plain_zero binary64 w) (plain_cases binary64 w)
  where
    go : (p : Float) → Plain binary64 w p → T (finite p) → T (finite w) × (value p ≡ value w)
    go p (a_zero F e) G = (F, zero_value ∙ sym e)
    go p (no_zero n) G = (G, refl)

module _ (a : ℕ) (l : a ≤ 999) (x y : Float) (N : Number a x) (M : Number a y) where
  size : (negq (power_of_two (suc a)) ≤q value x +q value y) × (value x +q value y ≤q power_of_two (suc a))
  size = sum_size a (value x) (value y) N.at_least N.at_most M.at_least M.at_most

  pub up_sum : Number (suc a) (upward_sum binary64 x y)
  up_sum = upward_number (suc a) (omega arith) (value x +q value y) _ size.0 size.1 (upward_sum_law binary64 x y N.is_finite M.is_finite)

  down_sum : Number (suc a) (downward_sum binary64 x y)
  down_sum = downward_number (suc a) (omega arith) (value x +q value y) _ size.0 size.1
      (downward_sum_law binary64 x y N.is_finite M.is_finite)

  sum_value : (r : Float) → UpwardSum x y r → T (finite r) × (value r ≡ value (upward_sum binary64 x y))
  sum_value r S =
      let p = plain_value r (subst (λ (z : Float). T (finite z)) (sym S.1) up_sum.is_finite) in
      (p.0, sym p.1 ∙ ap value S.1)

  sum_number : (r : Float) → UpwardSum x y r → Number (suc a) r
  sum_number r S =
      let v = sum_value r S in
      record {
        is_double = S.0;
        is_finite = v.0;
        at_least = subst (λ (z : ℚ). negq (power_of_two (suc a)) ≤q z) (sym v.1) up_sum.at_least;
        at_most = subst (λ (z : ℚ). z ≤q power_of_two (suc a)) (sym v.1) up_sum.at_most;
      }

-- the values alone count
same_sum : (x y x' y' : Float) → T (finite x) → T (finite y) → T (finite x') → T (finite y') → value x +q value y ≡ value x' +q value y'
    → upward_sum binary64 x y ≡ upward_sum binary64 x' y'
same_sum x y x' y' X Y X' Y' e = upward_unique binary64 (value x +q value y) _ _ (upward_sum_law binary64 x y X Y)
    (subst (λ (z : ℚ). Upward binary64 z (upward_sum binary64 x' y')) (sym e) (upward_sum_law binary64 x' y' X' Y'))

-- with the signs turned, upward is downward
turned_sum : (x y : Float) → upward_sum binary64 (neg x) (neg y) ≡ plain_zero binary64 (neg (downward_sum binary64 x y))
unfolding upward_sum
turned_sum x y = rw (neg_back x, neg_back y) refl

-- ---- sums
module _ (a : ℕ) (l : a ≤ 999) (e g : Ends) (x y : Spread) (X : Stands a e x) (Y : Stands a g y) where
  below_sum : upward_sum binary64 x.below y.below ≡ plain_zero binary64 (neg (downward_sum binary64 X.low Y.low))
  below_sum =
      same_sum _ _ (neg X.low) (neg Y.low) X.below_number.is_finite Y.below_number.is_finite
      (neg_finite X.low X.low_number.is_finite) (neg_finite Y.low Y.low_number.is_finite)
      (ap (λ (z : ℚ). z +q value y.below) (X.below_value ∙ sym (value_neg X.low X.low_number.is_finite))
      ∙ ap (λ (z : ℚ). value (neg X.low) +q z) (Y.below_value ∙ sym (value_neg Y.low Y.low_number.is_finite)))
      ∙ turned_sum X.low Y.low

  above_sum : upward_sum binary64 x.above y.above ≡ upward_sum binary64 X.high Y.high
  above_sum = same_sum _ _ _ _ X.above_number.is_finite Y.above_number.is_finite X.high_number.is_finite Y.high_number.is_finite
      (ap (λ (z : ℚ). z +q value y.above) X.above_value ∙ ap (λ (z : ℚ). value X.high +q z) Y.above_value)

  pub sum_stands : (t : Spread) → UpwardSum x.below y.below t.below → UpwardSum x.above y.above t.above
      → Stands (suc a) (add_pairs binary64 e g) t
  unfolding add_pairs finite_ends
  sum_stands t B A =
      let d = downward_sum binary64 X.low Y.low in
      let u = upward_sum binary64 X.high Y.high in
      let D = down_sum a l X.low Y.low X.low_number Y.low_number in
      let U = up_sum a l X.high Y.high X.high_number Y.high_number in
      let b = sum_value a l x.below y.below X.below_number Y.below_number t.below B in
      let v = sum_value a l x.above y.above X.above_number Y.above_number t.above A in
      let n = neg_finite d D.is_finite in
      let B' = up_sum a l x.below y.below X.below_number Y.below_number in
      let z = plain_value (neg d) (subst (λ (w : Float). T (finite w)) below_sum B'.is_finite) in
      let DS = downward_sum_law binary64 X.low Y.low X.low_number.is_finite Y.low_number.is_finite in
      let US = upward_sum_law binary64 X.high Y.high X.high_number.is_finite Y.high_number.is_finite in
      record {
        low = d;
        high = u;
        is = rw (X.is, Y.is, is_true (finite d) D.is_finite, is_true (finite u) U.is_finite) refl;
        low_number = D;
        high_number = U;
        below_number = sum_number a l x.below y.below X.below_number Y.below_number t.below B;
        above_number = sum_number a l x.above y.above X.above_number Y.above_number t.above A;
        below_value = b.1 ∙ ap value below_sum ∙ z.1 ∙ value_neg d D.is_finite;
        above_value = v.1 ∙ ap value above_sum;
        ordered =
            ≤q-trans (value d) (value X.low +q value Y.low) (value u) (downward_bound _ d D.is_finite DS.not_above)
            (≤q-trans (value X.low +q value Y.low) (value X.high +q value Y.high) (value u)
            (le_two rational_ring ◌≤q◌ rational_order (value X.low ∷ value Y.low ∷ value X.high ∷ value Y.high ∷ []) (v0 ⊕ v1)
            (v2 ⊕ v3)
            (con (pos 1)) v0 v2 (con (pos 1)) v1 v3 tt (≤q-whole 1) X.ordered (≤q-whole 1) Y.ordered)
            (upward_bound _ u U.is_finite US.not_below));
      }

-- the pair turned
turned_stands : (a : ℕ) (g : Ends) (y : Spread) (Y : Stands a g y) → Stands a (pair (neg Y.high) (neg Y.low)) (record {
  below = y.above;
  above = y.below;
})
turned_stands a g y Y =
    let L = value_neg Y.low Y.low_number.is_finite in
    let H = value_neg Y.high Y.high_number.is_finite in
    record {
      low = neg Y.high;
      high = neg Y.low;
      is = refl;
      low_number = turned a Y.high Y.high_number;
      high_number = turned a Y.low Y.low_number;
      below_number = Y.above_number;
      above_number = Y.below_number;
      below_value = Y.above_value ∙ sym (ap negq H ∙ twice (value Y.high));
      above_value = Y.below_value ∙ sym L;
      ordered = rw (L, H) (≤q-negated (value Y.low) (value Y.high) Y.ordered);
    }

-- ---- differences
pub difference_stands : (a : ℕ) → a ≤ 999 → (e g : Ends) (x y : Spread) → Stands a e x → Stands a g y → (t : Spread)
    → UpwardSum x.below y.above t.below → UpwardSum x.above y.below t.above → Stands (suc a) (subtract_pairs binary64 e
    g) t
unfolding add_pairs subtract_pairs
difference_stands a l e g x y X Y t B A =
    subst (λ (z : Ends). Stands (suc a) z t) (same X.is Y.is)
    (sum_stands a l (pair X.low X.high) (pair (neg Y.high) (neg Y.low)) x (record { below = y.above; above = y.below })
    (subst (λ (z : Ends). Stands a z x) X.is X) (turned_stands a g y Y) t B A)
  where
    same : {p q r s : Float} → e ≡ pair p q → g ≡ pair r s → add_pairs binary64 (pair p q) (pair (neg s) (neg r)) ≡ subtract_pairs binary64
        e g
    same h k = rw (h, k) refl

-- ---- the first term of a sum, which is added to 0
own_downward : (a : ℕ) → a ≤ 1000 → (c w : Float) → Number a c → Downward binary64 (value c) w → Number a w × (value w ≡ value c)
own_downward a l c w N D =
    let M = downward_number a l (value c) w N.at_least N.at_most D in (
      M,
      ≤q-antisymmetric _ _ (downward_bound _ w M.is_finite D.not_above) (upward_bound _ w M.is_finite
          (D.largest c N.is_double N.is_finite (≤q-refl (value c)))),
    )

own_upward : (a : ℕ) → a ≤ 1000 → (c w : Float) → Number a c → Upward binary64 (value c) w → Number a w × (value w ≡ value c)
own_upward a l c w N D =
    let M = upward_number a l (value c) w N.at_least N.at_most D in (
      M,
      ≤q-antisymmetric _ _ (downward_bound _ w M.is_finite (D.smallest c N.is_double N.is_finite (≤q-refl (value c))))
          (upward_bound _ w M.is_finite D.not_below),
    )

pub first_stands : (a : ℕ) → a ≤ 1000 → (g : Ends) (y : Spread) → Stands a g y → Stands a (add_pairs binary64 (point (fin false 0 (pos
    0))) g) y
unfolding add_pairs finite_ends
first_stands a l g y Y =
    let o = fin false 0 (pos 0) in
    let none : (v : ℚ) → value o +q v ≡ v = λ v. ap (λ (z : ℚ). z +q v) zero_value ∙ solve rational_ring (v ∷ []) (con (pos 0) ⊕ v0) v0 tt in
    let d = downward_sum binary64 o Y.low in
    let u = upward_sum binary64 o Y.high in
    let D = own_downward a l Y.low d Y.low_number (subst (λ (z : ℚ). Downward binary64 z d) (none (value Y.low))
    (downward_sum_law binary64 o Y.low tt Y.low_number.is_finite)) in
    let U = own_upward a l Y.high u Y.high_number (subst (λ (z : ℚ). Upward binary64 z u) (none (value Y.high))
    (upward_sum_law binary64 o Y.high tt Y.high_number.is_finite)) in
    record {
      low = d;
      high = u;
      is = rw (Y.is, is_true (finite d) D.0.is_finite, is_true (finite u) U.0.is_finite) refl;
      low_number = D.0;
      high_number = U.0;
      below_number = Y.below_number;
      above_number = Y.above_number;
      below_value = Y.below_value ∙ ap negq (sym D.1);
      above_value = Y.above_value ∙ sym U.1;
      ordered = rw (D.1, U.1) Y.ordered;
    }

-- a number that is read
pub single_stands : (a : ℕ) (x : Float) → Number a x → (t : Spread) → t.below ≡ neg x → t.above ≡ x → Stands a (finite_ends x x) t
unfolding finite_ends
single_stands a x N t b u =
    record {
      low = x;
      high = x;
      is = rw (is_true (finite x) N.is_finite) refl;
      low_number = N;
      high_number = N;
      below_number = rw b (turned a x N);
      above_number = rw u N;
      below_value = rw b (value_neg x N.is_finite);
      above_value = ap value u;
      ordered = ≤q-refl (value x);
    }

-- one size for another
pub stands_wider : (a b : ℕ) → a ≤ b → (e : Ends) (s : Spread) → Stands a e s → Stands b e s
stands_wider a b l e s S =
    record {
      low = S.low;
      high = S.high;
      is = S.is;
      low_number = wider a b l S.low S.low_number;
      high_number = wider a b l S.high S.high_number;
      below_number = wider a b l s.below S.below_number;
      above_number = wider a b l s.above S.above_number;
      below_value = S.below_value;
      above_value = S.above_value;
      ordered = S.ordered;
    }
