-- Numbers of a known size: what is rounded to one, the next number, and that the value alone counts.
use mathlib.Core.Bool.{Bool, ◌||◌, false, not, true, true≢false}
use mathlib.Core.List.{[], ◌∷◌}
use mathlib.Core.Path.{◌∙◌, ◌≡◌, ap, refl, subst, sym}
use Prim.Native.Nat.{◌*◌, ◌^◌, ◌<◌, ◌≤◌, suc, ℕ}
use native.Mathlib.Omega.{arith}
use lib.Dec.{T, T_not}
use lib.Pow.{pow-lt, pow_mono}
use lib.Ieee.{Float, binary64, eq, fin, fits, inf, le, lt, nan, neg, round}
use lib.Ieee.Bits.{is_true}
use lib.Ieee.Fits.{neg-fits, round-fits}
use lib.Ieee.Scale.{finite}
use lib.IntN.{pos}
use Rattle.fraction.specs.NextNumber.{next_down, next_up}
use Rattle.fraction.specs.Rational.{◌<q◌, ◌≤q◌, at_mostq, negq, ℚ}
use Rattle.fraction.specs.RationalRing.{rational_ring}
use Rattle.fraction.specs.Ring.{opposite, solve, v0}
use borrow.Author.Tests.{lt-ltb}
use Rattle.fraction.specs.Rounding.{Rounded}
use Rattle.fraction.specs.Integer.{◌≤z◌, signed}
use Rattle.fraction.specs.Value.{fraction, value}
use Rattle.fraction.proofs.Monotone.{round_neg, rounded_monotone}
use Rattle.fraction.proofs.Adjacent.{next_down_greatest, next_up_least}
use Rattle.fraction.proofs.Comparison.{eq_value, lt_of_value, lt_value}
use Rattle.fraction.proofs.OwnRounding.{rounds_above, rounds_below}
use Rattle.fraction.proofs.Rational.{<q-≤q-trans, ≤q-<q-trans, ≤q-antisymmetric, ≤q-negated, ≤q-refl, ≤q-trans}
use Rattle.fraction.proofs.Value.{fraction_back, fraction_le, neg_finite, value_le_of_lt, value_le_of_not_lt, value_neg}
use Rattle.pairs.specs.Spreads.{Number, power, power_of_two}
use Rattle.pairs.proofs.Outward.{next_down_fits, next_up_fits}

-- ---- signs
pub twice : (x : ℚ) → negq (negq x) ≡ x
twice x = solve rational_ring (x ∷ []) (opposite (opposite v0)) v0 tt

pub neg_back : (x : Float) → neg (neg x) ≡ x
unfolding neg
neg_back nan = refl
neg_back (inf true) = refl
neg_back (inf false) = refl
neg_back (fin true m e) = refl
neg_back (fin false m e) = refl

-- ---- 2^a, as a number
pub power_fits : (a : ℕ) → a ≤ 1000 → T (fits binary64 (power a))
unfolding fits
power_fits a l =
    let g : 2 ^ a < 2 ^ 1024 = pow-lt {i = a} {j = 1024} (omega arith) in
    rw (lt-ltb (1 * 2 ^ a) (2 ^ 1024 * 1) (plain (2 ^ a) (2 ^ 1024) g)) tt
  where
    plain : (x y : ℕ) → x < y → 1 * x < y * 1
    plain x y l = omega arith

pub power_value : (a : ℕ) → value (power a) ≡ power_of_two a
power_value a = ≤q-antisymmetric _ _ (fraction_le _ _ _ _ _ _ (omega arith)) (fraction_le _ _ _ _ _ _ (omega arith))

pub power_finite : (a : ℕ) → T (finite (power a))
power_finite a = tt

pub larger_power : (a b : ℕ) → a ≤ b → power_of_two a ≤q power_of_two b
larger_power a b l = let g : 2 ^ a ≤ 2 ^ b = pow_mono l in fraction_le _ _ _ _ _ _ (omega arith)

-- ---- the tests and the values
pub le_value : (x y : Float) → T (finite x) → T (finite y) → le x y ≡ true → value x ≤q value y
unfolding le
le_value x y X Y h = go (lt x y) (eq x y) (λ t. value_le_of_lt x y X Y t) (λ t. subst (λ (z : ℚ). z ≤q value y) (sym (eq_value x y Y t))
    (≤q-refl (value y))) h
  where
    go : (a b : Bool) → (T a → value x ≤q value y) → (T b → value x ≤q value y) → (a || b) ≡ true → value x ≤q value y
    go true b f g h = f tt
    go false true f g h = g tt
    go false false f g h = absurd (true≢false (sym h))

pub between : (r x y : Float) → T (finite x) → T (finite y) → le x r ≡ true → le r y ≡ true → T (finite r)
unfolding le lt eq
between nan x y X Y l u = absurd (true≢false (sym u))
between (inf true) nan y X Y l u = absurd X
between (inf true) (inf s) y X Y l u = absurd X
between (inf true) (fin s m e) y X Y l u = absurd (true≢false (sym l))
between (inf false) x nan X Y l u = absurd Y
between (inf false) x (inf s) X Y l u = absurd Y
between (inf false) x (fin s m e) X Y l u = absurd (true≢false (sym u))
between (fin s m e) x y X Y l u = tt

-- what lies between -2^a and 2^a by the tests is a number of that size
pub number_between : (a : ℕ) (r : Float) → T (fits binary64 r) → le (neg (power a)) r ≡ true → le r (power a) ≡ true → Number a r
number_between a r F l u =
    let P = power_finite a in
    let N = neg_finite (power a) P in
    let R = between r (neg (power a)) (power a) N P l u in
    record {
      is_double = F;
      is_finite = R;
      at_least = subst (λ (z : ℚ). z ≤q value r) (value_neg (power a) P ∙ ap negq (power_value a)) (le_value (neg (power a)) r N R l);
      at_most = subst (λ (z : ℚ). value r ≤q z) (power_value a) (le_value r (power a) R P u);
    }

-- ---- rounding
rounded_fits : (r : Float) (z : ℚ) → Rounded binary64 r z → T (fits binary64 r)
rounded_fits r z R = subst (λ (x : Float). T (fits binary64 x)) (sym R.rounds) (round-fits binary64 R.sign R.over R.under)

pub rounded_number : (a : ℕ) → a ≤ 1000 → (r : Float) (z : ℚ) → Rounded binary64 r z → negq (power_of_two a) ≤q z → z ≤q power_of_two a →
    Number a r
rounded_number a l r z R h k =
    let F = power_fits a l in
    let P = power_finite a in
    number_between a r (rounded_fits r z R)
    (rounds_above binary64 (neg (power a)) (neg-fits binary64 (power a) F) (neg_finite (power a) P) r z R
    (rw (value_neg (power a) P, power_value a) h))
    (rounds_below binary64 (power a) F P r z R (rw (power_value a) k))

-- ---- the value alone counts
pub rounded_order : (r r' : Float) (z z' : ℚ) → Rounded binary64 r z → Rounded binary64 r' z' → T (finite r) → T (finite r') → z ≤q z'
    → value r ≤q value r'
rounded_order r r' z z' R S F G h = value_le_of_not_lt r r' F G (rounded_monotone binary64 r r' z z' R S h)

pub rounded_same : (r r' : Float) (z : ℚ) → Rounded binary64 r z → Rounded binary64 r' z → T (finite r) → T (finite r') → value r ≡ value r'
rounded_same r r' z R S F G = ≤q-antisymmetric _ _ (rounded_order r r' z z R S F G (≤q-refl z)) (rounded_order r' r z z S R G F (≤q-refl z))

pub rounded_turned : (r : Float) (z : ℚ) → Rounded binary64 r z → Rounded binary64 (neg r) (negq z)
unfolding negq
rounded_turned r z R =
    record {
      sign = not R.sign;
      over = R.over;
      under = R.under;
      positive = R.positive;
      rounds = ap neg R.rounds ∙ turned R.sign;
      exact = ap negq R.exact ∙ go R.sign;
    }
  where
    turned : (s : Bool) → neg (round binary64 s R.over R.under) ≡ round binary64 (not s) R.over R.under
    turned false = sym (round_neg binary64 R.over R.under)
    turned true = ap neg (round_neg binary64 R.over R.under) ∙ neg_back (round binary64 false R.over R.under)

    go : (s : Bool) → negq (fraction (signed s R.over) R.under R.positive) ≡ fraction (signed (not s) R.over) R.under R.positive
    go false = refl
    go true = twice (fraction (signed false R.over) R.under R.positive)

-- ---- one size for another
pub wider : (a b : ℕ) → a ≤ b → (x : Float) → Number a x → Number b x
wider a b l x N =
    let g = larger_power a b l in
    record {
      is_double = N.is_double;
      is_finite = N.is_finite;
      at_least = ≤q-trans (negq (power_of_two b)) (negq (power_of_two a)) (value x) (≤q-negated _ _ g) N.at_least;
      at_most = ≤q-trans (value x) (power_of_two a) (power_of_two b) N.at_most g;
    }

pub turned : (a : ℕ) (x : Float) → Number a x → Number a (neg x)
turned a x N =
    record {
      is_double = neg-fits binary64 x N.is_double;
      is_finite = neg_finite x N.is_finite;
      at_least = rw (value_neg x N.is_finite) (≤q-negated (value x) (power_of_two a) N.at_most);
      at_most = rw (value_neg x N.is_finite) (rw (twice (power_of_two a)) at (≤q-negated (negq (power_of_two a)) (value x) N.at_least));
    }

-- ---- the next number
finite_below : (x : Float) → T (finite x) → T (lt x (inf false))
unfolding lt
finite_below nan X = X
finite_below (inf s) X = absurd X
finite_below (fin s m e) X = tt

finite_above : (x : Float) → T (finite x) → T (lt (inf true) x)
unfolding lt
finite_above nan X = X
finite_above (inf s) X = absurd X
finite_above (fin s m e) X = tt

not_test : (b : Bool) → (T b → ⊥) → T (not b)
not_test true f = f tt
not_test false f = tt

strict : (a : ℕ) → power_of_two a <q power_of_two (suc a)
strict a = not_test (at_mostq (power_of_two (suc a)) (power_of_two a)) (λ k. never (2 ^ a) (2 ^ suc a) (pow-lt {i = a} {j = suc a} (omega arith))
    (fraction_back (pos (2 ^ suc a)) (pos (2 ^ a)) 1 (omega arith) k))
  where
    never : (x y : ℕ) → x < y → pos y ≤z pos x → ⊥
    never x y l h = omega arith

pub <q-negated : (x y : ℚ) → x <q y → negq y <q negq x
<q-negated x y h = not_test (at_mostq (negq x) (negq y)) (λ k. T_not (at_mostq y x) h (subst (λ (z : ℚ). z ≤q x) (twice y)
    (subst (λ (z : ℚ). negq (negq y) ≤q z) (twice x) (≤q-negated (negq x) (negq y) k))))

-- what is above a number of size a, and at or below all that are, is a number of size a + 1
module _ (x : Float) (F : T (fits binary64 x)) (X : T (finite x)) where
  above_it : T (lt x (next_up binary64 x))
  above_it = (next_up_least binary64 x F (finite_below x X)).0

  pub up_least : (w : Float) → T (fits binary64 w) → T (finite w) → value x <q value w → le (next_up binary64 x) w ≡ true
  up_least w G W h = is_true (le (next_up binary64 x) w) ((next_up_least binary64 x F (finite_below x X)).1 w G
      (subst T (sym (lt_of_value x w X W h)) tt))

  below_it : T (lt (next_down binary64 x) x)
  below_it = (next_down_greatest binary64 x F (finite_above x X)).0

  pub down_greatest : (w : Float) → T (fits binary64 w) → T (finite w) → value w <q value x → le w (next_down binary64 x) ≡ true
  down_greatest w G W h = is_true (le w (next_down binary64 x)) ((next_down_greatest binary64 x F (finite_above x X)).1 w G
      (subst T (sym (lt_of_value w x W X h)) tt))

-- lt and le, where the first is finite
lt_is_le : (x y : Float) → T (lt x y) → le x y ≡ true
unfolding le
lt_is_le x y t = rw (is_true (lt x y) t) refl

pub up_number : (a : ℕ) → a ≤ 999 → (x : Float) → Number a x → Number (suc a) (next_up binary64 x)
up_number a l x N =
    let P = power_finite (suc a) in
    let w = power (suc a) in
    let h = up_least x N.is_double N.is_finite w (power_fits (suc a) (omega arith)) P
    (subst (λ (z : ℚ). value x <q z) (sym (power_value (suc a))) (≤q-<q-trans (value x) (power_of_two a) (power_of_two (suc a)) N.at_most
    (strict a))) in
    let k = lt_is_le x (next_up binary64 x) (above_it x N.is_double N.is_finite) in
    let R = between (next_up binary64 x) x w N.is_finite P k h in
    record {
      is_double = next_up_fits x N.is_double;
      is_finite = R;
      at_least = ≤q-trans (negq (power_of_two (suc a))) (value x) (value (next_up binary64 x)) (wider a (suc a) (omega arith) x N).at_least
          (le_value x (next_up binary64 x) N.is_finite R k);
      at_most = subst (λ (z : ℚ). value (next_up binary64 x) ≤q z) (power_value (suc a)) (le_value (next_up binary64 x) w R P h);
    }

pub down_number : (a : ℕ) → a ≤ 999 → (x : Float) → Number a x → Number (suc a) (next_down binary64 x)
down_number a l x N =
    let P = power_finite (suc a) in
    let w = neg (power (suc a)) in
    let W = neg_finite (power (suc a)) P in
    let h = down_greatest x N.is_double N.is_finite w (neg-fits binary64 _ (power_fits (suc a) (omega arith))) W
    (rw (value_neg (power (suc a)) P, power_value (suc a)) (<q-≤q-trans (negq (power_of_two (suc a))) (negq (power_of_two a)) (value x)
    (<q-negated (power_of_two a) (power_of_two (suc a)) (strict a)) N.at_least)) in
    let k = lt_is_le (next_down binary64 x) x (below_it x N.is_double N.is_finite) in
    let R = between (next_down binary64 x) w x W N.is_finite h k in
    record {
      is_double = next_down_fits x N.is_double;
      is_finite = R;
      at_least = subst (λ (z : ℚ). z ≤q value (next_down binary64 x)) (value_neg (power (suc a)) P ∙ ap negq (power_value (suc a)))
          (le_value w (next_down binary64 x) W R h);
      at_most = ≤q-trans (value (next_down binary64 x)) (value x) (power_of_two (suc a)) (le_value (next_down binary64 x) x R N.is_finite k)
          (wider a (suc a) (omega arith) x N).at_most;
    }

-- ---- by the value alone: of two numbers with the same value, and of x = -l
module _ (a : ℕ) (s : a ≤ 999) (x y : Float) (N : Number a x) (M : Number a y) where
  next_le : value x ≡ value y → value (next_up binary64 x) ≤q value (next_up binary64 y)
  next_le e =
      let U = up_number a s x N in
      let Y = up_number a s y M in
      le_value _ _ U.is_finite Y.is_finite (up_least x N.is_double N.is_finite (next_up binary64 y) Y.is_double Y.is_finite
      (subst (λ (z : ℚ). z <q value (next_up binary64 y)) (sym e) (lt_value y (next_up binary64 y) M.is_finite Y.is_finite
      (above_it y M.is_double M.is_finite))))

  pub next_turned : value x ≡ negq (value y) → value (next_up binary64 x) ≡ negq (value (next_down binary64 y))
  next_turned e =
      let U = up_number a s x N in
      let D = down_number a s y M in
      let u = next_up binary64 x in
      let d = next_down binary64 y in
      ≤q-antisymmetric _ _
      (subst (λ (z : ℚ). value u ≤q z) (value_neg d D.is_finite) (le_value u (neg d) U.is_finite (neg_finite d D.is_finite)
      (up_least x N.is_double N.is_finite (neg d) (neg-fits binary64 d D.is_double) (neg_finite d D.is_finite)
      (rw (e, value_neg d D.is_finite) (<q-negated (value d) (value y) (lt_value d y D.is_finite M.is_finite
      (below_it y M.is_double M.is_finite)))))))
      (subst (λ (z : ℚ). negq (value d) ≤q z) (twice (value u)) (≤q-negated (negq (value u)) (value d)
      (subst (λ (z : ℚ). z ≤q value d) (value_neg u U.is_finite) (le_value (neg u) d (neg_finite u U.is_finite) D.is_finite
      (down_greatest y M.is_double M.is_finite (neg u) (neg-fits binary64 u U.is_double) (neg_finite u U.is_finite)
      (rw (value_neg u U.is_finite) (subst (λ (z : ℚ). negq (value u) <q z) (ap negq e ∙ twice (value y))
      (<q-negated (value x) (value u) (lt_value x u N.is_finite U.is_finite (above_it x N.is_double N.is_finite))))))))))

pub next_same : (a : ℕ) → a ≤ 999 → (x y : Float) → Number a x → Number a y → value x ≡ value y
    → value (next_up binary64 x) ≡ value (next_up binary64 y)
next_same a s x y N M e = ≤q-antisymmetric _ _ (next_le a s x y N M e) (next_le a s y x M N (sym e))

pub raised : (a : ℕ) → a ≤ 999 → (x : Float) → Number a x → value x ≤q value (next_up binary64 x)
raised a l x N = value_le_of_lt x (next_up binary64 x) N.is_finite (up_number a l x N).is_finite (above_it x N.is_double N.is_finite)

pub lowered : (a : ℕ) → a ≤ 999 → (x : Float) → Number a x → value (next_down binary64 x) ≤q value x
lowered a l x N = value_le_of_lt (next_down binary64 x) x (down_number a l x N).is_finite N.is_finite (below_it x N.is_double N.is_finite)
