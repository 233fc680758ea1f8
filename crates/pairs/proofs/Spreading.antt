-- What stands for two pairs gives what stands for their sum, difference, product and quotient.
use mathlib.Core.Bool.{false, true}
use mathlib.Core.List.{[], ◌∷◌}
use mathlib.Core.Path.{◌∙◌, ◌≡◌, ap, refl, subst, sym}
use Prim.Native.Nat.{◌*◌, ◌+◌, ◌^◌, ◌≤◌, suc, ℕ}
use lib.Pow.{pow-add}
use native.Mathlib.Omega.{arith}
use lib.Dec.{T}
use lib.Ieee.{Float, binary64, div, fin, fits, le, lt, mul, neg, of_bits}
use lib.Ieee.Bits.{is_true}
use lib.Ieee.Scale.{finite}
use lib.IntN.{pos}
use Rattle.fraction.specs.DirectedSum.{plain_zero}
use Rattle.fraction.specs.NextNumber.{next_down, next_up}
use Rattle.fraction.specs.Order.{le_one}
use Rattle.fraction.specs.Pair.{Ends, divide_pairs, finite_ends, highest_of, lowest, lowest_of, moved, multiply_pairs, outward, point}
use Rattle.fraction.specs.Rational.{Above, ◌*q◌, ◌/q◌, ◌<q◌, ◌≤q◌, at_mostq, inverse, negq, ℚ, 𝟘, 𝟙}
use Rattle.fraction.specs.RationalRing.{rational_ring}
use Rattle.fraction.specs.Ring.{◌⊗◌, con, opposite, solve, v0, v1, v2}
use Rattle.fraction.specs.Rounding.{Rounded}
use Rattle.fraction.specs.Value.{value}
use Rattle.fraction.proofs.Corners.{product_above, product_below}
use Rattle.fraction.proofs.Lowest.{highest_among, highest_of_four, lowest_among, lowest_of_four}
use Rattle.fraction.proofs.Comparison.{lt_of_value}
use Rattle.fraction.proofs.DirectedSum.{Plain, a_zero, no_zero, plain_cases}
use Rattle.fraction.proofs.Inverse.{inverse_antitone, inverse_is, inverse_nonnegative}
use Rattle.fraction.proofs.Rational.{<q-weaken, <q-≤q-trans, rational_order, ≤q-<q-trans, ≤q-antisymmetric, ≤q-negated, ≤q-refl, ≤q-trans, ≤q-whole}
use Rattle.fraction.proofs.Rounding.{divide_rounded, mul_rounded}
use Rattle.fraction.proofs.Value.{fraction_le, neg_finite, value_neg}
use Rattle.pairs.specs.Spreads.{Number, Stands, bounded, power_of_two, shortest}
use Rattle.pairs.specs.Structs.{largest_number}
use Rattle.pairs.specs.declared.spread.Spread.{Spread}
use Rattle.pairs.proofs.Numbers.{down_number, le_value, lowered, next_same, next_turned, raised, rounded_number, rounded_order, rounded_same, rounded_turned, turned, twice, up_number, wider}

-- ---- sizes of products
power_times : (a b : ℕ) → power_of_two a *q power_of_two b ≡ power_of_two (a + b)
unfolding ◌*q◌
power_times a b =
    let e : 2 ^ (a + b) ≡ 2 ^ a * 2 ^ b = pow-add 2 a b in
    ≤q-antisymmetric _ _ (fraction_le _ _ _ _ _ _ (omega arith)) (fraction_le _ _ _ _ _ _ (omega arith))

power_nonnegative : (a : ℕ) → 𝟘 ≤q power_of_two a
power_nonnegative a = ≤q-whole (2 ^ a)

below_size : (a b : ℕ) (x y : ℚ) → negq (power_of_two a) ≤q x → x ≤q power_of_two a → negq (power_of_two b) ≤q y → y ≤q power_of_two b
    → (negq (power_of_two (a + b)) ≤q x *q y) × (x *q y ≤q power_of_two (a + b))
below_size a b x y l u m v =
    let A = power_of_two a in
    let B = power_of_two b in
    let ρ = A ∷ B ∷ [] in
    let n = rational_order.nonnegative_mul A B (power_nonnegative a) (power_nonnegative b) in
    let same : (z : ℚ) → z ≡ A *q B → z ≤q A *q B = λ z e. subst (λ (w : ℚ). w ≤q A *q B) (sym e) (≤q-refl (A *q B)) in
    let less = le_one rational_ring ◌≤q◌ rational_order ρ (opposite (v0 ⊗ v1)) (v0 ⊗ v1) (con (pos 2)) (con (pos 0)) (v0 ⊗ v1) tt (≤q-whole
    2) n in
    let to = power_times a b in (
      subst (λ (z : ℚ). negq z ≤q x *q y) to
          (product_above x (negq A) A y (negq B) B l u m v (negq (A *q B))
          (subst (λ (z : ℚ). negq (A *q B) ≤q z) (solve rational_ring ρ (v0 ⊗ v1) (opposite v0 ⊗ opposite v1) tt) less)
          (subst (λ (z : ℚ). negq (A *q B) ≤q z) (solve rational_ring ρ (opposite (v0 ⊗ v1)) (opposite v0 ⊗ v1) tt) (≤q-refl (negq (A *q
          B))))
          (subst (λ (z : ℚ). negq (A *q B) ≤q z) (solve rational_ring ρ (opposite (v0 ⊗ v1)) (v0 ⊗ opposite v1) tt) (≤q-refl (negq (A *q
          B))))
          less),
      subst (λ (z : ℚ). x *q y ≤q z) to
          (product_below x (negq A) A y (negq B) B l u m v (A *q B)
          (same (negq A *q negq B) (solve rational_ring ρ (opposite v0 ⊗ opposite v1) (v0 ⊗ v1) tt))
          (subst (λ (z : ℚ). z ≤q A *q B) (solve rational_ring ρ (opposite (v0 ⊗ v1)) (opposite v0 ⊗ v1) tt) less)
          (subst (λ (z : ℚ). z ≤q A *q B) (solve rational_ring ρ (opposite (v0 ⊗ v1)) (v0 ⊗ opposite v1) tt) less)
          (≤q-refl (A *q B))),
    )

-- a product of two numbers
pub product : (a b : ℕ) → a + b ≤ 1000 → (x y : Float) → Number a x → Number b y → Number (a + b) (mul binary64 x y)
product a b l x y N M =
    let s = below_size a b (value x) (value y) N.at_least N.at_most M.at_least M.at_most in
    rounded_number (a + b) l (mul binary64 x y) (value x *q value y) (mul_rounded binary64 x y N.is_finite M.is_finite) s.0 s.1

-- ---- four numbers, by their values
highest_most : (p q r s : Float) → T (finite p) → T (finite q) → T (finite r) → T (finite s) → (m : ℚ) → value p ≤q m → value q ≤q m
    → value r ≤q m → value s ≤q m
    → ((n : ℚ) → value p ≤q n → value q ≤q n → value r ≤q n → value s ≤q n → m ≤q n) → value (highest_of p q r s) ≡ m
highest_most p q r s P Q R S m a b c d least =
    let h = highest_of_four p q r s P Q R S in
    ≤q-antisymmetric _ _ (highest_among (λ (x : Float). value x ≤q m) p q r s a b c d) (least (value (highest_of p q r s)) h.0 h.1
    h.2
    h.3)

lowest_least : (p q r s : Float) → T (finite p) → T (finite q) → T (finite r) → T (finite s) → (m : ℚ) → m ≤q value p → m ≤q value q
    → m ≤q value r → m ≤q value s
    → ((n : ℚ) → n ≤q value p → n ≤q value q → n ≤q value r → n ≤q value s → n ≤q m) → value (lowest_of p q r s) ≡ m
lowest_least p q r s P Q R S m a b c d greatest =
    let h = lowest_of_four p q r s P Q R S in
    ≤q-antisymmetric _ _ (greatest (value (lowest_of p q r s)) h.0 h.1 h.2 h.3)
    (lowest_among (λ (x : Float). m ≤q value x) p q r s a b c d)

-- turned, the highest of four is the lowest of the four that are turned
highest_turned : (v w x y p q r s : Float) → T (finite v) → T (finite w) → T (finite x) → T (finite y)
    → T (finite p) → T (finite q) → T (finite r) → T (finite s) → value v ≡ negq (value p) → value w ≡ negq (value q)
    → value x ≡ negq (value r) → value y ≡ negq (value s) → value (highest_of v w x y) ≡ negq (value (lowest_of p q r s))
highest_turned v w x y p q r s A B C D P Q R S a b c d =
    let l = lowest_of_four p q r s P Q R S in
    let m = negq (value (lowest_of p q r s)) in
    let under : (u t : Float) → value u ≡ negq (value t) → value (lowest_of p q r s) ≤q value t → value u ≤q m = λ u t e h. subst (λ (z :
    ℚ). z ≤q m) (sym e)
    (≤q-negated _ _ h) in
    highest_most v w x y A B C D m (under v p a l.0) (under w q b l.1) (under x r c l.2) (under y s d l.3)
    (λ n h₀ h₁ h₂ h₃. lowest_among (λ (t : Float). negq (value t) ≤q n) p q r s (subst (λ (z : ℚ). z ≤q n) a h₀) (subst (λ (z : ℚ). z ≤q
    n) b h₁)
    (subst (λ (z : ℚ). z ≤q n) c h₂) (subst (λ (z : ℚ). z ≤q n) d h₃))

-- the highest of four, in another order
highest_same : (v w x y p q r s : Float) → T (finite v) → T (finite w) → T (finite x) → T (finite y)
    → T (finite p) → T (finite q) → T (finite r) → T (finite s) → value v ≡ value r → value w ≡ value s
    → value x ≡ value p → value y ≡ value q → value (highest_of v w x y) ≡ value (highest_of p q r s)
highest_same v w x y p q r s A B C D P Q R S a b c d =
    let h = highest_of_four p q r s P Q R S in
    let m = value (highest_of p q r s) in
    let under : (u t : Float) → value u ≡ value t → value t ≤q m → value u ≤q m = λ u t e h. subst (λ (z : ℚ). z ≤q m) (sym e) h in
    highest_most v w x y A B C D m (under v r a h.2) (under w s b h.3) (under x p c h.0) (under y q d h.1)
    (λ n h₀ h₁ h₂ h₃. highest_among (λ (t : Float). value t ≤q n) p q r s (subst (λ (z : ℚ). z ≤q n) c h₂) (subst (λ (z : ℚ). z ≤q n) d h₃)
    (subst (λ (z : ℚ). z ≤q n) a h₀) (subst (λ (z : ℚ). z ≤q n) b h₁))

-- ---- the largest number is out of reach
pub zero_value : value (fin false 0 (pos 0)) ≡ 𝟘
unfolding at_mostq
zero_value = ≤q-antisymmetric (value (fin false 0 (pos 0))) 𝟘 tt tt

plain_number : (a : ℕ) (x : Float) → Number a x → (p : Float) → Plain binary64 x p → Number a p × (value p ≡ value x)
unfolding fits
plain_number a x N p (a_zero F e) =
    let z = zero_value ∙ sym e in (
      record {
        is_double = tt;
        is_finite = tt;
        at_least = subst (λ (q : ℚ). negq (power_of_two a) ≤q q) (sym z) N.at_least;
        at_most = subst (λ (q : ℚ). q ≤q power_of_two a) (sym z) N.at_most;
      },
      z,
    )
plain_number a x N p (no_zero n) = (N, refl)

pub under_largest : (a : ℕ) → a ≤ 999 → (x : Float) → Number a x → lt x largest_number ≡ true
unfolding at_mostq of_bits
under_largest a l x N = lt_of_value x largest_number N.is_finite tt (≤q-<q-trans (value x) (power_of_two 999) (value largest_number)
    (wider a 999 l x N).at_most tt)

pub bounded_number : (a : ℕ) → a ≤ 999 → (x : Float) → Number a x → Number a (bounded x) × (value (bounded x) ≡ value x)
unfolding lowest
bounded_number a l x N = rw (under_largest a l x N) (plain_number a x N (plain_zero binary64 x) (plain_cases binary64 x))

-- ---- what products and quotients share: the lowest and the highest of four, moved outward
pub outward_stands : (a : ℕ) → a ≤ 999 → (p q r s v w : Float) → Number a p → Number a q → Number a r → Number a s → Number a v → Number a w
    → value v ≡ negq (value (lowest_of p q r s)) → value w ≡ value (highest_of p q r s) → (t : Spread) → t.below ≡ next_up binary64
    (bounded v)
    → t.above ≡ next_up binary64 (bounded w) → Stands (suc a) (outward binary64 p q r s) t
unfolding outward moved finite_ends
outward_stands a l p q r s v w P Q R S N M e f t b u =
    let L = lowest_of p q r s in
    let H = highest_of p q r s in
    let X = lowest_among (Number a) p q r s P Q R S in
    let Y = highest_among (Number a) p q r s P Q R S in
    let D = down_number a l L X in
    let U = up_number a l H Y in
    let O = bounded_number a l v N in
    let K = bounded_number a l w M in
    record {
      low = next_down binary64 L;
      high = next_up binary64 H;
      is = rw (
        is_true (finite L) X.is_finite,
        is_true (finite H) Y.is_finite,
        is_true (finite (next_down binary64 L)) D.is_finite,
        is_true (finite (next_up binary64 H)) U.is_finite,
      ) refl;
      low_number = D;
      high_number = U;
      below_number = rw b (up_number a l (bounded v) O.0);
      above_number = rw u (up_number a l (bounded w) K.0);
      below_value = rw b (next_turned a l (bounded v) L O.0 X (O.1 ∙ e));
      above_value = rw u (next_same a l (bounded w) H K.0 Y (K.1 ∙ f));
      ordered = ≤q-trans _ _ _ (lowered a l L X) (≤q-trans _ _ _ (lowest_of_four p q r s P.is_finite Q.is_finite R.is_finite
          S.is_finite).0 (≤q-trans _ _ _ (highest_of_four p q r s P.is_finite Q.is_finite R.is_finite S.is_finite).0
          (raised a l H Y)));
    }

-- ---- products
module _ (a b : ℕ) (l : a + b ≤ 1000) (x y x' y' : Float) (N : Number a x) (M : Number b y) (N' : Number a x') (M' : Number b y') where
  -- the values alone count
  same_product : value x *q value y ≡ value x' *q value y' → value (mul binary64 x y) ≡ value (mul binary64 x' y')
  same_product e =
      rounded_same (mul binary64 x y) (mul binary64 x' y') (value x *q value y) (mul_rounded binary64 x y N.is_finite M.is_finite)
      (subst (Rounded binary64 (mul binary64 x' y')) (sym e) (mul_rounded binary64 x' y' N'.is_finite M'.is_finite))
      (product a b l x y N M).is_finite (product a b l x' y' N' M').is_finite

  turned_product : value x *q value y ≡ negq (value x' *q value y') → value (mul binary64 x y) ≡ negq (value (mul binary64 x' y'))
  turned_product e =
      let G = (product a b l x' y' N' M').is_finite in
      rounded_same (mul binary64 x y) (neg (mul binary64 x' y')) (value x *q value y) (mul_rounded binary64 x y N.is_finite M.is_finite)
      (subst (Rounded binary64 (neg (mul binary64 x' y'))) (sym e) (rounded_turned _ _ (mul_rounded binary64 x' y' N'.is_finite
      M'.is_finite)))
      (product a b l x y N M).is_finite (neg_finite (mul binary64 x' y') G)
      ∙ value_neg (mul binary64 x' y') G

-- products of values, by equations of the factors
turned_left : (u v p q : ℚ) → u ≡ negq p → v ≡ q → u *q v ≡ negq (p *q q)
turned_left u v p q h k = ap (λ (z : ℚ). z *q v) h ∙ ap (λ (z : ℚ). negq p *q z) k
    ∙ solve rational_ring (p ∷ q ∷ []) (opposite v0 ⊗ v1) (opposite (v0 ⊗ v1)) tt

turned_right : (u v p q : ℚ) → u ≡ p → v ≡ negq q → u *q v ≡ negq (p *q q)
turned_right u v p q h k = ap (λ (z : ℚ). z *q v) h ∙ ap (λ (z : ℚ). p *q z) k
    ∙ solve rational_ring (p ∷ q ∷ []) (v0 ⊗ opposite v1) (opposite (v0 ⊗ v1)) tt

turned_both : (u v p q : ℚ) → u ≡ negq p → v ≡ negq q → u *q v ≡ p *q q
turned_both u v p q h k = ap (λ (z : ℚ). z *q v) h ∙ ap (λ (z : ℚ). negq p *q z) k
    ∙ solve rational_ring (p ∷ q ∷ []) (opposite v0 ⊗ opposite v1) (v0 ⊗ v1) tt

turned_none : (u v p q : ℚ) → u ≡ p → v ≡ q → u *q v ≡ p *q q
turned_none u v p q h k = ap (λ (z : ℚ). z *q v) h ∙ ap (λ (z : ℚ). p *q z) k

-- the four products of ends, and what the code takes for their lowest and their highest
module _ (a b : ℕ) (l : a + b ≤ 999) (e g : Ends) (x y : Spread) (X : Stands a e x) (Y : Stands b g y) where
  within : a + b ≤ 1000
  within = omega arith

  low_again : Number b (neg y.below)
  low_again = turned b y.below Y.below_number

  high_turned : Number b (neg y.above)
  high_turned = turned b y.above Y.above_number

  low_is : value (neg y.below) ≡ value Y.low
  low_is = value_neg y.below Y.below_number.is_finite ∙ ap negq Y.below_value ∙ twice (value Y.low)

  high_is : value (neg y.above) ≡ negq (value Y.high)
  high_is = value_neg y.above Y.above_number.is_finite ∙ ap negq Y.above_value

  below_is : value (highest_of (mul binary64 x.below (neg y.below)) (mul binary64 x.below y.above) (mul binary64 x.above y.below)
      (mul binary64 x.above (neg y.above)))
      ≡ negq (value (lowest_of (mul binary64 X.low Y.low) (mul binary64 X.low Y.high) (mul binary64 X.high Y.low)
      (mul binary64 X.high Y.high)))
  below_is =
      highest_turned _ _ _ _ _ _ _ _
      (product a b within _ _ X.below_number low_again).is_finite (product a b within _ _ X.below_number Y.above_number
      ).is_finite
      (product a b within _ _ X.above_number Y.below_number).is_finite (product a b within _ _ X.above_number high_turned
      ).is_finite
      (product a b within _ _ X.low_number Y.low_number).is_finite (product a b within _ _ X.low_number Y.high_number
      ).is_finite
      (product a b within _ _ X.high_number Y.low_number).is_finite (product a b within _ _ X.high_number Y.high_number
      ).is_finite
      (turned_product a b within _ _ _ _ X.below_number low_again X.low_number Y.low_number
      (turned_left _ _ _ _ X.below_value low_is))
      (turned_product a b within _ _ _ _ X.below_number Y.above_number X.low_number Y.high_number
      (turned_left _ _ _ _ X.below_value Y.above_value))
      (turned_product a b within _ _ _ _ X.above_number Y.below_number X.high_number Y.low_number
      (turned_right _ _ _ _ X.above_value Y.below_value))
      (turned_product a b within _ _ _ _ X.above_number high_turned X.high_number Y.high_number
      (turned_right _ _ _ _ X.above_value high_is))

  above_is : value (highest_of (mul binary64 x.above (neg y.below)) (mul binary64 x.above y.above) (mul binary64 x.below y.below)
      (mul binary64 x.below (neg y.above)))
      ≡ value (highest_of (mul binary64 X.low Y.low) (mul binary64 X.low Y.high) (mul binary64 X.high Y.low)
      (mul binary64 X.high Y.high))
  above_is =
      highest_same _ _ _ _ _ _ _ _
      (product a b within _ _ X.above_number low_again).is_finite (product a b within _ _ X.above_number Y.above_number
      ).is_finite
      (product a b within _ _ X.below_number Y.below_number).is_finite (product a b within _ _ X.below_number high_turned
      ).is_finite
      (product a b within _ _ X.low_number Y.low_number).is_finite (product a b within _ _ X.low_number Y.high_number
      ).is_finite
      (product a b within _ _ X.high_number Y.low_number).is_finite (product a b within _ _ X.high_number Y.high_number
      ).is_finite
      (same_product a b within _ _ _ _ X.above_number low_again X.high_number Y.low_number
      (turned_none _ _ _ _ X.above_value low_is))
      (same_product a b within _ _ _ _ X.above_number Y.above_number X.high_number Y.high_number
      (turned_none _ _ _ _ X.above_value Y.above_value))
      (same_product a b within _ _ _ _ X.below_number Y.below_number X.low_number Y.low_number
      (turned_both _ _ _ _ X.below_value Y.below_value))
      (same_product a b within _ _ _ _ X.below_number high_turned X.low_number Y.high_number
      (turned_both _ _ _ _ X.below_value high_is))

  pub times_stands : (t : Spread)
      → t.below ≡ next_up binary64 (bounded (highest_of (mul binary64 x.below (neg y.below)) (mul binary64 x.below y.above)
      (mul binary64 x.above y.below) (mul binary64 x.above (neg y.above))))
      → t.above ≡ next_up binary64 (bounded (highest_of (mul binary64 x.above (neg y.below)) (mul binary64 x.above y.above)
      (mul binary64 x.below y.below) (mul binary64 x.below (neg y.above))))
      → Stands (suc (a + b)) (multiply_pairs binary64 e g) t
  unfolding multiply_pairs
  times_stands t B A =
      rw (X.is, Y.is)
      (outward_stands (a + b) l _ _ _ _ _ _ (product a b within _ _ X.low_number Y.low_number)
      (product a b within _ _ X.low_number Y.high_number) (product a b within _ _ X.high_number Y.low_number)
      (product a b within _ _ X.high_number Y.high_number)
      (highest_among (Number (a + b)) _ _ _ _ (product a b within _ _ X.below_number low_again)
      (product a b within _ _ X.below_number Y.above_number) (product a b within _ _ X.above_number Y.below_number)
      (product a b within _ _ X.above_number high_turned))
      (highest_among (Number (a + b)) _ _ _ _ (product a b within _ _ X.above_number low_again)
      (product a b within _ _ X.above_number Y.above_number) (product a b within _ _ X.below_number Y.below_number)
      (product a b within _ _ X.below_number high_turned))
      below_is above_is t B A)

-- by a number that is not negative
module _ (a b : ℕ) (l : a + b ≤ 999) (e : Ends) (x : Spread) (X : Stands a e x) (c : Float) (C : Number b c) (P : 𝟘 ≤q value c) where
  fine : a + b ≤ 1000
  fine = omega arith

  by_low : Number (a + b) (mul binary64 X.low c)
  by_low = product a b fine X.low c X.low_number C

  by_high : Number (a + b) (mul binary64 X.high c)
  by_high = product a b fine X.high c X.high_number C

  by_ordered : value (mul binary64 X.low c) ≤q value (mul binary64 X.high c)
  by_ordered = rounded_order _ _ _ _ (mul_rounded binary64 X.low c X.low_number.is_finite C.is_finite)
      (mul_rounded binary64 X.high c X.high_number.is_finite C.is_finite) by_low.is_finite by_high.is_finite
      (le_one rational_ring ◌≤q◌ rational_order (value X.low ∷ value X.high ∷ value c ∷ []) (v0 ⊗ v2) (v1 ⊗ v2) v2 v0 v1 tt P X.ordered)

  pub by_stands : (t : Spread) → t.below ≡ next_up binary64 (bounded (mul binary64 x.below c)) → t.above ≡ next_up binary64 (bounded
      (mul binary64 x.above c))
      → Stands (suc (a + b)) (multiply_pairs binary64 e (point c)) t
  unfolding multiply_pairs
  by_stands t B A =
      let p = mul binary64 X.low c in
      let q = mul binary64 X.high c in
      let F = by_low.is_finite in
      let G = by_high.is_finite in
      let r = ≤q-refl (value p) in
      let s = ≤q-refl (value q) in
      rw X.is
      (outward_stands (a + b) l p p q q _ _ by_low by_low by_high by_high (product a b fine _ _ X.below_number C)
      (product a b fine _ _ X.above_number C)
      (turned_product a b fine _ _ _ _ X.below_number C X.low_number C (turned_left _ _ _ _ X.below_value refl)
      ∙ ap negq (sym (lowest_least p p q q F F G G (value p) r r by_ordered by_ordered (λ n h₀ h₁ h₂ h₃. h₀))))
      (same_product a b fine _ _ _ _ X.above_number C X.high_number C (turned_none _ _ _ _ X.above_value refl)
      ∙ sym (highest_most p p q q F F G G (value q) by_ordered by_ordered s s (λ n h₀ h₁ h₂ h₃. h₂)))
      t B A)

-- a number that is read, times another
pub read_stands : (a b : ℕ) → a + b ≤ 999 → (c p : Float) → Number a c → Number b p → (t : Spread)
    → t.below ≡ next_up binary64 (bounded (neg (mul binary64 c p))) → t.above ≡ next_up binary64 (bounded (mul binary64 c p))
    → Stands (suc (a + b)) (multiply_pairs binary64 (point c) (finite_ends p p)) t
unfolding multiply_pairs finite_ends
read_stands a b l c p C P t B A =
    let v = mul binary64 c p in
    let N = product a b (omega arith) c p C P in
    let F = N.is_finite in
    let r = ≤q-refl (value v) in
    rw (is_true (finite p) P.is_finite)
    (outward_stands (a + b) l v v v v (neg v) v N N N N (turned (a + b) v N) N
    (value_neg v F ∙ ap negq (sym (lowest_least v v v v F F F F (value v) r r r r (λ n h₀ h₁ h₂ h₃. h₀))))
    (sym (highest_most v v v v F F F F (value v) r r r r (λ n h₀ h₁ h₂ h₃. h₀)))
    t B A)

-- ---- quotients by a number above 0, which is at least 2^-k
-- the size of an inverse
inverse_size : (k : ℕ) (y : ℚ) → Above y → 𝟙 ≤q power_of_two k *q y → (negq (power_of_two k) ≤q inverse y) × (inverse y ≤q power_of_two k)
inverse_size k y Y h =
    let i = inverse y in
    let A = power_of_two k in
    let n = inverse_nonnegative y (<q-weaken 𝟘 y Y) in
    let one = inverse_is y Y in (
      ≤q-trans (negq A) 𝟘 i (le_one rational_ring ◌≤q◌ rational_order (A ∷ []) (opposite v0) (con (pos 0)) (con (pos 1)) (con (pos 0)) v0 tt
          (≤q-whole 1) (power_nonnegative k)) n,
      subst (λ (z : ℚ). z ≤q A) (solve rational_ring (i ∷ []) (v0 ⊗ con (pos 1)) v0 tt)
          (subst (λ (z : ℚ). i *q 𝟙 ≤q z) (solve rational_ring (i ∷ A ∷ y ∷ []) (v0 ⊗ (v1 ⊗ v2)) (v1 ⊗ (v2 ⊗ v0)) tt
          ∙ ap (λ (z : ℚ). A *q z) one ∙ solve rational_ring (A ∷ []) (v0 ⊗ con (pos 1)) v0 tt)
          (le_one rational_ring ◌≤q◌ rational_order (i ∷ (A *q y) ∷ []) (v0 ⊗ con (pos 1)) (v0 ⊗ v1) v0 (con (pos 1)) v1 tt n h)),
    )

-- a divisor: finite, above 0 and at least 2^-k
pub record Divisor (k : ℕ) (y : Float) : Type 0 where
  pub divides : T (finite y)
  pub is_above_law : Above (value y)
  pub not_small : 𝟙 ≤q power_of_two k *q value y

quotient : (a k : ℕ) → a + k ≤ 1000 → (x y : Float) → Number a x → Divisor k y → Number (a + k) (div binary64 x y)
quotient a k l x y N D =
    let i = inverse_size k (value y) D.is_above_law D.not_small in
    let s = below_size a k (value x) (inverse (value y)) N.at_least N.at_most i.0 i.1 in
    rounded_number (a + k) l (div binary64 x y) (value x /q value y) (divide_rounded binary64 x y N.is_finite D.divides D.is_above_law)
    s.0 s.1

module _ (a k : ℕ) (l : a + k ≤ 1000) (x y x' y' : Float) (N : Number a x) (M : Divisor k y) (N' : Number a x') (M' : Divisor k y') where
  same_quotient : value x /q value y ≡ value x' /q value y' → value (div binary64 x y) ≡ value (div binary64 x' y')
  same_quotient e =
      rounded_same _ _ (value x /q value y) (divide_rounded binary64 x y N.is_finite M.divides M.is_above_law)
      (subst (Rounded binary64 (div binary64 x' y')) (sym e) (divide_rounded binary64 x' y' N'.is_finite M'.divides M'.is_above_law))
      (quotient a k l x y N M).is_finite (quotient a k l x' y' N' M').is_finite

  turned_quotient : value x /q value y ≡ negq (value x' /q value y') → value (div binary64 x y) ≡ negq (value (div binary64 x' y'))
  turned_quotient e =
      let G = (quotient a k l x' y' N' M').is_finite in
      rounded_same _ (neg (div binary64 x' y')) (value x /q value y) (divide_rounded binary64 x y N.is_finite M.divides M.is_above_law)
      (subst (Rounded binary64 (neg (div binary64 x' y'))) (sym e) (rounded_turned _ _ (divide_rounded binary64 x' y' N'.is_finite
      M'.divides M'.is_above_law)))
      (quotient a k l x y N M).is_finite (neg_finite (div binary64 x' y') G)
      ∙ value_neg (div binary64 x' y') G

  quotient_order : value x /q value y ≤q value x' /q value y' → value (div binary64 x y) ≤q value (div binary64 x' y')
  quotient_order h = rounded_order _ _ _ _ (divide_rounded binary64 x y N.is_finite M.divides M.is_above_law)
      (divide_rounded binary64 x' y' N'.is_finite M'.divides M'.is_above_law) (quotient a k l x y N M).is_finite
      (quotient a k l x' y' N' M').is_finite h

above_zero : (y : Float) → T (finite y) → Above (value y) → lt (of_bits binary64 0) y ≡ true
unfolding of_bits
above_zero y F h = lt_of_value (fin false 0 (pos 0)) y tt F (subst (λ (z : ℚ). z <q value y) (sym zero_value) h)

-- by a number that is at least 2^-k
module _ (a k : ℕ) (l : a + k ≤ 999) (e : Ends) (x : Spread) (X : Stands a e x) (c : Float) (C : Divisor k c) where
  enough : a + k ≤ 1000
  enough = omega arith

  over_low : Number (a + k) (div binary64 X.low c)
  over_low = quotient a k enough X.low c X.low_number C

  over_high : Number (a + k) (div binary64 X.high c)
  over_high = quotient a k enough X.high c X.high_number C

  over_ordered : value (div binary64 X.low c) ≤q value (div binary64 X.high c)
  over_ordered = quotient_order a k enough _ _ _ _ X.low_number C X.high_number C
      (le_one rational_ring ◌≤q◌ rational_order (value X.low ∷ value X.high ∷ inverse (value c) ∷ []) (v0 ⊗ v2) (v1 ⊗ v2) v2 v0 v1 tt
      (inverse_nonnegative (value c) (<q-weaken 𝟘 (value c) C.is_above_law)) X.ordered)

  pub over_stands : (t : Spread) → t.below ≡ next_up binary64 (bounded (div binary64 x.below c)) → t.above ≡ next_up binary64 (bounded
      (div binary64 x.above c))
      → Stands (suc (a + k)) (divide_pairs binary64 e (point c)) t
  unfolding divide_pairs
  over_stands t B A =
      let p = div binary64 X.low c in
      let q = div binary64 X.high c in
      let F = over_low.is_finite in
      let G = over_high.is_finite in
      let r = ≤q-refl (value p) in
      let s = ≤q-refl (value q) in
      rw (X.is, above_zero c C.divides C.is_above_law)
      (outward_stands (a + k) l p p q q _ _ over_low over_low over_high over_high (quotient a k enough _ _ X.below_number C)
      (quotient a k enough _ _ X.above_number C)
      (turned_quotient a k enough _ _ _ _ X.below_number C X.low_number C (turned_left _ _ _ _ X.below_value refl)
      ∙ ap negq (sym (lowest_least p p q q F F G G (value p) r r over_ordered over_ordered (λ n h₀ h₁ h₂ h₃. h₀))))
      (same_quotient a k enough _ _ _ _ X.above_number C X.high_number C (turned_none _ _ _ _ X.above_value refl)
      ∙ sym (highest_most p p q q F F G G (value q) over_ordered over_ordered s s (λ n h₀ h₁ h₂ h₃. h₂)))
      t B A)

-- by a pair: the first is not negative, the second is at least 2^-k
module _ (a b k : ℕ) (l : a + k ≤ 999) (e g : Ends) (x y : Spread) (X : Stands a e x) (Y : Stands b g y) (P : 𝟘 ≤q value X.low)
    (C : Divisor k Y.low) where
  room : a + k ≤ 1000
  room = omega arith

  larger_divisor : (d : Float) → T (finite d) → value Y.low ≤q value d → Divisor k d
  larger_divisor d F h =
      record {
        divides = F;
        is_above_law = <q-≤q-trans 𝟘 (value Y.low) (value d) C.is_above_law h;
        not_small = ≤q-trans 𝟙 (power_of_two k *q value Y.low) (power_of_two k *q value d) C.not_small
            (le_one rational_ring ◌≤q◌ rational_order (value Y.low ∷ value d ∷ power_of_two k ∷ []) (v2 ⊗ v0) (v2 ⊗ v1) v2 v0 v1 tt
            (power_nonnegative k) h);
      }

  D : Divisor k Y.high
  D = larger_divisor Y.high Y.high_number.is_finite Y.ordered

  D' : Divisor k y.above
  D' = larger_divisor y.above Y.above_number.is_finite (subst (λ (z : ℚ). value Y.low ≤q z) (sym Y.above_value) Y.ordered)

  low_value : value (neg y.below) ≡ value Y.low
  low_value = value_neg y.below Y.below_number.is_finite ∙ ap negq Y.below_value ∙ twice (value Y.low)

  C' : Divisor k (neg y.below)
  C' = larger_divisor (neg y.below) (neg_finite y.below Y.below_number.is_finite)
      (subst (λ (z : ℚ). value Y.low ≤q z) (sym low_value) (≤q-refl (value Y.low)))

  -- 1/d ≤ 1/c
  smaller_inverse : inverse (value Y.high) ≤q inverse (value Y.low)
  smaller_inverse = inverse_antitone (value Y.low) (value Y.high) _ _ (inverse_is _ C.is_above_law) (inverse_is _ D.is_above_law)
      (inverse_nonnegative _ (<q-weaken _ _ C.is_above_law)) (inverse_nonnegative _ (<q-weaken _ _ D.is_above_law)) Y.ordered

  -- lo/d ≤ lo/c, and the same of hi
  by_divisor : (u : Float) → Number a u → 𝟘 ≤q value u → value (div binary64 u Y.high) ≤q value (div binary64 u Y.low)
  by_divisor u U h = quotient_order a k room _ _ _ _ U D U C
      (le_one rational_ring ◌≤q◌ rational_order (inverse (value Y.high) ∷ inverse (value Y.low) ∷ value u ∷ []) (v2 ⊗ v0) (v2 ⊗ v1)
      v2 v0 v1 tt
      h smaller_inverse)

  by_dividend : (d : Float) → Divisor k d → value (div binary64 X.low d) ≤q value (div binary64 X.high d)
  by_dividend d D = quotient_order a k room _ _ _ _ X.low_number D X.high_number D
      (le_one rational_ring ◌≤q◌ rational_order (value X.low ∷ value X.high ∷ inverse (value d) ∷ []) (v0 ⊗ v2) (v1 ⊗ v2) v2 v0 v1 tt
      (inverse_nonnegative (value d) (<q-weaken 𝟘 (value d) D.is_above_law)) X.ordered)

  pub quotient_stands : (t : Spread) → t.below ≡ next_up binary64 (bounded (div binary64 x.below y.above))
      → t.above ≡ next_up binary64 (bounded (div binary64 x.above (neg y.below))) → Stands (suc (a + k)) (divide_pairs binary64 e g) t
  unfolding divide_pairs
  quotient_stands t B A =
      let p = div binary64 X.low Y.low in
      let q = div binary64 X.low Y.high in
      let r = div binary64 X.high Y.low in
      let s = div binary64 X.high Y.high in
      let N = quotient a k room X.low Y.low X.low_number C in
      let O = quotient a k room X.low Y.high X.low_number D in
      let Q = quotient a k room X.high Y.low X.high_number C in
      let R = quotient a k room X.high Y.high X.high_number D in
      let H = ≤q-trans 𝟘 (value X.low) (value X.high) P X.ordered in
      let qp = by_divisor X.low X.low_number P in
      let sr = by_divisor X.high X.high_number H in
      let qs = by_dividend Y.high D in
      let pr = by_dividend Y.low C in
      rw (X.is, Y.is, above_zero Y.low C.divides C.is_above_law)
      (outward_stands (a + k) l p q r s _ _ N O Q R (quotient a k room _ _ X.below_number D') (quotient a k room _ _ X.above_number
      C')
      (turned_quotient a k room _ _ _ _ X.below_number D' X.low_number D
      (turned_left _ _ _ _ X.below_value (ap inverse Y.above_value))
      ∙ ap negq (sym (lowest_least p q r s N.is_finite O.is_finite Q.is_finite R.is_finite (value q) qp (≤q-refl _)
      (≤q-trans _ _ _ qs sr) qs (λ n h₀ h₁ h₂ h₃. h₁))))
      (same_quotient a k room _ _ _ _ X.above_number C' X.high_number C (turned_none _ _ _ _ X.above_value (ap inverse low_value))
      ∙ sym (highest_most p q r s N.is_finite O.is_finite Q.is_finite R.is_finite (value r) pr (≤q-trans _ _ _ qs sr)
      (≤q-refl _) sr
      (λ n h₀ h₁ h₂ h₃. h₂)))
      t B A)

-- ---- as the code tests it
-- a number from 1 on
pub whole_divisor : (b : ℕ) (c : Float) → Number b c → 𝟙 ≤q value c → Divisor 0 c
unfolding at_mostq
whole_divisor b c C h =
    record {
      divides = C.is_finite;
      is_above_law = <q-≤q-trans 𝟘 𝟙 (value c) tt h;
      not_small = subst (λ (z : ℚ). 𝟙 ≤q z) (solve rational_ring (value c ∷ []) v0 (con (pos 1) ⊗ v0) tt) h;
    }

-- the low end is not below 0
pub not_below_zero : (a : ℕ) (e : Ends) (x : Spread) (X : Stands a e x) → le x.below (of_bits binary64 0) ≡ true → 𝟘 ≤q value X.low
unfolding of_bits
not_below_zero a e x X t =
    let h = le_value x.below (fin false 0 (pos 0)) X.below_number.is_finite tt t in
    subst (λ (z : ℚ). 𝟘 ≤q z) (twice (value X.low))
    (subst (λ (z : ℚ). z ≤q negq (negq (value X.low))) (solve rational_ring [] (opposite (con (pos 0))) (con (pos 0)) tt)
    (≤q-negated (negq (value X.low)) 𝟘 (subst (λ (z : ℚ). z ≤q 𝟘) X.below_value (subst (λ (z : ℚ). value x.below ≤q z)
    zero_value h))))

-- the low end is not below the shortest length
shortest_value : 𝟙 ≤q power_of_two 60 *q negq (value shortest)
unfolding at_mostq ◌*q◌ negq of_bits
shortest_value = tt

shortest_above : Above (negq (value shortest))
unfolding at_mostq negq of_bits
shortest_above = tt

pub long_divisor : (b : ℕ) (g : Ends) (y : Spread) (Y : Stands b g y) → le y.below shortest ≡ true → Divisor 60 Y.low
unfolding of_bits
long_divisor b g y Y t =
    let h : value y.below ≤q value shortest = le_value y.below shortest Y.below_number.is_finite tt t in
    let k : negq (value shortest) ≤q value Y.low = subst (λ (z : ℚ). negq (value shortest) ≤q z) (ap negq Y.below_value
    ∙ twice (value Y.low)) (≤q-negated (value y.below) (value shortest) h) in
    record {
      divides = Y.low_number.is_finite;
      is_above_law = <q-≤q-trans 𝟘 (negq (value shortest)) (value Y.low) shortest_above k;
      not_small = ≤q-trans 𝟙 (power_of_two 60 *q negq (value shortest)) (power_of_two 60 *q value Y.low) shortest_value
          (le_one rational_ring ◌≤q◌ rational_order (negq (value shortest) ∷ value Y.low ∷ power_of_two 60 ∷ []) (v2 ⊗ v0) (v2 ⊗ v1) v2 v0
          v1 tt
          (power_nonnegative 60) k);
    }
