-- Where the largest Bernstein coefficient in plain floats, with 2^-38 of the numbers' size, is at most s, the figure of the pairs is
-- not above s: both are close to the exact coefficients.
use mathlib.Core.Bool.{Bool, false, true, true≢false}
use mathlib.Core.List.{List, [], ◌∷◌}
use mathlib.Core.Path.{◌∙◌, ◌≡◌, ap, refl, subst, sym}
use Prim.Native.Nat.{◌<◌, ℕ}
use native.Mathlib.Omega.{arith}
use lib.Dec.{T}
use lib.Ieee.{Float, add, binary64, eq, fin, fits, inf, le, lt, mul, nan, neg, of_bits}
use lib.Ieee.Fits.{neg-fits}
use lib.Ieee.Scale.{finite}
use lib.IntN.{pos}
use Rattle.window.specs.Cells.{+0, at}
use Rattle.fraction.specs.Order.{le_one, le_two}
use Rattle.fraction.specs.Pair.{Ends, highest, largest_absolute}
use Rattle.fraction.specs.Rational.{◌*q◌, ◌+q◌, ◌-q◌, ◌<q◌, ◌≤q◌, at_mostq, negq, ℚ, 𝟘}
use Rattle.fraction.specs.RationalRing.{rational_ring}
use Rattle.fraction.specs.Ring.{◌⊕◌, ◌⊖◌, ◌⊗◌, con, opposite, solve, v0, v1, v2, v3}
use Rattle.fraction.specs.Value.{absolute_float, value}
use Rattle.fraction.proofs.Comparison.{lt_value}
use Rattle.fraction.proofs.Lowest.{highest_is}
use Rattle.fraction.proofs.Rational.{rational_order, ≤q-antisymmetric, ≤q-negated, ≤q-refl, ≤q-trans, ≤q-whole}
use Rattle.fraction.proofs.Rational as rationals
use Rattle.fraction.proofs.Rounding.{add_rounded, mul_rounded}
use Rattle.fraction.proofs.Value.{absolute_float_law, neg_finite, value_neg}
use Rattle.figure.specs.Figure.{absolute_end, figure, larger, six_figure}
use Rattle.figure.specs.Intersection.{Intersection, difference_bernstein}
use Rattle.figure.specs.Operations.{ends}
use Rattle.figure.proofs.Enclosure.{exact}
use Rattle.pairs.specs.Spreads.{Number}
use Rattle.pairs.proofs.Numbers.{le_value, twice}
use Rattle.pairs.proofs.Spreading.{zero_value}
use Rattle.estimate.specs.Measure.{NotAbove}
use Rattle.estimate.specs.Plain.{SixAre, larger_size, largest_size, plain}
use Rattle.estimate.proofs.Close.{Close, ClosePair, ends_approximate, plain_approximates}
use Rattle.estimate.proofs.Formula.{Measured, bernstein_close}
use Rattle.estimate.proofs.Largest.{absolute_below, highest_either, six_largest}
use Rattle.estimate.proofs.Measuring.{larger_either, larger_first, larger_second}
use Rattle.estimate.proofs.Nearness.{Size, few, near_size, size_negated, size_not_negative, size_same, size_sum, size_wider, slack, slack_not_negative, unit, unit_not_negative, whole}
use Rattle.estimate.proofs.Rounds.{Rounds, Scale, nearest_rounds, scale_not_negative}

-- ---- tests
-- what is at most r, which is at most s, is not above s
not_above_test : (s r v : Float) → T (finite r) → T (finite v) → value v ≤q value r → le r s ≡ true → lt s v ≡ false
unfolding le lt eq
not_above_test nan r v R G h k = refl
not_above_test (inf true) nan v R G h k = absurd R
not_above_test (inf true) (inf t) v R G h k = absurd R
not_above_test (inf true) (fin t m e) v R G h k = absurd (true≢false (sym k))
not_above_test (inf false) r nan R G h k = absurd G
not_above_test (inf false) r (inf t) R G h k = absurd G
not_above_test (inf false) r (fin t m e) R G h k = refl
not_above_test (fin t m e) r v R G h k = go (lt (fin t m e) v) (λ u. lt_value (fin t m e) v tt G u)
  where
    go : (b : Bool) → (T b → value (fin t m e) <q value v) → b ≡ false
    go false f = refl
    go true f = absurd (rationals.never (value (fin t m e)) (value v) (f tt)
        (≤q-trans (value v) (value r) (value (fin t m e)) h (le_value r (fin t m e) R tt k)))

-- 2^-38
abbrev costs : Float
costs = of_bits binary64 0x3d90_0000_0000_0000

costs_finite : T (finite costs)
unfolding of_bits
costs_finite = tt

costs_value : value costs ≡ whole 65536 *q unit
unfolding of_bits ◌*q◌ at_mostq
costs_value = ≤q-antisymmetric _ _ tt tt

-- ---- the figure of six pairs whose ends are all at most L in size
module _ (L : ℚ) (positive : 𝟘 ≤q L) (p : ℕ → Ends) where
  -- a figure that is finite and at most L
  record Below (g : Float) : Type 0 where
    is_finite : T (finite g)
    at_most : value g ≤q L

  end_below : (M : ℚ) (k n : ℕ) (v : ℚ) (e : Ends) (E : ClosePair M k n v e) → Size L (value E.low) → Size L (value E.high)
      → Below (largest_absolute E.low E.high) × (absolute_end e ≡ figure (largest_absolute E.low E.high))
  unfolding largest_absolute absolute_end
  end_below M k n v e E l h = (
    highest_either Below (absolute_float E.low) (absolute_float E.high) (one E.low E.low_close.is_finite l)
        (one E.high E.high_close.is_finite h),
    rw E.is refl,
  )
    where
      one : (x : Float) → T (finite x) → Size L (value x) → Below (absolute_float x)
      one x X s = record {
        is_finite = (absolute_float_law x X).0;
        at_most = absolute_below x X L s.1 (subst (λ (z : ℚ). negq (value x) ≤q z) (twice L) (≤q-negated _ _ s.0));
      }

  -- the largest absolute end of a pair
  abbrev Told : ℕ → Float → Type 0
  Told k y = Below y × (absolute_end (p k) ≡ figure y)

  zero_below : Below +0
  unfolding of_bits
  zero_below = record { is_finite = tt; at_most = subst (λ (z : ℚ). z ≤q L) (sym zero_value) positive }

  step : (x y : Float) (k : ℕ) → Told k y → figure (highest x y) ≡ larger (figure x) (absolute_end (p k))
  unfolding larger
  step x y k h = rw h.1 refl

  six_below : (a b c d e f : Float) → Told 0 a → Told 1 b → Told 2 c → Told 3 d → Told 4 e → Told 5 f
      → (v : Float) × (six_figure p ≡ figure v) × T (finite v) × (value v ≤q L)
  six_below a b c d e f A B C D E F =
      let s = highest +0 a in
      let t = highest s b in
      let u = highest t c in
      let w = highest u d in
      let x = highest w e in
      let y = highest x f in
      let more : (x y : Float) → Below x → Below y → Below (highest x y) = highest_either Below in
      let most = more x f (more w e (more u d (more t c (more s b (more +0 a zero_below A.0) B.0) C.0) D.0) E.0) F.0 in (
        y,
        six_largest p s t u w x y (step +0 a 0 A) (step s b 1 B) (step t c 2 C) (step u d 3 D) (step w e 4 E) (step x f 5 F),
        most.is_finite,
        most.at_most,
      )

-- ---- the law
module _ (x : Intersection) (m : Float) (F : Number 100 m) (D : Measured x (value m)) (b : List Float) (B : SixAre (difference_bernstein plain x) b)
  where
    abbrev M : ℚ
    M = value m

    abbrev U : ℚ
    U = unit *q M

    S : Scale M
    S = D.scaled

    M_not_negative : 𝟘 ≤q M
    M_not_negative = scale_not_negative M S

    U_not_negative : 𝟘 ≤q U
    U_not_negative = rational_order.nonnegative_mul unit M unit_not_negative M_not_negative

    -- the exact coefficients, the plain ones and the pairs
    abbrev v : ℕ → ℚ
    v = difference_bernstein exact x

    plain_close : (k : ℕ) → k < 6 → Close M 68 16200 (v k) (difference_bernstein plain x k)
    plain_close = bernstein_close plain Close plain_approximates x M D

    pairs_close : (k : ℕ) → k < 6 → ClosePair M 68 16200 (v k) (difference_bernstein ends x k)
    pairs_close = bernstein_close ends ClosePair ends_approximate x M D

    -- a plain coefficient, as the code has it
    record Plain (z : Float) : Type 0 where
      is_double : T (fits binary64 z)
      is_finite : T (finite z)
      size : Size (whole 69 *q M) (value z)

    plain_is : (k : ℕ) → k < 6 → (z : Float) → z ≡ difference_bernstein plain x k → Plain z
    plain_is k l z e =
        let C = plain_close k l in
        rw e (record {
          is_double = C.is_double;
          is_finite = C.is_finite;
          size = near_size M M_not_negative 68 16200 (v k) _ (omega arith) C.near;
        })

    turned_is : (z : Float) → Plain z → Plain (neg z)
    turned_is z Z = record {
      is_double = neg-fits binary64 z Z.is_double;
      is_finite = neg_finite z Z.is_finite;
      size = rw (value_neg z Z.is_finite) (size_negated _ _ Z.size);
    }

    -- the largest of them
    plain_0 : Plain (at b 0)
    plain_0 = plain_is 0 (omega arith) (at b 0) B.0

    plain_1 : Plain (at b 1)
    plain_1 = plain_is 1 (omega arith) (at b 1) B.1

    plain_2 : Plain (at b 2)
    plain_2 = plain_is 2 (omega arith) (at b 2) B.2

    plain_3 : Plain (at b 3)
    plain_3 = plain_is 3 (omega arith) (at b 3) B.3

    plain_4 : Plain (at b 4)
    plain_4 = plain_is 4 (omega arith) (at b 4) B.4

    plain_5 : Plain (at b 5)
    plain_5 = plain_is 5 (omega arith) (at b 5) B.5

    abbrev l0 : Float
    l0 = highest (at b 0) (neg (at b 0))

    largest_0 : Plain l0
    largest_0 = highest_either Plain (at b 0) (neg (at b 0)) plain_0 (turned_is (at b 0) plain_0)

    first_size : Size (value l0) (value (at b 0))
    first_size =
        let H = highest_is (at b 0) (neg (at b 0)) plain_0.is_finite (neg_finite (at b 0) plain_0.is_finite) in (
          subst (λ (z : ℚ). negq (value l0) ≤q z) (twice (value (at b 0))) (≤q-negated _ _ (subst (λ (z : ℚ). z ≤q value l0)
              (value_neg (at b 0) plain_0.is_finite) H.second)),
          H.first,
        )

    abbrev l1 : Float
    l1 = larger_size l0 (at b 1)

    largest_1 : Plain l1
    largest_1 = larger_either Plain l0 (at b 1) largest_0 plain_1 (turned_is (at b 1) plain_1)

    abbrev l2 : Float
    l2 = larger_size l1 (at b 2)

    largest_2 : Plain l2
    largest_2 = larger_either Plain l1 (at b 2) largest_1 plain_2 (turned_is (at b 2) plain_2)

    abbrev l3 : Float
    l3 = larger_size l2 (at b 3)

    largest_3 : Plain l3
    largest_3 = larger_either Plain l2 (at b 3) largest_2 plain_3 (turned_is (at b 3) plain_3)

    abbrev l4 : Float
    l4 = larger_size l3 (at b 4)

    largest_4 : Plain l4
    largest_4 = larger_either Plain l3 (at b 4) largest_3 plain_4 (turned_is (at b 4) plain_4)

    abbrev l5 : Float
    l5 = larger_size l4 (at b 5)

    largest_5 : Plain l5
    largest_5 = larger_either Plain l4 (at b 5) largest_4 plain_5 (turned_is (at b 5) plain_5)

    up_5 : value l5 ≤q value l5
    up_5 = ≤q-refl (value l5)

    up_4 : value l4 ≤q value l5
    up_4 = ≤q-trans _ _ _ (larger_first l4 (at b 5) largest_4.is_finite plain_5.is_finite) up_5

    up_3 : value l3 ≤q value l5
    up_3 = ≤q-trans _ _ _ (larger_first l3 (at b 4) largest_3.is_finite plain_4.is_finite) up_4

    up_2 : value l2 ≤q value l5
    up_2 = ≤q-trans _ _ _ (larger_first l2 (at b 3) largest_2.is_finite plain_3.is_finite) up_3

    up_1 : value l1 ≤q value l5
    up_1 = ≤q-trans _ _ _ (larger_first l1 (at b 2) largest_1.is_finite plain_2.is_finite) up_2

    up_0 : value l0 ≤q value l5
    up_0 = ≤q-trans _ _ _ (larger_first l0 (at b 1) largest_0.is_finite plain_1.is_finite) up_1

    in_largest_0 : Size (value l5) (value (at b 0))
    in_largest_0 = size_wider _ _ _ up_0 first_size

    in_largest_1 : Size (value l5) (value (at b 1))
    in_largest_1 = size_wider _ _ _ up_1 (larger_second l0 (at b 1) largest_0.is_finite plain_1.is_finite)

    in_largest_2 : Size (value l5) (value (at b 2))
    in_largest_2 = size_wider _ _ _ up_2 (larger_second l1 (at b 2) largest_1.is_finite plain_2.is_finite)

    in_largest_3 : Size (value l5) (value (at b 3))
    in_largest_3 = size_wider _ _ _ up_3 (larger_second l2 (at b 3) largest_2.is_finite plain_3.is_finite)

    in_largest_4 : Size (value l5) (value (at b 4))
    in_largest_4 = size_wider _ _ _ up_4 (larger_second l3 (at b 4) largest_3.is_finite plain_4.is_finite)

    in_largest_5 : Size (value l5) (value (at b 5))
    in_largest_5 = size_wider _ _ _ up_5 (larger_second l4 (at b 5) largest_4.is_finite plain_5.is_finite)

    -- ---- what is added for the roundings, and the sum
    with_slack : (k : ℕ) (z : ℚ) → Size (whole k *q M) z → Size ((whole k +q slack) *q M) z
    with_slack k z h = size_wider _ _ _ (le_one rational_ring ◌≤q◌ rational_order (whole k ∷ slack ∷ M ∷ []) (v0 ⊗ v2) ((v0 ⊕ v1) ⊗ v2) v2
        (con (pos 0)) v1 tt M_not_negative slack_not_negative) h

    cost_size : Size (whole 1 *q M) (M *q value costs)
    cost_size = rw costs_value (
      le_two rational_ring ◌≤q◌ rational_order (M ∷ unit ∷ whole 65536 ∷ []) (opposite (con (pos 1) ⊗ v0)) (v0 ⊗ (v2 ⊗ v1)) v0 (con (pos 0))
          (con (pos 1)) v0 (con (pos 0)) (v2 ⊗ v1) tt M_not_negative (≤q-whole 1) M_not_negative
          (rational_order.nonnegative_mul (whole 65536) unit (≤q-whole 65536) unit_not_negative),
      le_one rational_ring ◌≤q◌ rational_order (M ∷ unit ∷ whole 65536 ∷ []) (v0 ⊗ (v2 ⊗ v1)) (con (pos 1) ⊗ v0) v0 (v2 ⊗ v1) (con (pos 1)) tt
          M_not_negative (few 65536 (omega arith)),
    )

    cost_rounds : Rounds M 1 (M *q value costs) (mul binary64 m costs)
    cost_rounds = nearest_rounds M S 1 (omega arith) _ (with_slack 1 _ cost_size) _ (mul_rounded binary64 m costs F.is_finite
        costs_finite)

    abbrev g : ℚ
    g = value (mul binary64 m costs)

    U_in_M : whole 9 *q U ≤q M
    U_in_M = le_one rational_ring ◌≤q◌ rational_order (M ∷ unit ∷ []) (con (pos 9) ⊗ (v1 ⊗ v0)) v0 v0 (con (pos 9) ⊗ v1) (con (pos 1)) tt
        M_not_negative (few 9 (omega arith))

    sum_size : Size (whole 71 *q M) (value l5 +q g)
    sum_size = size_same _ _ _ _ (solve rational_ring (M ∷ []) (con (pos 69) ⊗ v0 ⊕ (con (pos 1) ⊗ v0 ⊕ v0)) (con (pos 71) ⊗ v0) tt)
        (ap (λ (z : ℚ). value l5 +q z) (solve rational_ring ((M *q value costs) ∷ g ∷ []) (v0 ⊕ (v1 ⊖ v0)) v1 tt))
        (size_sum _ _ _ _ largest_5.size (size_sum _ _ _ _ cost_size (size_wider _ _ _ U_in_M cost_rounds.2)))

    abbrev r : Float
    r = add binary64 l5 (mul binary64 m costs)

    sum_rounds : Rounds M 71 (value l5 +q g) r
    sum_rounds = nearest_rounds M S 71 (omega arith) _ (with_slack 71 _ sum_size) _ (add_rounded binary64 l5 (mul binary64 m costs)
        largest_5.is_finite cost_rounds.1)

    -- the sum is above the largest by 32,400 units
    margin : value l5 +q whole 32400 *q U ≤q value r
    margin =
        ≤q-trans _ (value l5 +q (g -q whole 569 *q U)) _
        (le_two rational_ring ◌≤q◌ rational_order (value l5 ∷ g ∷ U ∷ []) (v0 ⊕ con (pos 32400) ⊗ v2) (v0 ⊕ (v1 ⊖ con (pos 569) ⊗ v2))
        (con (pos 1)) (con (pos 65527) ⊗ v2) v1 (con (pos 32558)) (con (pos 0)) v2 tt (≤q-whole 1) cost_least (≤q-whole 32558)
        U_not_negative)
        (le_one rational_ring ◌≤q◌ rational_order (value l5 ∷ g ∷ U ∷ value r ∷ []) (v0 ⊕ (v1 ⊖ con (pos 569) ⊗ v2)) v3 (con (pos 1))
        (opposite (con (pos 569) ⊗ v2)) (v3 ⊖ (v0 ⊕ v1)) tt (≤q-whole 1) sum_rounds.2.0)
      where
        cost_is : M *q value costs ≡ whole 65536 *q U
        cost_is = ap (λ (z : ℚ). M *q z) costs_value ∙ solve rational_ring (M ∷ unit ∷ []) (v0 ⊗ (con (pos 65536) ⊗ v1))
            (con (pos 65536) ⊗ (v1 ⊗ v0)) tt

        cost_least : whole 65527 *q U ≤q g
        cost_least = le_one rational_ring ◌≤q◌ rational_order (g ∷ U ∷ []) (con (pos 65527) ⊗ v1) v0 (con (pos 1)) (opposite (con (pos 9) ⊗
            v1))
            (v0 ⊖ con (pos 65536) ⊗ v1) tt (≤q-whole 1) (subst (λ (z : ℚ). negq (whole 9 *q U) ≤q g -q z) cost_is cost_rounds.2.0)

    -- so each end of each pair is at most the sum
    end_size : (k : ℕ) (l : k < 6) (z e : Float) → z ≡ difference_bernstein plain x k → Size (value l5) (value z) → Close M 68 16200 (v k) e
        → Size (value r) (value e)
    end_size k l z e h s E =
        let C = subst (λ (y : Float). Close M 68 16200 (v k) y) (sym h) (plain_close k l) in
        size_wider _ _ _ margin (size_same _ _ _ _ (solve rational_ring (value l5 ∷ U ∷ []) (v0 ⊕ con (pos 16200) ⊗ v1 ⊕ con (pos 16200) ⊗
        v1)
        (v0 ⊕ con (pos 32400) ⊗ v1) tt)
        (solve rational_ring (value z ∷ v k ∷ value e ∷ []) (v0 ⊕ opposite (v0 ⊖ v1) ⊕ (v2 ⊖ v1)) v2 tt)
        (size_sum _ _ _ _ (size_sum _ _ _ _ s (size_negated _ _ C.near.apart)) E.near.apart))

    r_not_negative : 𝟘 ≤q value r
    r_not_negative = size_not_negative _ _ (end_size 0 (omega arith) (at b 0) (pairs_close 0 (omega arith)).low B.0 in_largest_0
        (pairs_close 0 (omega arith)).low_close)

    told : (k : ℕ) (l : k < 6) (z : Float) → z ≡ difference_bernstein plain x k → Size (value l5) (value z)
        → Told (value r) r_not_negative (difference_bernstein ends x) k (largest_absolute (pairs_close k l).low (pairs_close k l).high)
    told k l z h s =
        let E = pairs_close k l in
        end_below (value r) r_not_negative (difference_bernstein ends x) M 68 16200 (v k) (difference_bernstein ends x k) E
        (end_size k l z E.low h s E.low_close) (end_size k l z E.high h s E.high_close)

    pub estimated : (s : Float) → le (add binary64 (largest_size b) (mul binary64 m costs)) s ≡ true
        → NotAbove (six_figure (difference_bernstein ends x)) s
    estimated s h =
        let w = six_below (value r) r_not_negative (difference_bernstein ends x) _ _ _ _ _ _
        (told 0 (omega arith) (at b 0) B.0 in_largest_0) (told 1 (omega arith) (at b 1) B.1 in_largest_1)
        (told 2 (omega arith) (at b 2) B.2 in_largest_2) (told 3 (omega arith) (at b 3) B.3 in_largest_3)
        (told 4 (omega arith) (at b 4) B.4 in_largest_4) (told 5 (omega arith) (at b 5) B.5 in_largest_5) in
        record { most = w.0; is = w.1; not_above = not_above_test s r w.0 sum_rounds.1 w.2 w.3 h }
