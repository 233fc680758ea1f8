-- Arithmetics whose results are close to the exact ones: what each operation costs, for floats rounded to nearest and for pairs of ends.
use mathlib.Core.Bool.{false, true}
use mathlib.Core.List.{[], ◌∷◌}
use mathlib.Core.Path.{◌≡◌, refl, subst, sym}
use Prim.Native.Nat.{◌*◌, ◌+◌, ◌<◌, ◌^◌, ◌≤◌, ℕ}
use native.Mathlib.Omega.{arith}
use lib.Dec.{T}
use lib.Ieee.{Float, binary64, div, fin, fits, lt, mul, neg, of_bits, round}
use lib.Ieee.Bits.{is_true}
use lib.Ieee.Fits.{neg-fits, round-fits}
use lib.Ieee.Scale.{finite}
use lib.IntN.{pos}
use Rattle.fraction.specs.DirectedSum.{downward_sum, upward_sum}
use Rattle.fraction.specs.NextNumber.{next_down, next_up}
use Rattle.fraction.specs.Pair.{Ends, add_pairs, divide_pairs, finite_ends, highest_of, lowest_of, moved, multiply_pairs, outward, pair, subtract_pairs}
use Rattle.fraction.specs.Rational.{Above, ◌*q◌, ◌+q◌, ◌-q◌, ◌/q◌, ◌<q◌, ◌≤q◌, at_mostq, negq, ℚ, 𝟘, 𝟙}
use Rattle.fraction.specs.Order.{le_one}
use Rattle.fraction.specs.RationalRing.{rational_ring}
use Rattle.fraction.specs.Ring.{◌⊖◌, ◌⊗◌, con, opposite, solve, v0}
use Rattle.fraction.specs.Rounding.{Rounded}
use Rattle.fraction.specs.Value.{value}
use Rattle.fraction.proofs.DirectedSum.{downward_sum_law, upward_sum_law}
use Rattle.fraction.proofs.Lowest.{highest_among, lowest_among}
use Rattle.fraction.proofs.Rational.{<q-≤q-trans, rational_order, ≤q-antisymmetric, ≤q-refl, ≤q-whole}
use Rattle.fraction.proofs.Rounding.{add_rounded, divide_rounded, mul_rounded, sub_rounded}
use Rattle.fraction.proofs.Value.{neg_finite, plus_zero, value_neg}
use Rattle.fraction.proofs.Comparison.{lt_of_value}
use Rattle.pairs.proofs.Spreading.{zero_value}
use Rattle.figure.specs.Operations.{Operations, ends}
use Rattle.figure.proofs.Enclosure.{ends_enclose}
use Rattle.estimate.specs.Plain.{plain}
use Rattle.estimate.proofs.Rounds.{Rounds, Scale, down_rounds, downward_rounds, nearest_rounds, one_scale, scale_not_negative, up_rounds, upward_rounds}
use Rattle.estimate.proofs.Nearness.{Near, Size, divisor_above, near_over_whole, near_product, near_quotient, near_rounded, near_size_finely, near_sum, near_negated, near_wider, size_same, slack, unit, whole, whole_order}

-- What each operation costs. `R M k n v x`: v, the exact value, is at most k M in size, and x at most n units of M from it.
pub record Approximates {A : Type 0} (o : Operations A) (R : ℚ → ℕ → ℕ → ℚ → A → Type 0) : Type 0 where
  pub number : (M : ℚ) (x : Float) → T (fits binary64 x) → T (finite x) → Size M (value x) → R M 1 0 (value x) (o.number x)
  pub nothing : (M : ℚ) → 𝟘 ≤q M → R M 0 0 𝟘 (o.whole 0)
  pub whole_number : (c : ℕ) → c ≤ 10 → R 𝟙 c 0 (whole c) (o.whole c)
  pub difference : (l : ℚ) → Scale l → (x y : Float) → T (fits binary64 x) → T (finite x) → T (fits binary64 y) → T (finite y)
      → Size l (value x -q value y) → R l 1 9 (value x -q value y) (o.minus (o.number x) (o.number y))
  pub plus : (M : ℚ) → Scale M → (k n : ℕ) (v : ℚ) (x : A) (k' n' : ℕ) (v' : ℚ) (x' : A) → k + k' < 2 ^ 30 → n + n' ≤ 2 ^ 49
      → R M k n v x → R M k' n' v' x' → R M (k + k') (n + n' + (8 * (k + k') + 1)) (v +q v') (o.plus x x')
  pub minus : (M : ℚ) → Scale M → (k n : ℕ) (v : ℚ) (x : A) (k' n' : ℕ) (v' : ℚ) (x' : A) → k + k' < 2 ^ 30 → n + n' ≤ 2 ^ 49
      → R M k n v x → R M k' n' v' x' → R M (k + k') (n + n' + (8 * (k + k') + 1)) (v -q v') (o.minus x x')
  pub times : (M M' P : ℚ) → M *q M' ≡ P → Scale P → (k n : ℕ) (v : ℚ) (x : A) (k' n' : ℕ) (v' : ℚ) (x' : A) → k * k' < 2 ^ 30
      → n * n' ≤ 2 ^ 49 → n * k' + k * n' + 1 ≤ 2 ^ 49 → R M k n v x → R M' k' n' v' x'
      → R P (k * k') (n * k' + k * n' + 1 + (8 * (k * k') + 1)) (v *q v') (o.times x x')
  pub over_whole : (M : ℚ) → Scale M → (c : ℕ) → 1 ≤ c → c ≤ 10 → (k n : ℕ) (v : ℚ) (x : A) (k' n' : ℕ) → k ≤ c * k' → n ≤ c * n'
      → k' < 2 ^ 30 → n' ≤ 2 ^ 49 → R M k n v x → R M k' (n' + (8 * k' + 1)) (v /q whole c) (o.over x (o.whole c))
  pub ratio : (l : ℚ) → Scale l → Above l → (v : ℚ) (x y : A) → R l 1 9 v x → R l 1 9 l y → R 𝟙 1 28 (v /q l) (o.over x y)
  pub wider : (M : ℚ) → 𝟘 ≤q M → (k n k' n' : ℕ) (v : ℚ) (x : A) → k ≤ k' → n ≤ n' → R M k n v x → R M k' n' v x

-- ---- floats
pub record Close (M : ℚ) (k n : ℕ) (v : ℚ) (x : Float) : Type 0 where
  pub is_double : T (fits binary64 x)
  pub is_finite : T (finite x)
  pub near : Near M k n v (value x)

-- the exact result z of an operation is near to v, and r is z rounded
settled : (P : ℚ) (S : Scale P) (k n j : ℕ) (v z : ℚ) → Near P k n v z → (r : Float) → Rounds P j z r → Close P k (n + (8 * j + 1)) v r
settled P S k n j v z h r R =
    record { is_double = R.0; is_finite = R.1; near = near_rounded P (scale_not_negative P S) k n (8 * j + 1) v z (value r) h R.2 }

-- the size of the exact result, and of what it is rounded to
module _ (P : ℚ) (S : Scale P) (k n : ℕ) (v z : ℚ) (l : k < 2 ^ 30) (m : n ≤ 2 ^ 49) (h : Near P k n v z) where
  exact_size : Size ((whole k +q slack) *q P) z
  exact_size = near_size_finely P (scale_not_negative P S) k n v z m h

  module _ (r : Float) (R : Rounded binary64 r z) where
    to_nearest : Close P k (n + (8 * k + 1)) v r
    to_nearest = settled P S k n k v z h r (nearest_rounds P S k l z exact_size r R)

    next_up_law : Close P k (n + (8 * k + 1)) v (next_up binary64 r)
    next_up_law = settled P S k n k v z h _ (up_rounds P S k l z exact_size r R)

    next_down_law : Close P k (n + (8 * k + 1)) v (next_down binary64 r)
    next_down_law = settled P S k n k v z h _ (down_rounds P S k l z exact_size r R)

-- what is v itself
near_itself : (M v : ℚ) (k : ℕ) → Size (whole k *q M) v → Near M k 0 v v
near_itself M v k h =
    record {
      size = h;
      apart = size_same 𝟘 _ 𝟘 _ (solve rational_ring ((unit *q M) ∷ []) (con (pos 0)) (con (pos 0) ⊗ v0) tt)
          (solve rational_ring (v ∷ []) (con (pos 0)) (v0 ⊖ v0) tt) (nothing_size, ≤q-refl 𝟘);
    }
  where
    nothing_size : negq 𝟘 ≤q 𝟘
    nothing_size = subst (λ (z : ℚ). z ≤q 𝟘) (solve rational_ring [] (con (pos 0)) (opposite (con (pos 0))) tt) (≤q-refl 𝟘)

once : (M v : ℚ) → Size M v → Size (whole 1 *q M) v
once M v h = size_same _ _ _ _ (solve rational_ring (M ∷ []) v0 (con (pos 1) ⊗ v0) tt) refl h

-- a whole number up to 10
module _ (c : ℕ) (l : c ≤ 10) where
  abbrev w : Float
  w = round binary64 false c 1

  whole_finite : T (finite w)
  whole_finite = (ends_enclose.whole c l).low_finite

  whole_value : value w ≡ whole c
  whole_value = ≤q-antisymmetric _ _ (ends_enclose.whole c l).above (ends_enclose.whole c l).below

  whole_close : (M : ℚ) → Size (whole c *q M) (whole c) → Close M c 0 (whole c) w
  whole_close M h =
      record {
        is_double = round-fits binary64 false c 1;
        is_finite = whole_finite;
        near = subst (Near M c 0 (whole c)) (sym whole_value) (near_itself M (whole c) c h);
      }

  whole_of_one : Size (whole c *q 𝟙) (whole c)
  whole_of_one = size_same _ _ _ _ (solve rational_ring (whole c ∷ []) v0 (v0 ⊗ con (pos 1)) tt) refl (
    le_one rational_ring ◌≤q◌ rational_order (whole c ∷ []) (opposite v0) v0 (con (pos 2)) (con (pos 0)) v0 tt (≤q-whole 2) (≤q-whole c),
    ≤q-refl (whole c),
  )

  whole_above : 1 ≤ c → Above (whole c)
  unfolding at_mostq
  whole_above h = <q-≤q-trans 𝟘 𝟙 (whole c) tt (whole_order 1 c h)

nothing_size : (M : ℚ) → 𝟘 ≤q M → Size (whole 0 *q M) (whole 0)
nothing_size M h = size_same (whole 0 *q 𝟙) _ _ _ (solve rational_ring (M ∷ []) (con (pos 0) ⊗ con (pos 1)) (con (pos 0) ⊗ v0) tt) refl
    (whole_of_one 0 (omega arith))

number_close : (M : ℚ) (x : Float) → T (fits binary64 x) → T (finite x) → Size M (value x) → Close M 1 0 (value x) x
number_close M x F X h = record { is_double = F; is_finite = X; near = near_itself M (value x) 1 (once M (value x) h) }

-- the exact results
module _ (M : ℚ) (S : Scale M) (k n : ℕ) (v : ℚ) (x : Float) (k' n' : ℕ) (v' : ℚ) (x' : Float) (X : Close M k n v x) (Y : Close M k' n' v'
    x')
  where
    near_plus : Near M (k + k') (n + n') (v +q v') (value x +q value x')
    near_plus = near_sum M k n v (value x) k' n' v' (value x') X.near Y.near

    near_minus : Near M (k + k') (n + n') (v -q v') (value x -q value x')
    near_minus = near_sum M k n v (value x) k' n' (negq v') (negq (value x')) X.near (near_negated M k' n' v' (value x') Y.near)

-- a quotient by a whole number
over_rounded : (c : ℕ) (l : c ≤ 10) → 1 ≤ c → (x : Float) → T (finite x) → Rounded binary64 (div binary64 x (w c l)) (value x /q whole c)
over_rounded c l p x X = subst (λ (z : ℚ). Rounded binary64 (div binary64 x (w c l)) (value x /q z)) (whole_value c l)
    (divide_rounded binary64 x (w c l) X (whole_finite c l) (subst Above (sym (whole_value c l)) (whole_above c l p)))

close_wider : (M : ℚ) → 𝟘 ≤q M → (k n k' n' : ℕ) (v : ℚ) (x : Float) → k ≤ k' → n ≤ n' → Close M k n v x → Close M k' n' v x
close_wider M h k n k' n' v x l m X =
    record { is_double = X.is_double; is_finite = X.is_finite; near = near_wider M h k n k' n' v (value x) l m X.near }

-- floats, each rounded to nearest
pub plain_approximates : Approximates plain Close
plain_approximates =
    record {
      number = number_close;
      nothing = λ M h. whole_close 0 (omega arith) M (nothing_size M h);
      whole_number = λ c l. whole_close c l 𝟙 (whole_of_one c l);
      difference = λ l S x y F X G Y h. to_nearest l S 1 0 _ _ (omega arith) (omega arith) (near_itself l _ 1 (once l _ h)) _
          (sub_rounded binary64 x y X Y);
      plus = λ M S k n v x k' n' v' x' l m X Y. to_nearest M S (k + k') (n + n') _ _ l m (near_plus M S k n v x k' n' v' x' X Y) _
          (add_rounded binary64 x x' X.is_finite Y.is_finite);
      minus = λ M S k n v x k' n' v' x' l m X Y. to_nearest M S (k + k') (n + n') _ _ l m (near_minus M S k n v x k' n' v' x' X Y) _
          (sub_rounded binary64 x x' X.is_finite Y.is_finite);
      times = λ M M' P e S k n v x k' n' v' x' l a m X Y. to_nearest P S (k * k') (n * k' + k * n' + 1) _ _ l m
          (near_product M M' P e (scale_not_negative P S) k n v (value x) k' n' v' (value x') a X.near Y.near) _
          (mul_rounded binary64 x x' X.is_finite Y.is_finite);
      over_whole = λ M S c p l k n v x k' n' h g a m X. to_nearest M S k' n' _ _ a m
          (near_over_whole M (scale_not_negative M S) c (whole_above c l p) k n k' n' v (value x) h g X.near) _
          (over_rounded c l p x X.is_finite);
      ratio = λ l S p v x y X Y. to_nearest 𝟙 one_scale 1 19 _ _ (omega arith) (omega arith)
          (near_quotient l p v (value x) (value y) X.near Y.near) _
          (divide_rounded binary64 x y X.is_finite Y.is_finite (divisor_above l p v (value x) (value y) X.near Y.near));
      wider = close_wider;
    }

-- ---- pairs of ends
pub record ClosePair (M : ℚ) (k n : ℕ) (v : ℚ) (e : Ends) : Type 0 where
  pub low : Float
  pub high : Float
  pub is : e ≡ pair low high
  pub low_close : Close M k n v low
  pub high_close : Close M k n v high

both_finite : (a b : Float) → T (finite a) → T (finite b) → finite_ends a b ≡ pair a b
unfolding finite_ends
both_finite a b A B = rw (is_true (finite a) A, is_true (finite b) B) refl

number_pair : (M : ℚ) (x : Float) → T (fits binary64 x) → T (finite x) → Size M (value x) → ClosePair M 1 0 (value x) (finite_ends x x)
number_pair M x F X h =
    let c = number_close M x F X h in
    record { low = x; high = x; is = both_finite x x X X; low_close = c; high_close = c }

-- sums of ends
module _ (M : ℚ) (S : Scale M) (k n : ℕ) (v : ℚ) (l : k < 2 ^ 30) (m : n ≤ 2 ^ 49) (a b c d : Float) (A : T (finite a)) (B : T (finite b))
    (C : T (finite c)) (D : T (finite d)) (low : Near M k n v (value a +q value c)) (high : Near M k n v (value b +q value d)) where
  sum_pair : ClosePair M k (n + (8 * k + 1)) v (add_pairs binary64 (pair a b) (pair c d))
  unfolding add_pairs
  sum_pair =
      let L = settled M S k n k v _ low _ (downward_rounds M S k l _ (exact_size M S k n v _ l m low) _ (add_rounded binary64 a c A C)
      (downward_sum binary64 a c) (downward_sum_law binary64 a c A C)) in
      let H = settled M S k n k v _ high _ (upward_rounds M S k l _ (exact_size M S k n v _ l m high) _ (add_rounded binary64 b d B D)
      (upward_sum binary64 b d) (upward_sum_law binary64 b d B D)) in
      record {
        low = downward_sum binary64 a c;
        high = upward_sum binary64 b d;
        is = both_finite _ _ L.is_finite H.is_finite;
        low_close = L;
        high_close = H;
      }

turned_close : (M : ℚ) (k n : ℕ) (v : ℚ) (x : Float) → Close M k n v x → Close M k n (negq v) (neg x)
turned_close M k n v x X =
    record {
      is_double = neg-fits binary64 x X.is_double;
      is_finite = neg_finite x X.is_finite;
      near = subst (Near M k n (negq v)) (sym (value_neg x X.is_finite)) (near_negated M k n v (value x) X.near);
    }

turned_pair : (e g : Ends) (a b c d : Float) → e ≡ pair a b → g ≡ pair c d → add_pairs binary64 (pair a b) (pair (neg d) (neg c))
    ≡ subtract_pairs binary64 e g
unfolding add_pairs subtract_pairs
turned_pair e g a b c d h k = rw (h, k) refl

pair_plus : (M : ℚ) → Scale M → (k n : ℕ) (v : ℚ) (x : Ends) (k' n' : ℕ) (v' : ℚ) (x' : Ends) → k + k' < 2 ^ 30 → n + n' ≤ 2 ^ 49
    → ClosePair M k n v x → ClosePair M k' n' v' x' → ClosePair M (k + k') (n + n' + (8 * (k + k') + 1)) (v +q v') (add_pairs binary64 x x')
pair_plus M S k n v x k' n' v' x' l m X Y =
    rw (X.is, Y.is) (sum_pair M S (k + k') (n + n') (v +q v') l m X.low X.high Y.low Y.high X.low_close.is_finite
    X.high_close.is_finite Y.low_close.is_finite Y.high_close.is_finite
    (near_plus M S k n v _ k' n' v' _ X.low_close Y.low_close) (near_plus M S k n v _ k' n' v' _ X.high_close Y.high_close))

pair_minus : (M : ℚ) → Scale M → (k n : ℕ) (v : ℚ) (x : Ends) (k' n' : ℕ) (v' : ℚ) (x' : Ends) → k + k' < 2 ^ 30 → n + n' ≤ 2 ^ 49
    → ClosePair M k n v x → ClosePair M k' n' v' x' → ClosePair M (k + k') (n + n' + (8 * (k + k') + 1)) (v -q v') (subtract_pairs binary64
    x x')
pair_minus M S k n v x k' n' v' x' l m X Y =
    subst (ClosePair M (k + k') (n + n' + (8 * (k + k') + 1)) (v -q v')) (turned_pair x x' _ _ _ _ X.is Y.is)
    (pair_plus M S k n v (pair X.low X.high) k' n' (negq v') (pair (neg Y.high) (neg Y.low)) l m
    (record { low = X.low; high = X.high; is = refl; low_close = X.low_close; high_close = X.high_close })
    (record {
      low = neg Y.high;
      high = neg Y.low;
      is = refl;
      low_close = turned_close M k' n' v' Y.high Y.high_close;
      high_close = turned_close M k' n' v' Y.low Y.low_close;
    }))

pair_difference : (l : ℚ) → Scale l → (x y : Float) → T (fits binary64 x) → T (finite x) → T (fits binary64 y) → T (finite y)
    → Size l (value x -q value y) → ClosePair l 1 9 (value x -q value y) (subtract_pairs binary64 (finite_ends x x) (finite_ends y y))
pair_difference l S x y F X G Y h =
    subst (ClosePair l 1 9 (value x -q value y)) (turned_pair _ _ _ _ _ _ (both_finite x x X X) (both_finite y y Y Y))
    (sum_pair l S 1 0 (value x -q value y) (omega arith) (omega arith) x x (neg y) (neg y) X X N N exact exact)
  where
    N : T (finite (neg y))
    N = neg_finite y Y

    exact : Near l 1 0 (value x -q value y) (value x +q value (neg y))
    exact = subst (λ (z : ℚ). Near l 1 0 (value x -q value y) (value x +q z)) (sym (value_neg y Y)) (near_itself l _ 1 (once l _ h))

-- products and quotients: the four combinations
record Candidate (P : ℚ) (k n : ℕ) (v : ℚ) (r : Float) : Type 0 where
  exact : ℚ
  near : Near P k n v exact
  rounded : Rounded binary64 r exact

outward_close : (P : ℚ) (S : Scale P) (k n : ℕ) (v : ℚ) → k < 2 ^ 30 → n ≤ 2 ^ 49 → (p q r s : Float) → Candidate P k n v p
    → Candidate P k n v q → Candidate P k n v r → Candidate P k n v s → ClosePair P k (n + (8 * k + 1)) v (outward binary64 p q r s)
unfolding outward moved
outward_close P S k n v l m p q r s cp cq cr cs =
    let L = lowest_among (Candidate P k n v) p q r s cp cq cr cs in
    let H = highest_among (Candidate P k n v) p q r s cp cq cr cs in
    let low = next_down_law P S k n v L.exact l m L.near _ L.rounded in
    let high = next_up_law P S k n v H.exact l m H.near _ H.rounded in
    record {
      low = next_down binary64 (lowest_of p q r s);
      high = next_up binary64 (highest_of p q r s);
      is = rw (both_finite (lowest_of p q r s) (highest_of p q r s)
          (to_nearest P S k n v L.exact l m L.near _ L.rounded).is_finite
          (to_nearest P S k n v H.exact l m H.near _ H.rounded).is_finite)
          (both_finite _ _ low.is_finite high.is_finite);
      low_close = low;
      high_close = high;
    }

pair_times : (M M' P : ℚ) → M *q M' ≡ P → Scale P → (k n : ℕ) (v : ℚ) (x : Ends) (k' n' : ℕ) (v' : ℚ) (x' : Ends) → k * k' < 2 ^ 30
    → n * n' ≤ 2 ^ 49 → n * k' + k * n' + 1 ≤ 2 ^ 49 → ClosePair M k n v x → ClosePair M' k' n' v' x'
    → ClosePair P (k * k') (n * k' + k * n' + 1 + (8 * (k * k') + 1)) (v *q v') (multiply_pairs binary64 x x')
unfolding multiply_pairs
pair_times M M' P e S k n v x k' n' v' x' l a m X Y =
    let one : (c d : Float) → Close M k n v c → Close M' k' n' v' d → Candidate P (k * k') (n * k' + k * n' + 1) (v *q v') (mul binary64 c
    d)
    = λ c d C D. record {
      exact = value c *q value d;
      near = near_product M M' P e (scale_not_negative P S) k n v (value c) k' n' v' (value d) a C.near D.near;
      rounded = mul_rounded binary64 c d C.is_finite D.is_finite;
    } in
    rw (X.is, Y.is) (outward_close P S (k * k') (n * k' + k * n' + 1) (v *q v') l m _ _ _ _ (one _ _ X.low_close Y.low_close)
    (one _ _ X.low_close Y.high_close) (one _ _ X.high_close Y.low_close) (one _ _ X.high_close Y.high_close))

above_zero_test : (c : Float) → T (finite c) → Above (value c) → lt (of_bits binary64 0) c ≡ true
above_zero_test c C h = subst (λ (o : Float). lt o c ≡ true) (sym (plus_zero binary64)) (lt_of_value (fin false 0 (pos 0)) c tt C
    (subst (λ (z : ℚ). z <q value c) (sym zero_value) h))

divided : (e g : Ends) (a b c d : Float) → e ≡ pair a b → g ≡ pair c d → lt (of_bits binary64 0) c ≡ true
    → outward binary64 (div binary64 a c) (div binary64 a d) (div binary64 b c) (div binary64 b d) ≡ divide_pairs binary64 e g
unfolding divide_pairs
divided e g a b c d h k t = rw (h, k, t) refl

pair_over_whole : (M : ℚ) → Scale M → (c : ℕ) → 1 ≤ c → c ≤ 10 → (k n : ℕ) (v : ℚ) (x : Ends) (k' n' : ℕ) → k ≤ c * k' → n ≤ c * n'
    → k' < 2 ^ 30 → n' ≤ 2 ^ 49 → ClosePair M k n v x
    → ClosePair M k' (n' + (8 * k' + 1)) (v /q whole c) (divide_pairs binary64 x (pair (round binary64 false c 1) (round binary64 false c
    1)))
pair_over_whole M S c p l k n v x k' n' h g a m X =
    let one : (y : Float) → Close M k n v y → Candidate M k' n' (v /q whole c) (div binary64 y (w c l)) = λ y Y. record {
      exact = value y /q whole c;
      near = near_over_whole M (scale_not_negative M S) c (whole_above c l p) k n k' n' v (value y) h g Y.near;
      rounded = over_rounded c l p y Y.is_finite;
    } in
    subst (ClosePair M k' (n' + (8 * k' + 1)) (v /q whole c))
    (divided x _ X.low X.high (w c l) (w c l) X.is refl (above_zero_test (w c l) (whole_finite c l)
    (subst Above (sym (whole_value c l)) (whole_above c l p))))
    (outward_close M S k' n' (v /q whole c) a m _ _ _ _ (one _ X.low_close) (one _ X.low_close) (one _ X.high_close)
    (one _ X.high_close))

pair_ratio : (l : ℚ) → Scale l → Above l → (v : ℚ) (x y : Ends) → ClosePair l 1 9 v x → ClosePair l 1 9 l y
    → ClosePair 𝟙 1 28 (v /q l) (divide_pairs binary64 x y)
pair_ratio l S p v x y X Y =
    let one : (c d : Float) → Close l 1 9 v c → Close l 1 9 l d → Candidate 𝟙 1 19 (v /q l) (div binary64 c d) = λ c d C D. record {
      exact = value c /q value d;
      near = near_quotient l p v (value c) (value d) C.near D.near;
      rounded = divide_rounded binary64 c d C.is_finite D.is_finite (divisor_above l p v (value c) (value d) C.near D.near);
    } in
    subst (ClosePair 𝟙 1 28 (v /q l))
    (divided x y X.low X.high Y.low Y.high X.is Y.is (above_zero_test Y.low Y.low_close.is_finite
    (divisor_above l p v (value X.low) (value Y.low) X.low_close.near Y.low_close.near)))
    (outward_close 𝟙 one_scale 1 19 (v /q l) (omega arith) (omega arith) _ _ _ _ (one _ _ X.low_close Y.low_close)
    (one _ _ X.low_close Y.high_close) (one _ _ X.high_close Y.low_close) (one _ _ X.high_close Y.high_close))

pub ends_approximate : Approximates ends ClosePair
ends_approximate =
    record {
      number = number_pair;
      nothing = λ M h. let c = whole_close 0 (omega arith) M (nothing_size M h) in
          record { low = w 0 (omega arith); high = w 0 (omega arith); is = refl; low_close = c; high_close = c };
      whole_number = λ c l. let h = whole_close c l 𝟙 (whole_of_one c l) in
          record { low = w c l; high = w c l; is = refl; low_close = h; high_close = h };
      difference = pair_difference;
      plus = pair_plus;
      minus = pair_minus;
      times = pair_times;
      over_whole = pair_over_whole;
      ratio = pair_ratio;
      wider = λ M h k n k' n' v e l m E. record {
        low = E.low;
        high = E.high;
        is = E.is;
        low_close = close_wider M h k n k' n' v E.low l m E.low_close;
        high_close = close_wider M h k n k' n' v E.high l m E.high_close;
      };
    }
