-- The Bernstein coefficients of an intersection, in any arithmetic whose operations approximate the exact ones: how far they are from the
-- exact coefficients.
use mathlib.Core.List.{[], ◌∷◌}
use mathlib.Core.Path.{◌≡◌}
use Prim.Native.Nat.{◌*◌, ◌+◌, ◌<◌, ◌^◌, suc, zero, ℕ}
use native.Mathlib.Omega.{arith}
use lib.Dec.{T, leb, leb→le, ltb, ltb→lt}
use lib.Ieee.{Float, binary64, fits}
use lib.Ieee.Scale.{finite}
use lib.IntN.{pos}
use Rattle.fraction.specs.Rational.{Above, ◌*q◌, ◌+q◌, ◌-q◌, ◌/q◌, ℚ, 𝟘, 𝟙}
use Rattle.fraction.specs.RationalRing.{rational_ring}
use Rattle.fraction.specs.Ring.{◌⊗◌, con, solve, v0}
use Rattle.fraction.specs.Value.{value}
use Rattle.figure.specs.Operations.{Operations}
use Rattle.figure.specs.Intersection.{Intersection, bernstein, difference_bernstein, difference_power, line_at_left, line_rise, offset, power, raised, scale, total}
use Rattle.figure.proofs.Enclosure.{exact}
use Rattle.estimate.proofs.Close.{Approximates}
use Rattle.estimate.proofs.Rounds.{Scale, one_scale, scale_not_negative}
use Rattle.estimate.proofs.Nearness.{Size, whole}

-- a finite f64
abbrev pub Double : Float → Type 0
Double x = T (fits binary64 x) × T (finite x)

-- What has to be known of an intersection's numbers: coefficients and waypoints are at most M in size, and the parameters lie
-- as they should, in intervals of known lengths.
pub record Measured (x : Intersection) (M : ℚ) : Type 0 where
  pub scaled : Scale M
  pub start : Double x.start
  pub end : Double x.end
  pub left : Double x.left
  pub right : Double x.right
  pub from : Double x.from
  pub to : Double x.to
  pub first : Double x.first
  pub second : Double x.second
  pub coefficients : (k : ℕ) → k < 6 → Double (x.coefficient k)
  -- the segment's length and the interval's
  pub segment_scaled : Scale (value x.end -q value x.start)
  pub segment_above : Above (value x.end -q value x.start)
  pub interval_scaled : Scale (value x.to -q value x.from)
  pub interval_above : Above (value x.to -q value x.from)
  pub segment_size : Size (value x.end -q value x.start) (value x.end -q value x.start)
  pub interval_size : Size (value x.to -q value x.from) (value x.to -q value x.from)
  pub before_size : Size (value x.end -q value x.start) (value x.left -q value x.start)
  pub part_size : Size (value x.end -q value x.start) (value x.right -q value x.left)
  pub since_size : Size (value x.to -q value x.from) (value x.left -q value x.from)
  pub share_size : Size (value x.to -q value x.from) (value x.right -q value x.left)
  -- the sizes of the numbers
  pub first_size : Size M (value x.first)
  pub second_size : Size M (value x.second)
  pub coefficients_size : (k : ℕ) → k < 6 → Size M (value (x.coefficient k))

times_one : (M : ℚ) → M *q 𝟙 ≡ M
times_one M = solve rational_ring (M ∷ []) (v0 ⊗ con (pos 1)) v0 tt

one_times : (M : ℚ) → 𝟙 *q M ≡ M
one_times M = solve rational_ring (M ∷ []) (con (pos 1) ⊗ v0) v0 tt

module _ {A : Type 0} (o : Operations A) (R : ℚ → ℕ → ℕ → ℚ → A → Type 0) (K : Approximates o R) (x : Intersection) (M : ℚ)
    (D : Measured x M) where
  S : Scale M
  S = D.scaled

  -- ---- U, W, and the parts of the interval
  segment : R (value x.end -q value x.start) 1 9 (value x.end -q value x.start) (o.minus (o.number x.end) (o.number x.start))
  segment = K.difference _ D.segment_scaled x.end x.start D.end.0 D.end.1 D.start.0 D.start.1 D.segment_size

  interval : R (value x.to -q value x.from) 1 9 (value x.to -q value x.from) (o.minus (o.number x.to) (o.number x.from))
  interval = K.difference _ D.interval_scaled x.to x.from D.to.0 D.to.1 D.from.0 D.from.1 D.interval_size

  offset_close : R 𝟙 1 28 (offset exact x) (offset o x)
  offset_close = K.ratio _ D.segment_scaled D.segment_above _ _ _ (K.difference _ D.segment_scaled x.left x.start
      D.left.0 D.left.1 D.start.0 D.start.1 D.before_size) segment

  scale_close : R 𝟙 1 28 (scale exact x) (scale o x)
  scale_close = K.ratio _ D.segment_scaled D.segment_above _ _ _ (K.difference _ D.segment_scaled x.right x.left
      D.right.0 D.right.1 D.left.0 D.left.1 D.part_size) segment

  -- ---- sums, products and quotients whose counts are small
  add : {k n : ℕ} {v : ℚ} {y : A} {k' n' : ℕ} {v' : ℚ} {y' : A} → R M k n v y → R M k' n' v' y' → T (ltb (k + k') (2 ^ 30))
      → T (leb (n + n') (2 ^ 49)) → R M (k + k') (n + n' + (8 * (k + k') + 1)) (v +q v') (o.plus y y')
  add Y Y' t u = K.plus M S _ _ _ _ _ _ _ _ (ltb→lt _ _ t) (leb→le _ _ u) Y Y'

  subtract : {k n : ℕ} {v : ℚ} {y : A} {k' n' : ℕ} {v' : ℚ} {y' : A} → R M k n v y → R M k' n' v' y' → T (ltb (k + k') (2 ^ 30))
      → T (leb (n + n') (2 ^ 49)) → R M (k + k') (n + n' + (8 * (k + k') + 1)) (v -q v') (o.minus y y')
  subtract Y Y' t u = K.minus M S _ _ _ _ _ _ _ _ (ltb→lt _ _ t) (leb→le _ _ u) Y Y'

  -- of scales M and 1
  multiply : {k n : ℕ} {v : ℚ} {y : A} {k' n' : ℕ} {v' : ℚ} {y' : A} → R M k n v y → R 𝟙 k' n' v' y' → T (ltb (k * k') (2 ^ 30))
      → T (leb (n * n') (2 ^ 49)) → T (leb (n * k' + k * n' + 1) (2 ^ 49))
      → R M (k * k') (n * k' + k * n' + 1 + (8 * (k * k') + 1)) (v *q v') (o.times y y')
  multiply Y Y' s t u = K.times M 𝟙 M (times_one M) S _ _ _ _ _ _ _ _ (ltb→lt _ _ s) (leb→le _ _ t) (leb→le _ _ u) Y Y'

  -- of scales 1 and M
  multiplied : {k n : ℕ} {v : ℚ} {y : A} {k' n' : ℕ} {v' : ℚ} {y' : A} → R 𝟙 k n v y → R M k' n' v' y' → T (ltb (k * k') (2 ^ 30))
      → T (leb (n * n') (2 ^ 49)) → T (leb (n * k' + k * n' + 1) (2 ^ 49))
      → R M (k * k') (n * k' + k * n' + 1 + (8 * (k * k') + 1)) (v *q v') (o.times y y')
  multiplied Y Y' s t u = K.times 𝟙 M M (one_times M) S _ _ _ _ _ _ _ _ (ltb→lt _ _ s) (leb→le _ _ t) (leb→le _ _ u) Y Y'

  -- ---- powers
  next_power : {n : ℕ} {v : ℚ} {y : A} {n' : ℕ} {v' : ℚ} {y' : A} → R 𝟙 1 n v y → R 𝟙 1 n' v' y' → T (leb (n * n') (2 ^ 49))
      → T (leb (n * 1 + 1 * n' + 1) (2 ^ 49)) → R 𝟙 1 (n * 1 + 1 * n' + 1 + (8 * (1 * 1) + 1)) (v *q v') (o.times y y')
  next_power Y Y' t u = K.times 𝟙 𝟙 𝟙 (times_one 𝟙) one_scale 1 _ _ _ 1 _ _ _ (omega arith) (leb→le _ _ t) (leb→le _ _ u) Y Y'

  module _ (y : A) (v : ℚ) (Y : R 𝟙 1 28 v y) where
    power_0 : R 𝟙 1 0 (raised exact v 0) (raised o y 0)
    unfolding raised
    power_0 = K.whole_number 1 (omega arith)

    power_1 : R 𝟙 1 38 (raised exact v 1) (raised o y 1)
    unfolding raised
    power_1 = next_power power_0 Y tt tt

    power_2 : R 𝟙 1 76 (raised exact v 2) (raised o y 2)
    unfolding raised
    power_2 = next_power power_1 Y tt tt

    power_3 : R 𝟙 1 114 (raised exact v 3) (raised o y 3)
    unfolding raised
    power_3 = next_power power_2 Y tt tt

    power_4 : R 𝟙 1 152 (raised exact v 4) (raised o y 4)
    unfolding raised
    power_4 = next_power power_3 Y tt tt

    power_5 : R 𝟙 1 190 (raised exact v 5) (raised o y 5)
    unfolding raised
    power_5 = next_power power_4 Y tt tt

  -- ---- terms: c·p_k times a power of U
  coefficient : (k : ℕ) → k < 6 → R M 1 0 (value (x.coefficient k)) (o.number (x.coefficient k))
  coefficient k l = K.number M (x.coefficient k) (D.coefficients k l).0 (D.coefficients k l).1 (D.coefficients_size k l)

  binomial : (c : ℕ) → T (leb c 10) → R 𝟙 c 0 (whole c) (o.whole c)
  binomial c t = K.whole_number c (leb→le c 10 t)

  nothing : R M 0 0 𝟘 (o.whole 0)
  nothing = K.nothing M (scale_not_negative M S)

  module _ (u w : A) (v z : ℚ) (U : R 𝟙 1 28 v u) (W : R 𝟙 1 28 z w) where
    abbrev numbers : ℕ → ℚ
    numbers k = value (x.coefficient k)

    curve_0 : R M 6 914 (power exact numbers v z 0) (power o (λ k. o.number (x.coefficient k)) u w 0)
    unfolding power total
    curve_0 = multiply (add (add (add (add (add (add nothing
        (multiply (multiplied (binomial 1 tt) (coefficient 0 (omega arith)) tt tt tt) (power_0 u v U) tt tt tt) tt tt)
        (multiply (multiplied (binomial 1 tt) (coefficient 1 (omega arith)) tt tt tt) (power_1 u v U) tt tt tt) tt tt)
        (multiply (multiplied (binomial 1 tt) (coefficient 2 (omega arith)) tt tt tt) (power_2 u v U) tt tt tt) tt tt)
        (multiply (multiplied (binomial 1 tt) (coefficient 3 (omega arith)) tt tt tt) (power_3 u v U) tt tt tt) tt tt)
        (multiply (multiplied (binomial 1 tt) (coefficient 4 (omega arith)) tt tt tt) (power_4 u v U) tt tt tt) tt tt)
        (multiply (multiplied (binomial 1 tt) (coefficient 5 (omega arith)) tt tt tt) (power_5 u v U) tt tt tt) tt tt)
        (power_0 w z W) tt tt tt

    curve_1 : R M 15 2757 (power exact numbers v z 1) (power o (λ k. o.number (x.coefficient k)) u w 1)
    unfolding power total
    curve_1 = multiply (add (add (add (add (add nothing
        (multiply (multiplied (binomial 1 tt) (coefficient 1 (omega arith)) tt tt tt) (power_0 u v U) tt tt tt) tt tt)
        (multiply (multiplied (binomial 2 tt) (coefficient 2 (omega arith)) tt tt tt) (power_1 u v U) tt tt tt) tt tt)
        (multiply (multiplied (binomial 3 tt) (coefficient 3 (omega arith)) tt tt tt) (power_2 u v U) tt tt tt) tt tt)
        (multiply (multiplied (binomial 4 tt) (coefficient 4 (omega arith)) tt tt tt) (power_3 u v U) tt tt tt) tt tt)
        (multiply (multiplied (binomial 5 tt) (coefficient 5 (omega arith)) tt tt tt) (power_4 u v U) tt tt tt) tt tt)
        (power_1 w z W) tt tt tt

    curve_2 : R M 20 4012 (power exact numbers v z 2) (power o (λ k. o.number (x.coefficient k)) u w 2)
    unfolding power total
    curve_2 = multiply (add (add (add (add nothing
        (multiply (multiplied (binomial 1 tt) (coefficient 2 (omega arith)) tt tt tt) (power_0 u v U) tt tt tt) tt tt)
        (multiply (multiplied (binomial 3 tt) (coefficient 3 (omega arith)) tt tt tt) (power_1 u v U) tt tt tt) tt tt)
        (multiply (multiplied (binomial 6 tt) (coefficient 4 (omega arith)) tt tt tt) (power_2 u v U) tt tt tt) tt tt)
        (multiply (multiplied (binomial 10 tt) (coefficient 5 (omega arith)) tt tt tt) (power_3 u v U) tt tt tt) tt tt)
        (power_2 w z W) tt tt tt

    curve_3 : R M 15 3167 (power exact numbers v z 3) (power o (λ k. o.number (x.coefficient k)) u w 3)
    unfolding power total
    curve_3 = multiply (add (add (add nothing
        (multiply (multiplied (binomial 1 tt) (coefficient 3 (omega arith)) tt tt tt) (power_0 u v U) tt tt tt) tt tt)
        (multiply (multiplied (binomial 4 tt) (coefficient 4 (omega arith)) tt tt tt) (power_1 u v U) tt tt tt) tt tt)
        (multiply (multiplied (binomial 10 tt) (coefficient 5 (omega arith)) tt tt tt) (power_2 u v U) tt tt tt) tt tt)
        (power_3 w z W) tt tt tt

    curve_4 : R M 6 1314 (power exact numbers v z 4) (power o (λ k. o.number (x.coefficient k)) u w 4)
    unfolding power total
    curve_4 = multiply (add (add nothing
        (multiply (multiplied (binomial 1 tt) (coefficient 4 (omega arith)) tt tt tt) (power_0 u v U) tt tt tt) tt tt)
        (multiply (multiplied (binomial 5 tt) (coefficient 5 (omega arith)) tt tt tt) (power_1 u v U) tt tt tt) tt tt)
        (power_4 w z W) tt tt tt

    curve_5 : R M 1 229 (power exact numbers v z 5) (power o (λ k. o.number (x.coefficient k)) u w 5)
    unfolding power total
    curve_5 = multiply (add nothing
        (multiply (multiplied (binomial 1 tt) (coefficient 5 (omega arith)) tt tt tt) (power_0 u v U) tt tt tt) tt tt)
        (power_5 w z W) tt tt tt

  -- ---- the line
  rise_whole : R M 2 17 (value x.second -q value x.first) (o.minus (o.number x.second) (o.number x.first))
  rise_whole = subtract (K.number M x.second D.second.0 D.second.1 D.second_size)
      (K.number M x.first D.first.0 D.first.1 D.first_size) tt tt

  line_left : R M 3 116 (line_at_left exact x) (line_at_left o x)
  line_left = add (K.number M x.first D.first.0 D.first.1 D.first_size)
      (multiplied (K.ratio _ D.interval_scaled D.interval_above _ _ _ (K.difference _ D.interval_scaled x.left x.from
      D.left.0 D.left.1 D.from.0 D.from.1 D.since_size) interval) rise_whole tt tt tt) tt tt

  line_rise_law : R M 2 91 (line_rise exact x) (line_rise o x)
  line_rise_law = multiplied (K.ratio _ D.interval_scaled D.interval_above _ _ _ (K.difference _ D.interval_scaled x.right
      x.left D.right.0 D.right.1 D.left.0 D.left.1 D.share_size) interval) rise_whole tt tt tt

  -- ---- the powers of curve minus line

  power_of_difference_0 : R M 9 1103 (difference_power exact x 0) (difference_power o x 0)
  power_of_difference_0 = subtract (curve_0 (offset o x) (scale o x) (offset exact x) (scale exact x) offset_close scale_close) line_left
      tt tt

  power_of_difference_1 : R M 17 2985 (difference_power exact x 1) (difference_power o x 1)
  power_of_difference_1 = subtract (curve_1 (offset o x) (scale o x) (offset exact x) (scale exact x) offset_close scale_close) line_rise_law
      tt tt

  power_of_difference_2 : R M 20 4012 (difference_power exact x 2) (difference_power o x 2)
  power_of_difference_2 = curve_2 (offset o x) (scale o x) (offset exact x) (scale exact x) offset_close scale_close

  power_of_difference_3 : R M 15 3167 (difference_power exact x 3) (difference_power o x 3)
  power_of_difference_3 = curve_3 (offset o x) (scale o x) (offset exact x) (scale exact x) offset_close scale_close

  power_of_difference_4 : R M 6 1314 (difference_power exact x 4) (difference_power o x 4)
  power_of_difference_4 = curve_4 (offset o x) (scale o x) (offset exact x) (scale exact x) offset_close scale_close

  power_of_difference_5 : R M 1 229 (difference_power exact x 5) (difference_power o x 5)
  power_of_difference_5 = curve_5 (offset o x) (scale o x) (offset exact x) (scale exact x) offset_close scale_close

  -- ---- the Bernstein coefficients
  -- q·c/d, where c is at most d
  part : {k n : ℕ} {v : ℚ} {y : A} → R M k n v y → (c d : ℕ) → T (leb c 10) → T (leb 1 d) → T (leb d 10) → T (ltb (k * c) (2 ^ 30))
      → T (leb (n * 0) (2 ^ 49)) → T (leb (n * c + k * 0 + 1) (2 ^ 49)) → T (leb (k * c) (d * k))
      → T (leb (n * c + k * 0 + 1 + (8 * (k * c) + 1)) (d * (n + 8 * k + 2))) → T (ltb k (2 ^ 30)) → T (leb (n + 8 * k + 2) (2 ^ 49))
      → R M k (n + 8 * k + 2 + (8 * k + 1)) (v *q whole c /q whole d) (o.over (o.times y (o.whole c)) (o.whole d))
  part {k} {n} {v} {y} Y c d a b e f g h i j l m = K.over_whole M S d (leb→le 1 d b) (leb→le d 10 e) _ _ _ _ k (n + 8 * k + 2)
      (leb→le _ _ i) (leb→le _ _ j) (ltb→lt _ _ l) (leb→le _ _ m) (multiply Y (binomial c a) f g h)

  bernstein_0 : R M 9 1323 (difference_bernstein exact x 0) (difference_bernstein o x 0)
  unfolding bernstein total
  bernstein_0 = add nothing
      (part power_of_difference_0 1 1 tt tt tt tt tt tt tt tt tt tt) tt tt

  bernstein_1 : R M 26 4792 (difference_bernstein exact x 1) (difference_bernstein o x 1)
  unfolding bernstein total
  bernstein_1 = add (add nothing
      (part power_of_difference_0 1 1 tt tt tt tt tt tt tt tt tt tt) tt tt)
      (part power_of_difference_1 1 5 tt tt tt tt tt tt tt tt tt tt) tt tt

  bernstein_2 : R M 46 9496 (difference_bernstein exact x 2) (difference_bernstein o x 2)
  unfolding bernstein total
  bernstein_2 = add (add (add nothing
      (part power_of_difference_0 1 1 tt tt tt tt tt tt tt tt tt tt) tt tt)
      (part power_of_difference_1 2 5 tt tt tt tt tt tt tt tt tt tt) tt tt)
      (part power_of_difference_2 1 10 tt tt tt tt tt tt tt tt tt tt) tt tt

  bernstein_3 : R M 61 13395 (difference_bernstein exact x 3) (difference_bernstein o x 3)
  unfolding bernstein total
  bernstein_3 = add (add (add (add nothing
      (part power_of_difference_0 1 1 tt tt tt tt tt tt tt tt tt tt) tt tt)
      (part power_of_difference_1 3 5 tt tt tt tt tt tt tt tt tt tt) tt tt)
      (part power_of_difference_2 3 10 tt tt tt tt tt tt tt tt tt tt) tt tt)
      (part power_of_difference_3 1 10 tt tt tt tt tt tt tt tt tt tt) tt tt

  bernstein_4 : R M 67 15345 (difference_bernstein exact x 4) (difference_bernstein o x 4)
  unfolding bernstein total
  bernstein_4 = add (add (add (add (add nothing
      (part power_of_difference_0 1 1 tt tt tt tt tt tt tt tt tt tt) tt tt)
      (part power_of_difference_1 4 5 tt tt tt tt tt tt tt tt tt tt) tt tt)
      (part power_of_difference_2 6 10 tt tt tt tt tt tt tt tt tt tt) tt tt)
      (part power_of_difference_3 4 10 tt tt tt tt tt tt tt tt tt tt) tt tt)
      (part power_of_difference_4 1 5 tt tt tt tt tt tt tt tt tt tt) tt tt

  bernstein_5 : R M 68 16138 (difference_bernstein exact x 5) (difference_bernstein o x 5)
  unfolding bernstein total
  bernstein_5 = add (add (add (add (add (add nothing
      (part power_of_difference_0 1 1 tt tt tt tt tt tt tt tt tt tt) tt tt)
      (part power_of_difference_1 5 5 tt tt tt tt tt tt tt tt tt tt) tt tt)
      (part power_of_difference_2 10 10 tt tt tt tt tt tt tt tt tt tt) tt tt)
      (part power_of_difference_3 10 10 tt tt tt tt tt tt tt tt tt tt) tt tt)
      (part power_of_difference_4 5 5 tt tt tt tt tt tt tt tt tt tt) tt tt)
      (part power_of_difference_5 1 1 tt tt tt tt tt tt tt tt tt tt) tt tt

  room : {k n : ℕ} {v : ℚ} {y : A} → R M k n v y → T (leb k 68) → T (leb n 16200) → R M 68 16200 v y
  room Y t u = K.wider M (scale_not_negative M S) _ _ _ _ _ _ (leb→le _ _ t) (leb→le _ _ u) Y

  -- each of them
  pub bernstein_close : (k : ℕ) → k < 6 → R M 68 16200 (difference_bernstein exact x k) (difference_bernstein o x k)
  bernstein_close zero l = room bernstein_0 tt tt
  bernstein_close (suc zero) l = room bernstein_1 tt tt
  bernstein_close (suc (suc zero)) l = room bernstein_2 tt tt
  bernstein_close (suc (suc (suc zero))) l = room bernstein_3 tt tt
  bernstein_close (suc (suc (suc (suc zero)))) l = room bernstein_4 tt tt
  bernstein_close (suc (suc (suc (suc (suc zero))))) l = room bernstein_5 tt tt
  bernstein_close (suc (suc (suc (suc (suc (suc k)))))) l = absurd (omega arith)
