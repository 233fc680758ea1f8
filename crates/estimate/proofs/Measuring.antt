-- What the tests of an intersection's numbers tell: its lengths and sizes are those that the formula's law asks for.
use mathlib.Core.Bool.{false, not, true}
use mathlib.Core.List.{[], ◌∷◌}
use mathlib.Core.Logic.{◌⊎◌, inl, inr}
use mathlib.Core.Path.{◌≡◌, subst}
use Prim.Native.Nat.{◌^◌}
use native.Mathlib.Omega.{arith}
use lib.Dec.{T}
use lib.Ieee.{Float, binary64, eq, fin, inf, le, lt, nan, neg, of_bits, sub}
use lib.Ieee.Bits.{of_bits-fits}
use lib.Ieee.Scale.{finite}
use lib.IntN.{pos}
use lib.Pow.{pow_pos}
use Rattle.arith.proofs.Truth.{never}
use Rattle.fraction.specs.Order.{le_two}
use Rattle.fraction.specs.Pair.{highest}
use Rattle.fraction.specs.Rational.{Above, ◌+q◌, ◌-q◌, ◌<q◌, ◌≤q◌, at_mostq, negq, ℚ, 𝟘}
use Rattle.fraction.specs.RationalRing.{rational_ring}
use Rattle.fraction.specs.Ring.{◌⊕◌, ◌⊖◌, con, opposite, v0, v1, v2, v3}
use Rattle.fraction.specs.Rounding.{Rounded}
use Rattle.fraction.specs.Value.{fraction, value}
use Rattle.fraction.proofs.Lowest.{highest_is}
use Rattle.fraction.proofs.OwnRounding.{rounds_below}
use Rattle.fraction.proofs.Rational.{<q-weaken, <q-≤q-trans, rational_order, ≤q-negated, ≤q-or-<, ≤q-refl, ≤q-trans, ≤q-whole}
use Rattle.fraction.proofs.Rounding.{sub_rounded}
use Rattle.fraction.proofs.Value.{neg_finite, value_neg}
use Rattle.figure.specs.Intersection.{Intersection}
use Rattle.pairs.specs.Spreads.{Number, power_of_two}
use Rattle.pairs.proofs.Numbers.{larger_power, le_value, rounded_number, turned, twice}
use Rattle.estimate.specs.Measure.{AtMost, Long, Placed, Sized, short_length, size_of, small_size, two}
use Rattle.estimate.specs.Plain.{larger_size}
use Rattle.estimate.proofs.Formula.{Double, Measured}
use Rattle.estimate.proofs.Largest.{highest_either, six_all}
use Rattle.estimate.proofs.Nearness.{Size, size_wider}
use Rattle.estimate.proofs.Rounds.{Scale}

-- ---- what lies between finite numbers is finite
-- no NaN, and not -∞; no NaN, and not +∞
NotLow : Float → Type 0
NotLow nan = ⊥
NotLow (inf s) = T (not s)
NotLow (fin s m e) = Unit {0}

NotHigh : Float → Type 0
NotHigh nan = ⊥
NotHigh (inf s) = T s
NotHigh (fin s m e) = Unit {0}

raise : (x y : Float) → le x y ≡ true → NotLow x → NotLow y
unfolding NotLow le lt eq
raise nan y h n = absurd n
raise (inf true) y h n = absurd n
raise (inf false) nan h n = never h
raise (inf false) (inf true) h n = never h
raise (inf false) (inf false) h n = tt
raise (inf false) (fin s m e) h n = tt
raise (fin s m e) nan h n = never h
raise (fin s m e) (inf true) h n = never h
raise (fin s m e) (inf false) h n = tt
raise (fin s m e) (fin t k d) h n = tt

lower : (x y : Float) → le x y ≡ true → NotHigh y → NotHigh x
unfolding NotHigh le lt eq
lower x nan h n = absurd n
lower x (inf false) h n = absurd n
lower nan (inf true) h n = never h
lower (inf false) (inf true) h n = never h
lower (inf true) (inf true) h n = tt
lower (fin s m e) (inf true) h n = tt
lower nan (fin t k d) h n = never h
lower (inf false) (fin t k d) h n = never h
lower (inf true) (fin t k d) h n = tt
lower (fin s m e) (fin t k d) h n = tt

not_low : (x : Float) → T (finite x) → NotLow x
unfolding NotLow
not_low nan X = X
not_low (inf s) X = absurd X
not_low (fin s m e) X = tt

not_high : (x : Float) → T (finite x) → NotHigh x
unfolding NotHigh
not_high nan X = X
not_high (inf s) X = absurd X
not_high (fin s m e) X = tt

neither : (x : Float) → NotLow x → NotHigh x → T (finite x)
unfolding NotLow NotHigh
neither nan l h = l
neither (inf true) l h = absurd l
neither (inf false) l h = absurd h
neither (fin s m e) l h = tt

two_finite : T (finite two)
unfolding of_bits
two_finite = tt

two_value : value two ≤q power_of_two 1
unfolding of_bits at_mostq
two_value = tt

four : power_of_two 1 +q power_of_two 1 ≤q power_of_two 2
unfolding ◌+q◌ at_mostq
four = tt

-- 2^-60 and 2^-61
short_finite : T (finite short_length)
unfolding of_bits
short_finite = tt

half_finite : T (finite (of_bits binary64 0x3c20_0000_0000_0000))
unfolding of_bits
half_finite = tt

shorter : value short_length ≤q value (of_bits binary64 0x3c20_0000_0000_0000) → ⊥
unfolding of_bits at_mostq
shorter h = h

half_floor : fraction (pos 1) (2 ^ 1000) (pow_pos 1000) ≤q value (of_bits binary64 0x3c20_0000_0000_0000)
unfolding of_bits at_mostq
half_floor = tt

half_above : 𝟘 <q value (of_bits binary64 0x3c20_0000_0000_0000)
unfolding of_bits at_mostq
half_above = tt

-- ---- an interval from a to b, with c and d between
module _ (a b c d : Float) (A : AtMost (neg two) a) (B : AtMost b two) (C : AtMost a c) (D : AtMost c d) (E : AtMost d b) where
  a_low : NotLow a
  a_low = raise _ a A.is (not_low (neg two) (neg_finite two two_finite))

  c_low : NotLow c
  c_low = raise a c C.is a_low

  d_low : NotLow d
  d_low = raise c d D.is c_low

  b_low : NotLow b
  b_low = raise d b E.is d_low

  b_high : NotHigh b
  b_high = lower b two B.is (not_high two two_finite)

  d_high : NotHigh d
  d_high = lower d b E.is b_high

  c_high : NotHigh c
  c_high = lower c d D.is d_high

  a_finite : T (finite a)
  a_finite = neither a a_low (lower a c C.is c_high)

  b_finite : T (finite b)
  b_finite = neither b b_low b_high

  c_finite : T (finite c)
  c_finite = neither c c_low c_high

  d_finite : T (finite d)
  d_finite = neither d d_low d_high

  pub a_double : Double a
  a_double = (A.second_double, a_finite)

  pub b_double : Double b
  b_double = (B.first_double, b_finite)

  pub c_double : Double c
  c_double = (C.second_double, c_finite)

  pub d_double : Double d
  d_double = (E.first_double, d_finite)

  a_c : value a ≤q value c
  a_c = le_value a c a_finite c_finite C.is

  c_d : value c ≤q value d
  c_d = le_value c d c_finite d_finite D.is

  d_b : value d ≤q value b
  d_b = le_value d b d_finite b_finite E.is

  abbrev l : ℚ
  l = value b -q value a

  -- parts of the length
  between : (x y : ℚ) → value a ≤q x → x ≤q y → y ≤q value b → Size l (y -q x)
  between x y p q r = (
    le_two rational_ring ◌≤q◌ rational_order (value a ∷ value b ∷ x ∷ y ∷ []) (opposite (v1 ⊖ v0)) (v3 ⊖ v2) (con (pos 1)) v0 v1 (con (pos
        1)) v2 v3
        tt (≤q-whole 1) (≤q-trans (value a) x (value b) p (≤q-trans x y (value b) q r)) (≤q-whole 1) q,
    le_two rational_ring ◌≤q◌ rational_order (value a ∷ value b ∷ x ∷ y ∷ []) (v3 ⊖ v2) (v1 ⊖ v0) (con (pos 1)) v0 v2 (con (pos 1)) v3 v1 tt
        (≤q-whole 1) p (≤q-whole 1) r,
  )

  pub whole_size : Size l l
  whole_size = between (value a) (value b) (≤q-refl (value a)) (≤q-trans _ _ _ a_c (≤q-trans _ _ _ c_d d_b)) (≤q-refl (value b))

  pub before_size : Size l (value c -q value a)
  before_size = between (value a) (value c) (≤q-refl (value a)) a_c (≤q-trans _ _ _ c_d d_b)

  pub part_size : Size l (value d -q value c)
  part_size = between (value c) (value d) a_c c_d d_b

  -- the length is at most 4
  short : l ≤q power_of_two 2
  short = ≤q-trans l (power_of_two 1 +q power_of_two 1) (power_of_two 2)
      (le_two rational_ring ◌≤q◌ rational_order (value a ∷ value b ∷ power_of_two 1 ∷ []) (v1 ⊖ v0) (v2 ⊕ v2) (con (pos 1)) (opposite v2) v0
      (con (pos 1)) v1 v2 tt (≤q-whole 1) low (≤q-whole 1) (≤q-trans _ _ _ (le_value b two b_finite two_finite B.is) two_value)) four
    where
      low : negq (power_of_two 1) ≤q value a
      low = ≤q-trans _ _ _ (≤q-negated _ _ two_value) (subst (λ (z : ℚ). z ≤q value a) (value_neg two two_finite)
          (le_value (neg two) a (neg_finite two two_finite) a_finite A.is))

  module _ (L : AtMost short_length (sub binary64 b a)) where
    -- and more than 2^-61
    long : value (of_bits binary64 0x3c20_0000_0000_0000) <q l
    long = go (≤q-or-< l (value (of_bits binary64 0x3c20_0000_0000_0000)))
      where
        R : Rounded binary64 (sub binary64 b a) l
        R = sub_rounded binary64 b a b_finite a_finite

        N : Number 2 (sub binary64 b a)
        N = rounded_number 2 (omega arith) _ l R (size_wider l (power_of_two 2) l short whole_size).0 short

        go : (l ≤q value (of_bits binary64 0x3c20_0000_0000_0000)) ⊎ (value (of_bits binary64 0x3c20_0000_0000_0000) <q l)
            → value (of_bits binary64 0x3c20_0000_0000_0000) <q l
        go (inr h) = h
        go (inl h) = absurd (shorter (≤q-trans _ _ _ (le_value short_length _ short_finite N.is_finite L.is)
            (le_value (sub binary64 b a) _ N.is_finite half_finite
            (rounds_below binary64 (of_bits binary64 0x3c20_0000_0000_0000) (of_bits-fits binary64 0x3c20_0000_0000_0000) half_finite _ l R
            h))))

    pub length_scale : Scale l
    length_scale = record {
      floor = ≤q-trans _ _ l half_floor (<q-weaken _ l long);
      ceiling = ≤q-trans l (power_of_two 2) _ short
          (larger_power 2 200 (omega arith));
    }

    pub length_above : Above l
    length_above = <q-≤q-trans 𝟘 _ l half_above (<q-weaken _ l long)

-- ---- the size of coefficients and waypoints
-- the larger of m and the size of y
module _ (m y : Float) (M : T (finite m)) (Y : T (finite y)) where
  size_finite : T (finite (highest y (neg y)))
  size_finite = highest_either (λ (z : Float). T (finite z)) y (neg y) Y (neg_finite y Y)

  pub larger_finite : T (finite (larger_size m y))
  larger_finite = (highest_is m (highest y (neg y)) M size_finite).is_finite

  pub larger_first : value m ≤q value (larger_size m y)
  larger_first = (highest_is m (highest y (neg y)) M size_finite).first

  pub larger_second : Size (value (larger_size m y)) (value y)
  larger_second =
      let H = highest_is y (neg y) Y (neg_finite y Y) in
      let k = (highest_is m (highest y (neg y)) M size_finite).second in
      let n = ≤q-trans (negq (value y)) (value (highest y (neg y))) (value (larger_size m y)) (subst (λ (z : ℚ). z ≤q value
      (highest y (neg y))) (value_neg y Y) H.second) k in
      (subst (λ (z : ℚ). negq (value (larger_size m y)) ≤q z) (twice (value y)) (≤q-negated _ _ n), ≤q-trans _ _ _ H.first k)

-- what holds of m, y and -y
pub larger_either : (P : Float → Type 0) (m y : Float) → P m → P y → P (neg y) → P (larger_size m y)
larger_either P m y p q r = highest_either P m (highest y (neg y)) p (highest_either P y (neg y) q r)

small_number : Number 100 small_size
unfolding of_bits at_mostq negq
small_number = record { is_double = of_bits-fits binary64 0x26f0_0000_0000_0000; is_finite = tt; at_least = tt; at_most = tt }

small_floor : fraction (pos 1) (2 ^ 1000) (pow_pos 1000) ≤q value small_size
unfolding of_bits at_mostq
small_floor = tt

module _ (x : Intersection) (S : Sized x) where
  abbrev m0 : Float
  m0 = larger_size small_size x.first

  n0 : Number 100 m0
  n0 = larger_either (Number 100) small_size x.first small_number S.first (turned 100 x.first S.first)

  abbrev m1 : Float
  m1 = larger_size m0 x.second

  n1 : Number 100 m1
  n1 = larger_either (Number 100) m0 x.second n0 S.second (turned 100 x.second S.second)

  abbrev m2 : Float
  m2 = larger_size m1 (x.coefficient 0)

  n2 : Number 100 m2
  n2 = larger_either (Number 100) m1 (x.coefficient 0) n1 (S.coefficients 0 (omega arith)) (turned 100 (x.coefficient 0) (S.coefficients 0 (omega arith)))

  abbrev m3 : Float
  m3 = larger_size m2 (x.coefficient 1)

  n3 : Number 100 m3
  n3 = larger_either (Number 100) m2 (x.coefficient 1) n2 (S.coefficients 1 (omega arith)) (turned 100 (x.coefficient 1) (S.coefficients 1 (omega arith)))

  abbrev m4 : Float
  m4 = larger_size m3 (x.coefficient 2)

  n4 : Number 100 m4
  n4 = larger_either (Number 100) m3 (x.coefficient 2) n3 (S.coefficients 2 (omega arith)) (turned 100 (x.coefficient 2) (S.coefficients 2 (omega arith)))

  abbrev m5 : Float
  m5 = larger_size m4 (x.coefficient 3)

  n5 : Number 100 m5
  n5 = larger_either (Number 100) m4 (x.coefficient 3) n4 (S.coefficients 3 (omega arith)) (turned 100 (x.coefficient 3) (S.coefficients 3 (omega arith)))

  abbrev m6 : Float
  m6 = larger_size m5 (x.coefficient 4)

  n6 : Number 100 m6
  n6 = larger_either (Number 100) m5 (x.coefficient 4) n5 (S.coefficients 4 (omega arith)) (turned 100 (x.coefficient 4) (S.coefficients 4 (omega arith)))

  abbrev m7 : Float
  m7 = larger_size m6 (x.coefficient 5)

  n7 : Number 100 m7
  n7 = larger_either (Number 100) m6 (x.coefficient 5) n6 (S.coefficients 5 (omega arith)) (turned 100 (x.coefficient 5) (S.coefficients 5 (omega arith)))

  up7 : value m7 ≤q value m7
  up7 = ≤q-refl (value m7)

  up6 : value m6 ≤q value m7
  up6 = ≤q-trans _ _ _ (larger_first m6 (x.coefficient 5) n6.is_finite (S.coefficients 5 (omega arith)).is_finite) up7

  up5 : value m5 ≤q value m7
  up5 = ≤q-trans _ _ _ (larger_first m5 (x.coefficient 4) n5.is_finite (S.coefficients 4 (omega arith)).is_finite) up6

  up4 : value m4 ≤q value m7
  up4 = ≤q-trans _ _ _ (larger_first m4 (x.coefficient 3) n4.is_finite (S.coefficients 3 (omega arith)).is_finite) up5

  up3 : value m3 ≤q value m7
  up3 = ≤q-trans _ _ _ (larger_first m3 (x.coefficient 2) n3.is_finite (S.coefficients 2 (omega arith)).is_finite) up4

  up2 : value m2 ≤q value m7
  up2 = ≤q-trans _ _ _ (larger_first m2 (x.coefficient 1) n2.is_finite (S.coefficients 1 (omega arith)).is_finite) up3

  up1 : value m1 ≤q value m7
  up1 = ≤q-trans _ _ _ (larger_first m1 (x.coefficient 0) n1.is_finite (S.coefficients 0 (omega arith)).is_finite) up2

  up0 : value m0 ≤q value m7
  up0 = ≤q-trans _ _ _ (larger_first m0 x.second n0.is_finite S.second.is_finite) up1

  sized0 : Size (value m7) (value x.first)
  sized0 = size_wider _ _ _ up0 (larger_second small_size x.first small_number.is_finite S.first.is_finite)

  sized1 : Size (value m7) (value x.second)
  sized1 = size_wider _ _ _ up1 (larger_second m0 x.second n0.is_finite S.second.is_finite)

  sized2 : Size (value m7) (value (x.coefficient 0))
  sized2 = size_wider _ _ _ up2 (larger_second m1 (x.coefficient 0) n1.is_finite (S.coefficients 0 (omega arith)).is_finite)

  sized3 : Size (value m7) (value (x.coefficient 1))
  sized3 = size_wider _ _ _ up3 (larger_second m2 (x.coefficient 1) n2.is_finite (S.coefficients 1 (omega arith)).is_finite)

  sized4 : Size (value m7) (value (x.coefficient 2))
  sized4 = size_wider _ _ _ up4 (larger_second m3 (x.coefficient 2) n3.is_finite (S.coefficients 2 (omega arith)).is_finite)

  sized5 : Size (value m7) (value (x.coefficient 3))
  sized5 = size_wider _ _ _ up5 (larger_second m4 (x.coefficient 3) n4.is_finite (S.coefficients 3 (omega arith)).is_finite)

  sized6 : Size (value m7) (value (x.coefficient 4))
  sized6 = size_wider _ _ _ up6 (larger_second m5 (x.coefficient 4) n5.is_finite (S.coefficients 4 (omega arith)).is_finite)

  sized7 : Size (value m7) (value (x.coefficient 5))
  sized7 = size_wider _ _ _ up7 (larger_second m6 (x.coefficient 5) n6.is_finite (S.coefficients 5 (omega arith)).is_finite)

  pub size_number : Number 100 (size_of x)
  size_number = n7

  size_scale : Scale (value (size_of x))
  size_scale = record {
    floor = ≤q-trans _ _ _ small_floor (≤q-trans _ _ _ (larger_first small_size x.first small_number.is_finite S.first.is_finite)
        up0);
    ceiling = ≤q-trans _ _ _ n7.at_most (larger_power 100 200 (omega arith));
  }

  -- all that the tests tell
  module _ (P : Placed x) (L : Long x) where
    pub measured_is : Measured x (value (size_of x))
    measured_is =
        let a = x.start in
        let b = x.end in
        let c = x.left in
        let d = x.right in
        let s = x.from in
        let t = x.to in
        record {
          scaled = size_scale;
          start = a_double a b c d P.start P.end P.start_left P.left_right P.right_end;
          end = b_double a b c d P.start P.end P.start_left P.left_right P.right_end;
          left = c_double a b c d P.start P.end P.start_left P.left_right P.right_end;
          right = d_double a b c d P.start P.end P.start_left P.left_right P.right_end;
          from = a_double s t c d P.from P.to P.from_left P.left_right P.right_to;
          to = b_double s t c d P.from P.to P.from_left P.left_right P.right_to;
          first = (S.first.is_double, S.first.is_finite);
          second = (S.second.is_double, S.second.is_finite);
          coefficients = λ k l. ((S.coefficients k l).is_double, (S.coefficients k l).is_finite);
          segment_scaled = length_scale a b c d P.start P.end P.start_left P.left_right P.right_end L.0;
          segment_above = length_above a b c d P.start P.end P.start_left P.left_right P.right_end L.0;
          interval_scaled = length_scale s t c d P.from P.to P.from_left P.left_right P.right_to L.1;
          interval_above = length_above s t c d P.from P.to P.from_left P.left_right P.right_to L.1;
          segment_size = whole_size a b c d P.start P.end P.start_left P.left_right P.right_end;
          interval_size = whole_size s t c d P.from P.to P.from_left P.left_right P.right_to;
          before_size = before_size a b c d P.start P.end P.start_left P.left_right P.right_end;
          part_size = part_size a b c d P.start P.end P.start_left P.left_right P.right_end;
          since_size = before_size s t c d P.from P.to P.from_left P.left_right P.right_to;
          share_size = part_size s t c d P.from P.to P.from_left P.left_right P.right_to;
          first_size = sized0;
          second_size = sized1;
          coefficients_size = six_all (λ k. Size (value (size_of x)) (value (x.coefficient k))) sized2 sized3 sized4 sized5 sized6 sized7;
        }
