-- Laws of the exact value of a float: by sign and magnitude, its order, and what the tests `lt` say of it.
use mathlib.Core.Bool.{Bool, cond, false, not, true}
use mathlib.Core.List.{[], ◌∷◌}
use mathlib.Core.Logic.{inl, inr}
use mathlib.Core.Path.{◌∙◌, ◌≡◌, ap, refl, subst, sym}
use std.Quotient.{eq/}
use Prim.Native.Nat.{◌%◌, ◌*◌, ◌+◌, ◌-◌, ◌<◌, ◌^◌, ◌≤◌, zero-le, ℕ}
use native.Mathlib.Decide.{dec_lt}
use native.Mathlib.Nat.{add-mod_left, eq-or-lt_of_le, le_of_eq, le_trans, mod-eq_of_lt, zero-add}
use native.Mathlib.Omega.{arith}
use lib.Arith.{lt→nleb}
use lib.Dec.{T, T_not, leb, ltb, ltb→lt, lt→ltb, nltb→le}
use lib.Ieee.{Float, Format, below, binary32, binary64, down, fin, fits, hid, inf, is_nan, low, lt, nan, neg, odd, of_bits, of_fields, ones, to_bits, top, up}
use lib.Ieee.Bits.{nan_bits_above, nan_bits_is, of_bits-to_bits, to_bits-lt}
use lib.Ieee.Exact.{HasValue}
use lib.Ieee.Fits.{down_pos}
use lib.Ieee.Scale.{finite}
use lib.IntN.{◌*ℤ◌, neg_ℤ, neg_ℤ-neg_ℤ, pos, ℤ}
use lib.Pow.{pow_pos}
use Rattle.fraction.specs.Integer.{◌≤z◌, integer_order, integer_ring, parts_neg, signed}
use Rattle.fraction.specs.Magnitude.{magnitude}
use Rattle.fraction.specs.Order.{le_one}
use Rattle.fraction.specs.Rational.{Above, ◌<q◌, ◌≤q◌, at_mostq, negq, ℚ}
use Rattle.fraction.specs.Ring.{◌⊗◌, v0, v1, v2}
use Rattle.fraction.specs.Value.{BoundsAbove, BoundsBelow, absolute_float, fraction, value}
use Rattle.fraction.specs.WellDefined.{cancel_le, fraction_at_most_law, fraction_test, natural_nonnegative, negative_mul}
use Rattle.fraction.proofs.Encoding.{hidden_pos, of_bits_infinity, of_bits_value}
use Rattle.fraction.proofs.Magnitude.{magnitude_back, magnitude_mono, magnitude_zero}

-- a signed number times a natural number
pub signed_mul : (s : Bool) (a b : ℕ) → signed s a *ℤ pos b ≡ signed s (a * b)
signed_mul false a b = refl
signed_mul true a b = negative_mul a b

-- the value of a float of which the model says that it is a / c with the sign s
pub value_is : (x : Float) (s : Bool) (a c : ℕ) (C : 0 < c) → HasValue x s a c → value x ≡ fraction (signed s a) c C
value_is nan s a c C v = absurd v
value_is (inf t) s a c C v = absurd v
value_is (fin t m e) s a c C v =
    eq/ (record { numerator = signed t (m * up e); denominator = down e; positive = down_pos e })
    (record { numerator = signed s a; denominator = c; positive = C })
    (ap (λ (z : Bool). signed z (m * up e) *ℤ pos c) v.0 ∙ signed_mul s (m * up e) c ∙ ap (signed s) v.1
    ∙ sym (signed_mul s a (down e)))

-- the order of two signed fractions
pub fraction_le : (x y : ℤ) (c d : ℕ) (C : 0 < c) (D : 0 < d) → x *ℤ pos d ≤z y *ℤ pos c → fraction x c C ≤q fraction y d D
unfolding at_mostq
fraction_le x y c d C D h = fraction_test (record { numerator = x; denominator = c; positive = C })
    (record { numerator = y; denominator = d; positive = D }) h

-- such a float bounds z from above, if a / c does
pub bounds_above_of : (x : Float) (s : Bool) (a c : ℕ) (C : 0 < c) (z : ℚ) → HasValue x s a c → z ≤q fraction (signed s a) c C
    → BoundsAbove x z
bounds_above_of nan s a c C z v h = v
bounds_above_of (inf t) s a c C z v h = absurd v
bounds_above_of (fin t m e) s a c C z v h = subst (λ (w : ℚ). z ≤q w) (sym (value_is (fin t m e) s a c C v)) h

-- and from below
pub bounds_below_of : (x : Float) (s : Bool) (a c : ℕ) (C : 0 < c) (z : ℚ) → HasValue x s a c → fraction (signed s a) c C ≤q z
    → BoundsBelow x z
bounds_below_of nan s a c C z v h = v
bounds_below_of (inf t) s a c C z v h = absurd v
bounds_below_of (fin t m e) s a c C z v h = subst (λ (w : ℚ). w ≤q z) (sym (value_is (fin t m e) s a c C v)) h

-- -x / c ≤ -y / d where y / d ≤ x / c; and -x / c ≤ y / d
pub negative_le : (x y c d : ℕ) → y * c ≤ x * d → neg_ℤ (pos x) *ℤ pos d ≤z neg_ℤ (pos y) *ℤ pos c
negative_le x y c d h = rw (signed_mul true x d, signed_mul true y c)
    (omega (arith, (parts_neg (pos (x * d))).0, (parts_neg (pos (x * d))).1, (parts_neg (pos (y * c))).0, (parts_neg (pos (y * c))).1))

pub negative_le_positive : (x y c d : ℕ) → neg_ℤ (pos x) *ℤ pos d ≤z pos y *ℤ pos c
negative_le_positive x y c d = rw (signed_mul true x d) (omega (arith, (parts_neg (pos (x * d))).0, (parts_neg (pos (x * d))).1))

-- the pattern of sign s and place b reads as a bound for z from above, if its value is one or b is the place of the infinity
pub bits_bound_above : (f : Format) (b : ℕ) (z : ℚ) → b ≤ ones f * hid f → z ≤q fraction (pos (magnitude (hid f) b)) (2 ^ low f) (pow_pos
    (low f)) → BoundsAbove (of_bits f (0 + b)) z
bits_bound_above f b z l h = elim (eq-or-lt_of_le l) [
  | inl e ↦ subst (λ (x : ℕ). BoundsAbove (of_bits f (0 + x)) z) (sym e) (subst (λ (x : Float). BoundsAbove x z)
      (sym (of_bits_infinity f false)) tt)
  | inr g ↦ bounds_above_of (of_bits f (0 + b)) false (magnitude (hid f) b) (2 ^ low f) (pow_pos (low f)) z (of_bits_value f false b g) h
]

pub bits_bound_below : (f : Format) (b : ℕ) (z : ℚ) → b ≤ ones f * hid f → fraction (neg_ℤ (pos (magnitude (hid f) b))) (2 ^ low f) (pow_pos
    (low f)) ≤q z → BoundsBelow (of_bits f (top f + b)) z
bits_bound_below f b z l h = elim (eq-or-lt_of_le l) [
  | inl e ↦ subst (λ (x : ℕ). BoundsBelow (of_bits f (top f + x)) z) (sym e) (subst (λ (x : Float). BoundsBelow x z)
      (sym (of_bits_infinity f true)) tt)
  | inr g ↦ bounds_below_of (of_bits f (top f + b)) true (magnitude (hid f) b) (2 ^ low f) (pow_pos (low f)) z (of_bits_value f true b g) h
]

-- what the order of two signed numbers says of their sizes
pub signed_order : (s t : Bool) (a b : ℕ) → signed s a ≤z signed t b → cond s (cond t (b ≤ a) (Unit {0}))
    (cond t ((a ≡ 0) × (b ≡ 0)) (a ≤ b))
signed_order false false a b h = omega arith
signed_order true false a b h = tt
signed_order true true a b h = omega (arith, (parts_neg (pos a)).0, (parts_neg (pos a)).1, (parts_neg (pos b)).0, (parts_neg (pos b)).1)
signed_order false true a b h = (
  omega (arith, (parts_neg (pos b)).0, (parts_neg (pos b)).1),
  omega
      (arith, (parts_neg (pos b)).0, (parts_neg (pos b)).1),
)

-- fractions of one denominator are in the order of their numerators
pub fraction_back : (x y : ℤ) (c : ℕ) (C : 0 < c) → fraction x c C ≤q fraction y c C → x ≤z y
unfolding at_mostq
fraction_back x y c C h = cancel_le x y c C (fraction_at_most_law (record { numerator = x; denominator = c; positive = C })
    (record { numerator = y; denominator = c; positive = C }) h)

-- the places are in the order of the magnitudes
pub place_order : (h : ℕ) → 0 < h → (s t : Bool) (a b : ℕ) → signed s (magnitude h a) ≤z signed t (magnitude h b) → signed s a ≤z signed t b
place_order h H false false a b o = omega (arith, magnitude_back h a b H (signed_order false false (magnitude h a) (magnitude h b) o))
place_order h H true false a b o = omega (arith, (parts_neg (pos a)).0, (parts_neg (pos a)).1)
place_order h H true true a b o = omega (
  arith,
  magnitude_back h b a H (signed_order true true (magnitude h a) (magnitude h b) o),
  (parts_neg
      (pos a)).0,
  (parts_neg (pos a)).1,
  (parts_neg (pos b)).0,
  (parts_neg (pos b)).1,
)
place_order h H false true a b o = omega (
  arith,
  none a (signed_order false true (magnitude h a) (magnitude h b) o).0,
  none b
      (signed_order false true (magnitude h a) (magnitude h b) o).1,
  (parts_neg (pos b)).0,
  (parts_neg (pos b)).1,
)
  where
    none : (x : ℕ) → magnitude h x ≡ 0 → x ≤ 0
    none x e = magnitude_back h x 0 H (le_trans (le_of_eq e) zero-le)

-- the magnitudes are in the order of the places
pub magnitudes_order : (h : ℕ) → 0 < h → (s t : Bool) (a b : ℕ) → signed s a ≤z signed t b
    → signed s (magnitude h a) ≤z signed t (magnitude h b)
magnitudes_order h H false false a b o = omega (arith, magnitude_mono h a b H (signed_order false false a b o))
magnitudes_order h H true false a b o = omega (arith, (parts_neg (pos (magnitude h a))).0, (parts_neg (pos (magnitude h a))).1)
magnitudes_order h H true true a b o = omega (
  arith,
  magnitude_mono h b a H (signed_order true true a b o),
  (parts_neg
      (pos (magnitude h a))).0,
  (parts_neg (pos (magnitude h a))).1,
  (parts_neg (pos (magnitude h b))).0,
  (parts_neg (pos (magnitude h b))).1,
)
magnitudes_order h H false true a b o = omega (
  arith,
  none a (signed_order false true a b o).0,
  none b (signed_order false true a b o).1,
  (parts_neg (pos (magnitude h b))).0,
  (parts_neg (pos (magnitude h b))).1,
)
  where
    none : (x : ℕ) → x ≡ 0 → magnitude h x ≤ 0
    none x e = subst (λ (z : ℕ). magnitude h z ≤ 0) (sym e) (le_of_eq (magnitude_zero h H))

-- fractions of one denominator
pub fraction_same_le : (x y : ℤ) (c : ℕ) (C : 0 < c) → x ≤z y → fraction x c C ≤q fraction y c C
fraction_same_le x y c C h =
    fraction_le x y c c C C (le_one integer_ring ◌≤z◌ integer_order (x ∷ y ∷ pos c ∷ []) (v0 ⊗ v2) (v1 ⊗ v2) v2 v0 v1 tt
    (natural_nonnegative c) h)

-- the value of -y
pub value_neg : (y : Float) → T (finite y) → value (neg y) ≡ negq (value y)
unfolding neg negq
value_neg nan Y = absurd Y
value_neg (inf s) Y = absurd Y
value_neg (fin false n d) Y = refl
value_neg (fin true n d) Y = ap (λ (z : ℤ). fraction z (down d) (down_pos d)) (sym (neg_ℤ-neg_ℤ (pos (n * up d))))

-- -y is finite where y is
pub neg_finite : (y : Float) → T (finite y) → T (finite (neg y))
unfolding neg
neg_finite nan Y = Y
neg_finite (inf s) Y = Y
neg_finite (fin s n d) Y = tt

-- the test `lt` is false the other way round: x ≤ y
pub value_le_of_not_lt : (x y : Float) → T (finite x) → T (finite y) → T (not (lt y x)) → value x ≤q value y
unfolding lt
value_le_of_not_lt nan y X Y t = absurd X
value_le_of_not_lt (inf s) y X Y t = absurd X
value_le_of_not_lt (fin s m e) nan X Y t = absurd Y
value_le_of_not_lt (fin s m e) (inf u) X Y t = absurd Y
value_le_of_not_lt (fin s m e) (fin u n d) X Y t = fraction_le (signed s (m * up e)) (signed u (n * up d)) (down e) (down d) (down_pos e)
    (down_pos d) (rw (signed_mul s (m * up e) (down d), signed_mul u (n * up d) (down e)) (go s u (m * up e * down d) (n * up d * down e)
    t))
  where
    go : (s u : Bool) (a b : ℕ) → T (not (below u b s a)) → signed s a ≤z signed u b
    go false false a b t = omega (arith, nltb→le b a t)
    go false true a b t = omega (arith, nltb→le 0 (b + a) t, (parts_neg (pos b)).0, (parts_neg (pos b)).1)
    go true false a b t = omega (arith, (parts_neg (pos a)).0, (parts_neg (pos a)).1)
    go true true a b t = omega (
      arith,
      nltb→le a b t,
      (parts_neg (pos a)).0,
      (parts_neg (pos a)).1,
      (parts_neg (pos b)).0,
      (parts_neg
          (pos b)).1,
    )

-- the test `lt` is true: x ≤ y
pub value_le_of_lt : (x y : Float) → T (finite x) → T (finite y) → T (lt x y) → value x ≤q value y
unfolding lt
value_le_of_lt nan y X Y t = absurd X
value_le_of_lt (inf s) y X Y t = absurd X
value_le_of_lt (fin s m e) nan X Y t = absurd Y
value_le_of_lt (fin s m e) (inf u) X Y t = absurd Y
value_le_of_lt (fin s m e) (fin u n d) X Y t = fraction_le (signed s (m * up e)) (signed u (n * up d)) (down e) (down d) (down_pos e)
    (down_pos d) (rw (signed_mul s (m * up e) (down d), signed_mul u (n * up d) (down e)) (go s u (m * up e * down d) (n * up d * down e)
    t))
  where
    go : (s u : Bool) (a b : ℕ) → T (below s a u b) → signed s a ≤z signed u b
    go false false a b t = omega (arith, ltb→lt a b t)
    go false true a b t = absurd t
    go true false a b t = omega (arith, (parts_neg (pos a)).0, (parts_neg (pos a)).1)
    go true true a b t = omega (arith, ltb→lt b a t, (parts_neg (pos a)).0, (parts_neg (pos a)).1, (parts_neg (pos b)).0, (parts_neg (pos b)).1)

-- a finite float by its sign and its place among the patterns
pub record Encoded (f : Format) (x : Float) : Type 0 where
  pub sign : Bool
  pub place : ℕ
  pub bits : to_bits f x ≡ cond sign (top f) 0 + place
  pub below_infinity : place < ones f * hid f
  pub exact : value x ≡ fraction (signed sign (magnitude (hid f) place)) (2 ^ low f) (pow_pos (low f))

no_nan : (x : Float) → T (finite x) → T (is_nan x) → ⊥
unfolding is_nan
no_nan nan F t = F
no_nan (inf s) F t = F
no_nan (fin s m e) F t = t

-- a finite number that fits the format has a sign and a place
pub encoded : (f : Format) (x : Float) → T (fits f x) → T (finite x) → Encoded f x
encoded f x fx F = elim (dec_lt (to_bits f x) (top f)) [
  | yes l ↦ go false (to_bits f x) (sym (zero-add (to_bits f x))) l
  | no n ↦ go true (to_bits f x - top f) (rest n) (under n (to_bits-lt f x fx))
]
  where
    rest : ¬ (to_bits f x < top f) → to_bits f x ≡ top f + (to_bits f x - top f)
    rest n = omega arith

    under : ¬ (to_bits f x < top f) → to_bits f x < 2 * top f → to_bits f x - top f < top f
    under n l = omega arith

    cut : (s : Bool) (p : ℕ) → p < top f → (cond s (top f) 0 + p) % top f ≡ p
    cut true p l = add-mod_left (top f) p ∙ mod-eq_of_lt l
    cut false p l = ap (λ (z : ℕ). z % top f) (zero-add p) ∙ mod-eq_of_lt l

    go : (s : Bool) (p : ℕ) → to_bits f x ≡ cond s (top f) 0 + p → p < top f → Encoded f x
    go s p e l = elim (dec_lt p (ones f * hid f)) [
      | yes g ↦ record {
        sign = s;
        place = p;
        bits = e;
        below_infinity = g;
        exact = ap value (sym (of_bits-to_bits f x fx) ∙ ap (of_bits f) e) ∙ value_is (of_bits f (cond s (top f) 0 + p)) s (magnitude (hid f)
            p) (2 ^ low f) (pow_pos (low f)) (of_bits_value f s p g);
      }
      | no n ↦ elim (dec_lt (ones f * hid f) p) [
        | yes g ↦
            absurd (no_nan (of_bits f (cond s (top f) 0 + p)) (subst (λ (y : Float). T (finite y))
            (sym (of_bits-to_bits f x fx) ∙ ap (of_bits f) e) F)
            (subst (λ (b : Bool). T b) (nan_bits_is f (cond s (top f) 0 + p)) (subst (λ (b : Bool). T b)
            (sym (nan_bits_above f (cond s (top f) 0 + p))) (subst (λ (z : ℕ). T (ltb (ones f * hid f) z)) (sym (cut s p l))
            (lt→ltb (ones f * hid f) p g)))))
        | no m ↦
            absurd (subst (λ (y : Float). T (finite y)) (sym (of_bits-to_bits f x fx) ∙ ap (of_bits f)
            (e ∙ ap (λ (z : ℕ). cond s (top f) 0 + z) (same n m)) ∙ of_bits_infinity f s) F)
      ]
    ]
      where
        same : ¬ (p < ones f * hid f) → ¬ (ones f * hid f < p) → p ≡ ones f * hid f
        same n m = omega arith

-- a finite float that bounds z from below is at most z; one that bounds z from above is at least z
pub finite_bounds_below : (x : Float) (z : ℚ) → T (finite x) → BoundsBelow x z → value x ≤q z
finite_bounds_below nan z F h = absurd F
finite_bounds_below (inf s) z F h = absurd F
finite_bounds_below (fin s m e) z F h = h

pub finite_bounds_above : (x : Float) (z : ℚ) → T (finite x) → BoundsAbove x z → z ≤q value x
finite_bounds_above nan z F h = absurd F
finite_bounds_above (inf s) z F h = absurd F
finite_bounds_above (fin s m e) z F h = h

-- a finite float is no NaN
pub finite_not_nan : (x : Float) → T (finite x) → T (not (is_nan x))
unfolding is_nan
finite_not_nan nan F = absurd F
finite_not_nan (inf s) F = tt
finite_not_nan (fin s m e) F = tt

-- +0, by its bits
pub plus_zero : (f : Format) → of_bits f 0 ≡ fin false 0 (pos 0)
unfolding of_bits of_fields odd
plus_zero binary32 = refl
plus_zero binary64 = refl

-- a float above +0, by the test `lt`, has a value above 0
pub above_zero : (f : Format) (c : Float) → T (finite c) → T (lt (of_bits f 0) c) → Above (value c)
unfolding lt at_mostq
above_zero f c F t = go c F (subst (λ (x : Float). T (lt x c)) (plus_zero f) t)
  where
    test : (a b : ℕ) → 0 < a → T (not (leb (a * 1 + 0) (0 * b + 0)))
    test a b l = lt→nleb (a * 1 + 0) (0 * b + 0) (omega arith)

    go : (c : Float) → T (finite c) → T (lt (fin false 0 (pos 0)) c) → Above (value c)
    go nan F t = absurd F
    go (inf s) F t = absurd F
    go (fin true n d) F t = absurd t
    go (fin false n d) F t = test (n * up d) (down d) (omega (arith, ltb→lt (0 * 2 ^ 0 * down d) (n * up d * 1) t))

-- |x| as a float is finite where x is, and -|x| ≤ x ≤ |x|
pub absolute_float_law : (x : Float) → T (finite x) → T (finite (absolute_float x)) × (negq (value (absolute_float x)) ≤q value x)
    × (value x ≤q value (absolute_float x))
unfolding negq
absolute_float_law nan F = absurd F
absolute_float_law (inf s) F = absurd F
absolute_float_law (fin s m e) F = (
  tt,
  fraction_same_le (neg_ℤ (pos (m * up e))) (signed s (m * up e)) (down e) (down_pos e) (lower s (m * up e)),
  fraction_same_le (signed s (m * up e)) (pos (m * up e)) (down e) (down_pos e) (upper s (m * up e)),
)
  where
    lower : (s : Bool) (a : ℕ) → neg_ℤ (pos a) ≤z signed s a
    lower false a = omega (arith, (parts_neg (pos a)).0, (parts_neg (pos a)).1)
    lower true a = omega arith

    upper : (s : Bool) (a : ℕ) → signed s a ≤z pos a
    upper false a = omega arith
    upper true a = omega (arith, (parts_neg (pos a)).0, (parts_neg (pos a)).1)

-- the value of a sign and a place; it has one at infinity's place too
abbrev pub place_value : Format → Bool → ℕ → ℚ
place_value f s p = fraction (signed s (magnitude (hid f) p)) (2 ^ low f) (pow_pos (low f))

-- the order of these values is that of the signed places: if one is below another, the other's place is not at or below its own
pub place_values_order : (f : Format) (s t : Bool) (p q : ℕ) → place_value f s p <q place_value f t q → signed t q ≤z signed s p → ⊥
place_values_order f s t p q l o =
    T_not (at_mostq (place_value f t q) (place_value f s p)) l
    (fraction_same_le (signed t (magnitude (hid f) q)) (signed s (magnitude (hid f) p)) (2 ^ low f) (pow_pos (low f))
    (magnitudes_order (hid f) (hidden_pos f) t s q p o))

-- and so of two floats
pub places_order : (f : Format) (x w : Float) (X : Encoded f x) (W : Encoded f w) → value x <q value w
    → signed W.sign W.place ≤z signed X.sign X.place → ⊥
places_order f x w X W l o = place_values_order f X.sign W.sign X.place W.place (rw (X.exact, W.exact) at l) o
