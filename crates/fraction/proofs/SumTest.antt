-- How a program finds out that a rounded sum is above the exact one (after Dekker's Fast2Sum). r is x + y rounded, and y's exponent is not
-- above x's. All three are multiples of y's unit, so if r is above x + y, it is so by a unit at least: r - x is at or past the next number
-- after y, and r - x rounded is above y. If r is not above x + y, r - x is not above y, nor is it when rounded.
use mathlib.Core.Bool.{Bool, ◌&&◌, ◌||◌, cond, false, not, or-true, true}
use mathlib.Core.List.{[], ◌∷◌}
use mathlib.Core.Path.{◌∙◌, ◌≡◌, ap, refl, subst, sym}
use Prim.Native.Nat.{◌*◌, ◌+◌, ◌-◌, ◌/◌, ◌<◌, ◌^◌, ◌≤◌, suc, zero, ℕ}
use native.Mathlib.Decide.{dec_le}
use native.Mathlib.Nat.{le_of_lt, le_refl, mul-le-mul_right}
use native.Mathlib.Omega.{arith}
use lib.Dec.{T, T_not, not_T}
use lib.Ieee.{Float, Format, add, fin, fits, hid, inf, is_nan, low, lt, nan, neg, sub}
use lib.Ieee.Bits.{is_false, is_true}
use lib.Ieee.Nearest.{div_mono}
use lib.Ieee.Scale.{finite}
use lib.IntN.{◌+ℤ◌, neg_ℤ, pos}
use lib.Pow.{pow_mono, pow_pos}
use Rattle.fraction.specs.DirectedSum.{downward_sum, is_above, plain_zero}
use Rattle.fraction.specs.Fraction.{whole_fraction}
use Rattle.fraction.specs.Integer.{◌≤z◌, parts_add, parts_neg, signed}
use Rattle.fraction.specs.Magnitude.{magnitude}
use Rattle.fraction.specs.NextNumber.{next_down}
use Rattle.fraction.specs.Order.{le_one, le_two}
use Rattle.fraction.specs.Rational.{◌+q◌, ◌-q◌, ◌<q◌, ◌≤q◌, at_mostq, ℚ, 𝟘}
use Rattle.fraction.specs.RationalRing.{rational_ring}
use Rattle.fraction.specs.Ring.{◌⊕◌, ◌⊖◌, con, solve, v0, v1, v2, v3}
use Rattle.fraction.specs.Rounding.{Rounded}
use Rattle.fraction.specs.Value.{fraction, value}
use Rattle.fraction.proofs.Encoding.{hidden_pos}
use Rattle.fraction.proofs.Magnitude.{magnitude_suc, magnitude_zero}
use Rattle.fraction.proofs.Monotone.{rounded_monotone}
use Rattle.fraction.proofs.Multiple.{apart, encoded_multiple, multiple, multiple_add, rounded_multiple, unit}
use Rattle.fraction.proofs.Nearest.{fraction_add, place_middle_above}
use Rattle.fraction.proofs.OwnRounding.{rounded_self}
use Rattle.fraction.proofs.Rational.{rational_order, ≤q-<q-trans, ≤f-gives-≤q, ≤q-trans, ≤q-whole}
use Rattle.fraction.proofs.Rounding.{add_rounded, rounded_not_nan, sub_rounded}
use Rattle.fraction.proofs.Value.{Encoded, encoded, fraction_back, fraction_same_le, place_value, value_le_of_not_lt}

-- ---- the next place after a number's is at most its unit away
-- the exponent of a place: its unit is 2 ^ this, of the format's smallest number
abbrev exponent : Format → ℕ → ℕ
exponent f p = p / hid f - 1

grown : (h p : ℕ) → 0 < h → magnitude h (suc p) ≡ magnitude h p + 2 ^ (p / h - 1)
grown h p H = magnitude_suc h p H ∙ one (p - (p / h - 1) * h) (2 ^ (p / h - 1))
  where
    one : (q g : ℕ) → suc q * g ≡ q * g + g
    one q g = omega arith

grown_le : (h p : ℕ) → 0 < h → magnitude h (suc p) ≤ magnitude h p + 2 ^ (suc p / h - 1)
grown_le h p H = omega (
  arith,
  grown h p H,
  pow_mono (less (p / h) (suc p / h) (div_mono p h (suc p) h H H
      (mul-le-mul_right h (le_of_lt (le_refl (suc p)))))),
)
  where
    less : (a b : ℕ) → a ≤ b → a - 1 ≤ b - 1
    less a b l = omega arith

-- w is above x, by no more than a unit
pub record Next (f : Format) (j : ℕ) (x : ℚ) (w : ℚ) : Type 0 where
  pub after : x <q w
  pub within : w ≤q x +q unit f j

next_of : (f : Format) (j : ℕ) (s t : Bool) (M N : ℕ) → (signed t N ≤z signed s M → ⊥) → signed t N ≤z signed s M +ℤ pos (2 ^ j)
    → Next f j (fraction (signed s M) (2 ^ low f) (pow_pos (low f))) (fraction (signed t N) (2 ^ low f) (pow_pos (low f)))
next_of f j s t M N a w = record {
  after = not_T (at_mostq (fraction (signed t N) (2 ^ low f) (pow_pos (low f))) (fraction (signed s M) (2 ^ low f) (pow_pos (low f))))
      (λ h. a (fraction_back (signed t N) (signed s M) (2 ^ low f) (pow_pos (low f)) h));
  within = rw (fraction_add (signed s M) (pos (2 ^ j)) (2 ^ low f) (pow_pos (low f))) (fraction_same_le (signed t N)
      (signed s M +ℤ pos (2 ^ j)) (2 ^ low f) (pow_pos (low f)) w);
}

next_above : (f : Format) (s : Bool) (p : ℕ) → (t : Bool) × (q : ℕ) × Next f (exponent f p) (place_value f s p) (place_value f t q)
next_above f false p =
    let M = magnitude (hid f) p in
    let N = magnitude (hid f) (suc p) in
    let g = grown (hid f) p (hidden_pos f) in
    let G = pow_pos (exponent f p) in (
      false,
      suc p,
      next_of f (exponent f p) false false M N (λ h. omega (arith, g, G))
          (omega (arith, g, parts_add (pos M) (pos (2 ^ exponent f p)))),
    )
next_above f true zero =
    let M = magnitude (hid f) 0 in
    let N = magnitude (hid f) 1 in
    let g = grown (hid f) 0 (hidden_pos f) in
    let G = pow_pos (exponent f 0) in (
      false,
      1,
      next_of f (exponent f 0) true false M N (λ h. omega (arith, g, G, (parts_neg (pos M)).0, (parts_neg (pos M)).1))
          (omega (
            arith,
            g,
            magnitude_zero (hid f) (hidden_pos f),
            (parts_neg (pos M)).0,
            (parts_neg (pos M)).1,
            parts_add (neg_ℤ (pos M)) (pos (2 ^ exponent f 0)),
          )),
    )
next_above f true (suc b) =
    let M = magnitude (hid f) (suc b) in
    let N = magnitude (hid f) b in (
      true,
      b,
      next_of f (exponent f (suc b)) true true M N
          (λ h. omega (
            arith,
            grown (hid f) b (hidden_pos f),
            pow_pos (exponent f b),
            (parts_neg (pos M)).0,
            (parts_neg (pos M)).1,
            (parts_neg (pos N)).0,
            (parts_neg (pos N)).1,
          ))
          (omega (
            arith,
            grown_le (hid f) b (hidden_pos f),
            (parts_neg (pos M)).0,
            (parts_neg (pos M)).1,
            (parts_neg (pos N)).0,
            (parts_neg (pos N)).1,
            parts_add (neg_ℤ (pos M)) (pos (2 ^ exponent f (suc b))),
          )),
    )

-- ---- what lies a unit past a number is past it when rounded
otherwise : (b : Bool) → (T (not b) → ⊥) → T b
otherwise true n = tt
otherwise false n = n tt

-- x + unit ≤ z gives x ≤ z
unit_nonnegative : (f : Format) (j : ℕ) (x z : ℚ) → x +q unit f j ≤q z → x ≤q z
unit_nonnegative f j x z h = ≤q-trans x (x +q unit f j) z (le_one rational_ring ◌≤q◌ rational_order (x ∷ unit f j ∷ []) v0 (v0 ⊕ v1)
    (con (pos 1)) (con (pos 0)) v1 tt (≤q-whole 1) (above f j)) h
  where
    above : (f : Format) (j : ℕ) → 𝟘 ≤q unit f j
    above f j = ≤f-gives-≤q (whole_fraction (pos 0)) (record {
      numerator = pos (2 ^ j);
      denominator = 2 ^ low f;
      positive = pow_pos (low f);
    }) (omega arith)

module _ (f : Format) (x t : Float) (z : ℚ) (fx : T (fits f x)) (F : T (finite x)) (R : Rounded f t z) where
  abbrev X : Encoded f x
  X = encoded f x fx F

  -- x + unit ≤ z: x is below z rounded
  past : value x +q unit f (exponent f X.place) ≤q z → T (finite t) → T (lt x t)
  past h G = otherwise (lt x t) (λ n.
      let N = next_above f X.sign X.place in
      let w = place_value f N.0 N.1 in
      let below : value t <q w = ≤q-<q-trans (value t) (value x) w (value_le_of_not_lt t x G F n) (rw X.exact N.2.after) in
      let up : w ≤q z = ≤q-trans w (value x +q unit f (exponent f X.place)) z (rw X.exact N.2.within) h in
      T_not (at_mostq w (value t)) below (le_two rational_ring ◌≤q◌ rational_order (w ∷ z ∷ value t ∷ []) v0 v2 (con (pos 1)) (v1 ⊕ v1)
      (v2 ⊕ v0) (con (pos 2)) v0 v1 tt
      (≤q-whole 1) (place_middle_above f t N.0 N.1 z R G below) (≤q-whole 2) up))

-- the same where z rounded may be an infinity
pub past_any : (f : Format) (x t : Float) (z : ℚ) (fx : T (fits f x)) (F : T (finite x)) (R : Rounded f t z) → value x +q unit f
    (exponent f (encoded f x fx F).place) ≤q z → T (lt x t)
unfolding lt is_nan
past_any f nan t z fx F R h = absurd F
past_any f (inf s) t z fx F R h = absurd F
past_any f (fin s m e) nan z fx F R h = rounded_not_nan f nan z R
past_any f (fin s m e) (inf false) z fx F R h = tt
past_any f (fin s m e) (inf true) z fx F R h =
    absurd (rounded_monotone f (fin s m e) (inf true) (value (fin s m e)) z (rounded_self f (fin s m e) fx F) R
    (unit_nonnegative f (exponent f (encoded f (fin s m e) fx F).place) (value (fin s m e)) z h))
past_any f (fin s m e) (fin t n d) z fx F R h = past f (fin s m e) (fin t n d) z fx F R h tt

-- ---- a sum and the rounded sum: where the latter is above, it is so by a unit of the one of smaller exponent
module _ (f : Format) (x y r : Float) (fx : T (fits f x)) (fy : T (fits f y)) (X : T (finite x)) (Y : T (finite y))
    (R : Rounded f r (value x +q value y)) (F : T (finite r)) where
  abbrev j : ℕ
  j = exponent f (encoded f y fy Y).place

  module _ (l : j ≤ exponent f (encoded f x fx X).place) where
    gap : value x +q value y <q value r → value x +q value y +q unit f j ≤q value r
    gap h =
        let a = encoded_multiple f j x (encoded f x fx X) l in
        let b = encoded_multiple f j y (encoded f y fy Y) (le_refl j) in
        let e : value x +q value y ≡ multiple f j (a.0 +ℤ b.0) = ap (λ (z : ℚ). z +q value y) a.1 ∙ ap
        (λ (z : ℚ). multiple f j a.0 +q z) b.1 ∙ multiple_add f j a.0 b.0 in
        let c = rounded_multiple f j r (value x +q value y) R F (a.0 +ℤ b.0) e in
        rw (e, c.1) (apart f j (a.0 +ℤ b.0) c.0 (rw (e, c.1) at h))

    -- r is above the exact sum: r - x is above y
    pub above_shows : value x +q value y <q value r → T (lt y (sub f r x))
    above_shows h = past_any f y (sub f r x) (value r -q value x) fy Y (sub_rounded f r x F X)
        (le_one rational_ring ◌≤q◌ rational_order (value x ∷ value y ∷ unit f j ∷ value r ∷ []) (v1 ⊕ v2) (v3 ⊖ v0) (con (pos 1))
        (v0 ⊕ v1 ⊕ v2) v3 tt (≤q-whole 1) (gap h))

  -- and the other way round, whatever the exponents
  pub above_sound : value r ≤q value x +q value y → T (not (lt y (sub f r x)))
  above_sound h = rounded_monotone f (sub f r x) y (value r -q value x) (value y) (sub_rounded f r x F X) (rounded_self f y fy Y)
      (le_one rational_ring ◌≤q◌ rational_order (value x ∷ value y ∷ value r ∷ []) (v2 ⊖ v0) v1 (con (pos 1)) v2 (v0 ⊕ v1) tt (≤q-whole 1)
      h)

-- ---- the tests
module _ (f : Format) (x y r : Float) (fx : T (fits f x)) (fy : T (fits f y)) (X : T (finite x)) (Y : T (finite y))
    (R : Rounded f r (value x +q value y)) (F : T (finite r)) where
  turn : value x +q value y ≡ value y +q value x
  turn = solve rational_ring (value x ∷ value y ∷ []) (v0 ⊕ v1) (v1 ⊕ v0) tt

  abbrev R' : Rounded f r (value y +q value x)
  R' = subst (λ (z : ℚ). Rounded f r z) turn R

  other : (i k : ℕ) → ¬ (i ≤ k) → k ≤ i
  other i k n = omega arith

  above_finite : (lt y (sub f r x) || lt x (sub f r y)) ≡ not (at_mostq (value r) (value x +q value y))
  above_finite = go (at_mostq (value r) (value x +q value y)) (λ t. t) (λ t. t)
    where
      go : (b : Bool) → (T b → value r ≤q value x +q value y) → (T (not b) → value x +q value y <q value r) →
          (lt y (sub f r x) || lt x (sub f r y)) ≡ not b
      go true h k = rw (
        is_false (lt y (sub f r x)) (above_sound f x y r fx fy X Y R F (h tt)),
        is_false (lt x (sub f r y)) (above_sound f y x r fy fx Y X R' F (rw turn at (h tt))),
      )
      go false h k = elim (dec_le (exponent f (encoded f y fy Y).place) (exponent f (encoded f x fx X).place)) [
        | yes l ↦ rw (is_true (lt y (sub f r x)) (above_shows f x y r fx fy X Y R F l (k tt)))
        | no n ↦ rw (
          is_true (lt x (sub f r y)) (above_shows f y x r fy fx Y X R' F (other _ _ n) (rw turn at (k tt))),
          or-true (lt y (sub f r x)),
        )
      ]

-- the rounded sum is above the exact one, for any two numbers of the format; false where one is not finite
pub above_test : (f : Format) (x y : Float) → T (fits f x) → T (fits f y) → (lt y (sub f (add f x y) x) || lt x (sub f (add f x y) y)) ≡
    (finite x && finite y && is_above (add f x y) (value x +q value y))
unfolding lt add sub neg
above_test f nan nan fx fy = refl
above_test f nan (inf t) fx fy = refl
above_test f nan (fin t n d) fx fy = refl
above_test f (inf false) nan fx fy = refl
above_test f (inf false) (inf false) fx fy = refl
above_test f (inf false) (inf true) fx fy = refl
above_test f (inf false) (fin t n d) fx fy = refl
above_test f (inf true) nan fx fy = refl
above_test f (inf true) (inf false) fx fy = refl
above_test f (inf true) (inf true) fx fy = refl
above_test f (inf true) (fin t n d) fx fy = refl
above_test f (fin s m e) nan fx fy = refl
above_test f (fin s m e) (inf false) fx fy = refl
above_test f (fin s m e) (inf true) fx fy = refl
above_test f (fin s m e) (fin t n d) fx fy = go (add f (fin s m e) (fin t n d)) (add_rounded f (fin s m e) (fin t n d) tt tt)
  where
    go : (r : Float) → Rounded f r (value (fin s m e) +q value (fin t n d)) → (lt (fin t n d) (sub f r (fin s m e)) || lt (fin s m e)
        (sub f r (fin t n d))) ≡ is_above r (value (fin s m e) +q value (fin t n d))
    go nan R = refl
    go (inf false) R = refl
    go (inf true) R = refl
    go (fin u k c) R = above_finite f (fin s m e) (fin t n d) (fin u k c) fx fy tt tt R tt

-- ---- the sum downward by the test, the form for code
pub downward_by_test : (f : Format) (x y : Float) → T (fits f x) → T (fits f y)
    → downward_sum f x y ≡ plain_zero f (cond (lt y (sub f (add f x y) x) || lt x (sub f (add f x y) y)) (next_down f (add f x y))
    (add f x y))
unfolding downward_sum
downward_by_test f x y fx fy = ap (λ (b : Bool). plain_zero f (cond b (next_down f (add f x y)) (add f x y))) (sym (above_test f x y fx fy))
