-- Rounding is to nearest: z, before it is rounded to r, is no nearer to any other number of the format than to r.
use mathlib.Core.Bool.{Bool, cond, false, not, true}
use mathlib.Core.List.{List, [], ◌∷◌}
use mathlib.Core.Path.{◌∙◌, ◌≡◌, ap, refl, subst, sym}
use std.Quotient.{eq/}
use Prim.Native.Nat.{◌*◌, ◌+◌, ◌<◌, ◌^◌, ◌≤◌, suc, zero, ℕ}
use native.Mathlib.Decide.{dec_lt}
use native.Mathlib.Omega.{arith}
use lib.Dec.{T}
use lib.Ieee.{Float, Format, fits, hid, low, round}
use lib.Ieee.Scale.{finite}
use lib.IntN.{◌*ℤ◌, ◌+ℤ◌, neg_ℤ, pos, ℤ}
use lib.Pow.{pow_pos}
use Rattle.fraction.specs.Fraction.{add_fractions}
use Rattle.fraction.specs.Integer.{◌≤z◌, integer_ring, parts_add, parts_neg, signed}
use Rattle.fraction.specs.Magnitude.{magnitude}
use Rattle.fraction.specs.Order.{le_two}
use Rattle.fraction.specs.Rational.{◌+q◌, ◌-q◌, ◌<q◌, ◌≤q◌, absolute, at_mostq, negq, wholeq, ℚ, 𝟘}
use Rattle.fraction.specs.RationalRing.{rational_ring}
use Rattle.fraction.specs.Ring.{◌⊕◌, ◌⊖◌, ◌⊗◌, con, opposite, solve, v0, v1, v2, v3}
use Rattle.fraction.specs.Rounding.{Rounded}
use Rattle.fraction.specs.Value.{fraction, value}
use Rattle.fraction.proofs.Encoding.{hidden_pos}
use Rattle.fraction.proofs.Magnitude.{magnitude_zero}
use Rattle.fraction.proofs.Neighbours.{rounded_encoded}
use Rattle.fraction.proofs.Rational.{absolute_above, absolute_le, rational_order, ≤q-whole}
use Rattle.fraction.proofs.RoundedPlace.{place, round_middle_above, round_middle_below}
use Rattle.fraction.proofs.Value.{Encoded, encoded, fraction_le, place_values_order, place_value, signed_mul}

-- ---- in whole numbers: n is z in the format's units, times z's denominator; R and M are the magnitudes of r and of another number, times
-- it
sum_le : (s t : Bool) (R M n : ℕ) → cond s (cond t (2 * n ≤ R + M) ⊥) (cond t (R ≤ 2 * n) (M + R ≤ 2 * n))
    → signed t M +ℤ signed s R ≤z signed s n +ℤ signed s n
sum_le false false R M n h = omega (arith, parts_add (pos M) (pos R), parts_add (pos n) (pos n))
sum_le false true R M n h = omega (
  arith,
  parts_add (neg_ℤ (pos M)) (pos R),
  parts_add (pos n) (pos n),
  (parts_neg (pos M)).0,
  (parts_neg
      (pos M)).1,
)
sum_le true false R M n h = absurd h
sum_le true true R M n h =
    omega (
      arith,
      parts_add (neg_ℤ (pos M)) (neg_ℤ (pos R)),
      parts_add (neg_ℤ (pos n)) (neg_ℤ (pos n)),
      (parts_neg (pos M)).0,
      (parts_neg
          (pos M)).1,
      (parts_neg (pos R)).0,
      (parts_neg (pos R)).1,
      (parts_neg (pos n)).0,
      (parts_neg (pos n)).1,
    )

sum_ge : (s t : Bool) (R M n : ℕ) → cond s (cond t (R + M ≤ 2 * n) (R ≤ 2 * n)) (cond t ⊥ (2 * n ≤ R + M))
    → signed s n +ℤ signed s n ≤z signed s R +ℤ signed t M
sum_ge false false R M n h = omega (arith, parts_add (pos R) (pos M), parts_add (pos n) (pos n))
sum_ge false true R M n h = absurd h
sum_ge true false R M n h = omega (
  arith,
  parts_add (neg_ℤ (pos R)) (pos M),
  parts_add (neg_ℤ (pos n)) (neg_ℤ (pos n)),
  (parts_neg (pos R)).0,
  (parts_neg (pos R)).1,
  (parts_neg (pos n)).0,
  (parts_neg (pos n)).1,
)
sum_ge true true R M n h =
    omega (
      arith,
      parts_add (neg_ℤ (pos R)) (neg_ℤ (pos M)),
      parts_add (neg_ℤ (pos n)) (neg_ℤ (pos n)),
      (parts_neg (pos M)).0,
      (parts_neg
          (pos M)).1,
      (parts_neg (pos R)).0,
      (parts_neg (pos R)).1,
      (parts_neg (pos n)).0,
      (parts_neg (pos n)).1,
    )

-- a sum of two fractions of one denominator
pub fraction_add : (x y : ℤ) (c : ℕ) (C : 0 < c) → fraction x c C +q fraction y c C ≡ fraction (x +ℤ y) c C
unfolding ◌+q◌
fraction_add x y c C =
    eq/ (add_fractions (record { numerator = x; denominator = c; positive = C }) (record { numerator = y; denominator = c; positive = C }))
    (record { numerator = x +ℤ y; denominator = c; positive = C })
    (solve integer_ring (x ∷ y ∷ pos c ∷ []) ((v0 ⊗ v2 ⊕ v1 ⊗ v2) ⊗ v2) ((v0 ⊕ v1) ⊗ (v2 ⊗ v2)) tt)

-- ---- the middle of r and the value of the place q of sign t, infinity's place too
module _ (f : Format) (r : Float) (t : Bool) (q : ℕ) (z : ℚ) (R : Rounded f r z) (F : T (finite r)) where
  rounds_finite : T (finite (round f R.sign R.over R.under))
  rounds_finite = subst (λ (x : Float). T (finite x)) R.rounds F

  abbrev at : ℕ
  at = place f R.sign R.over R.under R.positive rounds_finite

  half_below : (b : ℕ) → b < at → magnitude (hid f) b * R.under + magnitude (hid f) at * R.under ≤ 2 * (R.over * 2 ^ low f)
  half_below b l = omega (arith, round_middle_below f R.sign R.over R.under R.positive rounds_finite b l)

  half_above : (b : ℕ) → at < b → 2 * (R.over * 2 ^ low f) ≤ magnitude (hid f) at * R.under + magnitude (hid f) b * R.under
  half_above b l = omega (arith, round_middle_above f R.sign R.over R.under R.positive rounds_finite b l)

  double : magnitude (hid f) at * R.under ≤ 2 * (R.over * 2 ^ low f)
  double = elim (dec_lt 0 at) [ yes l ↦ omega (arith, half_below 0 l) | no g ↦ none at g ]
    where
      none : (p : ℕ) → ¬ (0 < p) → magnitude (hid f) p * R.under ≤ 2 * (R.over * 2 ^ low f)
      none zero g = subst (λ (x : ℕ). x * R.under ≤ 2 * (R.over * 2 ^ low f)) (sym (magnitude_zero (hid f) (hidden_pos f))) (omega arith)
      none (suc p) g = absurd (g (omega arith))

  below_place : (s t : Bool) (q : ℕ) → (signed s at ≤z signed t q → ⊥)
      → cond s (cond t (2 * (R.over * 2 ^ low f) ≤ magnitude (hid f) at * R.under + magnitude (hid f) q * R.under) ⊥)
      (cond t (magnitude (hid f) at * R.under ≤ 2 * (R.over * 2 ^ low f)) (magnitude (hid f) q * R.under + magnitude (hid f) at *
      R.under ≤ 2 * (R.over * 2 ^ low f)))
  below_place false false q n = half_below q (elim (dec_lt q at) [ yes l ↦ l | no g ↦ absurd (n (omega arith)) ])
  below_place false true q n = double
  below_place true false q n = n (omega (arith, (parts_neg (pos at)).0, (parts_neg (pos at)).1))
  below_place true true q n = half_above q (elim (dec_lt at q) [
    | yes l ↦ l
    | no g ↦ absurd
        (n (omega (arith, (parts_neg (pos at)).0, (parts_neg (pos at)).1, (parts_neg (pos q)).0, (parts_neg (pos q)).1)))
  ])

  above_place : (s t : Bool) (q : ℕ) → (signed t q ≤z signed s at → ⊥)
      → cond s (cond t (magnitude (hid f) at * R.under + magnitude (hid f) q * R.under ≤ 2 * (R.over * 2 ^ low f))
      (magnitude (hid f) at * R.under ≤ 2 * (R.over * 2 ^ low f)))
      (cond t ⊥ (2 * (R.over * 2 ^ low f) ≤ magnitude (hid f) at * R.under + magnitude (hid f) q * R.under))
  above_place false false q n = half_above q (elim (dec_lt at q) [ yes l ↦ l | no g ↦ absurd (n (omega arith)) ])
  above_place false true q n = n (omega (arith, (parts_neg (pos q)).0, (parts_neg (pos q)).1))
  above_place true false q n = double
  above_place true true q n =
      omega (
        arith,
        half_below q (elim (dec_lt q at) [
          | yes l ↦ l
          | no g ↦ absurd
              (n (omega (arith, (parts_neg (pos at)).0, (parts_neg (pos at)).1, (parts_neg (pos q)).0, (parts_neg (pos q)).1)))
        ]),
      )

  twice_is : z +q z ≡ fraction (signed R.sign R.over +ℤ signed R.sign R.over) R.under R.positive
  twice_is = ap (λ (x : ℚ). x +q x) R.exact ∙ fraction_add (signed R.sign R.over) (signed R.sign R.over) R.under
      R.positive

  spread : (x y : ℤ) (a b c : ℕ) (s t : Bool) → x ≡ signed s a → y ≡ signed t b → (x +ℤ y) *ℤ pos c ≡ signed s (a * c) +ℤ signed t (b * c)
  spread x y a b c s t e d =
      solve integer_ring (x ∷ y ∷ pos c ∷ []) ((v0 ⊕ v1) ⊗ v2) (v0 ⊗ v2 ⊕ v1 ⊗ v2) tt
      ∙ ap (λ (k : ℤ). k *ℤ pos c +ℤ y *ℤ pos c) e ∙ ap (λ (k : ℤ). signed s a *ℤ pos c +ℤ k *ℤ pos c) d
      ∙ ap (λ (k : ℤ). k +ℤ signed t b *ℤ pos c) (signed_mul s a c) ∙ ap (λ (k : ℤ). signed s (a * c) +ℤ k) (signed_mul t b c)

  value_at : value r ≡ place_value f R.sign at
  unfolding rounded_encoded
  value_at = (rounded_encoded f r z R F).exact

  -- the place's value is below r: z is at least the middle of the two
  pub place_middle_below : place_value f t q <q value r → place_value f t q +q value r ≤q z +q z
  place_middle_below l =
      let M = magnitude (hid f) q in
      let N = magnitude (hid f) at in
      rw (twice_is, value_at, fraction_add (signed t M) (signed R.sign N) (2 ^ low f) (pow_pos (low f)))
      (fraction_le (signed t M +ℤ signed R.sign N) (signed R.sign R.over +ℤ signed R.sign R.over) (2 ^ low f) R.under
      (pow_pos (low f)) R.positive
      (rw (
        spread (signed t M) (signed R.sign N) M N R.under t R.sign refl refl,
        spread (signed R.sign R.over) (signed R.sign R.over) R.over R.over (2 ^ low f) R.sign R.sign refl refl,
      )
      (sum_le R.sign t (N * R.under) (M * R.under) (R.over * 2 ^ low f) (below_place R.sign t q
      (place_values_order f t R.sign q at (rw value_at at l))))))

  -- the place's value is above r: z is at most the middle of the two
  pub place_middle_above : value r <q place_value f t q → z +q z ≤q value r +q place_value f t q
  place_middle_above l =
      let M = magnitude (hid f) q in
      let N = magnitude (hid f) at in
      rw (twice_is, value_at, fraction_add (signed R.sign N) (signed t M) (2 ^ low f) (pow_pos (low f)))
      (fraction_le (signed R.sign R.over +ℤ signed R.sign R.over) (signed R.sign N +ℤ signed t M) R.under (2 ^ low f)
      R.positive (pow_pos (low f))
      (rw (
        spread (signed R.sign N) (signed t M) N M R.under R.sign t refl refl,
        spread (signed R.sign R.over) (signed R.sign R.over) R.over R.over (2 ^ low f) R.sign R.sign refl refl,
      )
      (sum_ge R.sign t (N * R.under) (M * R.under) (R.over * 2 ^ low f) (above_place R.sign t q
      (place_values_order f R.sign t at q (rw value_at at l))))))

module _ (f : Format) (r w : Float) (z : ℚ) (R : Rounded f r z) (F : T (finite r)) (W : Encoded f w) where
  -- w < r: z is at least the middle of w and r
  pub middle_below : value w <q value r → value w +q value r ≤q z +q z
  middle_below l = rw W.exact (place_middle_below f r W.sign W.place z R F (rw W.exact at l))

  -- r < w: z is at most the middle of r and w
  pub middle_above : value r <q value w → z +q z ≤q value r +q value w
  middle_above l = rw W.exact (place_middle_above f r W.sign W.place z R F (rw W.exact at l))

nearer : (z r w : ℚ) → (w <q r → w +q r ≤q z +q z) → (r <q w → z +q z ≤q r +q w) → absolute (z -q r) ≤q absolute (z -q w)
nearer z r w below above = absolute_le (z -q r) m (lower (at_mostq r w) (λ t. t) below) (upper (at_mostq w r) (λ t. t) above)
  where
    m : ℚ
    m = absolute (z -q w)

    ρ : List ℚ
    ρ = z ∷ r ∷ w ∷ absolute (z -q w) ∷ []

    one : 𝟘 ≤q wholeq (pos 1)
    one = ≤q-whole 1

    lower : (b : Bool) → (T b → r ≤q w) → (T (not b) → w +q r ≤q z +q z) → negq m ≤q z -q r
    lower true h k = le_two rational_ring ◌≤q◌ rational_order ρ (opposite v3) (v0 ⊖ v1) (con (pos 1)) (opposite (v0 ⊖ v2)) v3 (con (pos 1)) v1
        v2 tt one (absolute_above (z -q w)).1 one (h tt)
    lower false h k = le_two rational_ring ◌≤q◌ rational_order ρ (opposite v3) (v0 ⊖ v1) (con (pos 1)) (v0 ⊖ v2) v3 (con (pos 1)) (v2 ⊕ v1)
        (v0 ⊕ v0) tt one (absolute_above (z -q w)).0 one (k tt)

    upper : (b : Bool) → (T b → w ≤q r) → (T (not b) → z +q z ≤q r +q w) → z -q r ≤q m
    upper true h k = le_two rational_ring ◌≤q◌ rational_order ρ (v0 ⊖ v1) v3 (con (pos 1)) (v0 ⊖ v2) v3 (con (pos 1)) v2 v1 tt one
        (absolute_above (z -q w)).0 one (h tt)
    upper false h k = le_two rational_ring ◌≤q◌ rational_order ρ (v0 ⊖ v1) v3 (con (pos 1)) (opposite (v0 ⊖ v2)) v3 (con (pos 1)) (v0 ⊕ v0)
        (v1 ⊕ v2) tt one (absolute_above (z -q w)).1 one (k tt)

-- r is z rounded, and finite: no number w of the format is nearer to z
pub rounded_nearest : (f : Format) (r w : Float) (z : ℚ) → Rounded f r z → T (finite r) → T (fits f w) → T (finite w)
    → absolute (z -q value r) ≤q absolute (z -q value w)
rounded_nearest f r w z R F fw G = nearer z (value r) (value w) (middle_below f r w z R F (encoded f w fw G))
    (middle_above f r w z R F (encoded f w fw G))
