-- `next_up` gives the least number above, `next_down` the greatest below (IEEE 754, 5.3.1). Only +∞ and a NaN have nothing above them
-- (`next_up_infinity`, `next_up_nan`), only -∞ and a NaN nothing below.
use mathlib.Core.Bool.{Bool, cond, false, true}
use mathlib.Core.Logic.{inl, inr}
use mathlib.Core.Path.{◌∙◌, ◌≡◌, ap, refl, subst, sym}
use Prim.Native.Nat.{◌*◌, ◌+◌, ◌-◌, ◌<◌, ◌^◌, ◌≤◌, suc, zero, ℕ}
use native.Mathlib.Nat.{add-zero, eq-or-lt_of_le, le-suc, le_trans, zero-add}
use native.Mathlib.Omega.{arith}
use lib.Dec.{T, not_T}
use lib.Ieee.{Float, Format, fin, fits, hid, inf, le, low, lt, nan, of_bits, ones, top}
use lib.Ieee.Exact.{HasValue}
use lib.Ieee.Scale.{finite}
use lib.IntN.{pos}
use lib.Pow.{pow_pos}
use Rattle.fraction.specs.Integer.{◌≤z◌, parts_neg, signed}
use Rattle.fraction.specs.Magnitude.{magnitude}
use Rattle.fraction.specs.NextNumber.{GreatestBelow, LeastAbove, down_bits, next_down, next_up, up_bits}
use Rattle.fraction.specs.Rational.{◌<q◌, ◌≤q◌, at_mostq, ℚ}
use Rattle.fraction.specs.Value.{BoundsAbove, BoundsBelow, fraction, value}
use Rattle.fraction.proofs.Comparison.{le_of_value, lt_of_value, lt_value}
use Rattle.fraction.proofs.Encoding.{finite_below_sign, hidden_pos, of_bits_infinity, of_bits_value}
use Rattle.fraction.proofs.NextNumber.{down_negative, down_positive, down_when_plus_zero, infinity_positive, next_down_finite}
use Rattle.fraction.proofs.NextNumber.{next_down_plus_infinity, next_up_finite, next_up_minus_infinity}
use Rattle.fraction.proofs.NextNumber.{none_between_down, none_between_up}
use Rattle.fraction.proofs.NextNumber.{prev_lt, suc_one, up_negative, up_positive, up_when_minus_zero}
use Rattle.fraction.proofs.Value.{Encoded, encoded, fraction_back, fraction_same_le, magnitudes_order, place_order, value_is}

-- ---- the infinities, by the tests
holds : {b : Bool} → b ≡ true → T b
holds e = subst T (sym e) tt

finite_of : (x : Float) (s : Bool) (a c : ℕ) → HasValue x s a c → T (finite x)
finite_of nan s a c v = absurd v
finite_of (inf t) s a c v = absurd v
finite_of (fin t m e) s a c v = tt

below_infinity : (x : Float) → T (finite x) → T (lt x (inf false))
unfolding lt
below_infinity nan F = absurd F
below_infinity (inf s) F = absurd F
below_infinity (fin s m e) F = tt

above_infinity : (x : Float) → T (finite x) → T (lt (inf true) x)
unfolding lt
above_infinity nan F = absurd F
above_infinity (inf s) F = absurd F
above_infinity (fin s m e) F = tt

-- what is above something is at or below +∞
to_infinity : (y x : Float) → T (lt x y) → T (le y (inf false))
unfolding le lt
to_infinity nan nan t = absurd t
to_infinity nan (inf s) t = absurd t
to_infinity nan (fin s m e) t = absurd t
to_infinity (inf true) x t = tt
to_infinity (inf false) x t = tt
to_infinity (fin u n d) x t = tt

-- what is below something is at or above -∞
from_infinity : (y x : Float) → T (lt y x) → T (le (inf true) y)
unfolding le lt
from_infinity nan x t = absurd t
from_infinity (inf true) x t = tt
from_infinity (inf false) x t = tt
from_infinity (fin u n d) x t = tt

-- a bound of a finite number, as a test
below_by_test : (y w : Float) → T (finite w) → BoundsBelow y (value w) → T (le y w)
unfolding le lt
below_by_test nan w W b = absurd b
below_by_test (inf false) w W b = absurd b
below_by_test (inf true) nan W b = absurd W
below_by_test (inf true) (inf s) W b = absurd W
below_by_test (inf true) (fin s m e) W b = tt
below_by_test (fin s m e) w W b = holds (le_of_value (fin s m e) w tt W b)

above_by_test : (y w : Float) → T (finite w) → BoundsAbove y (value w) → T (le w y)
unfolding le lt
above_by_test nan w W b = absurd b
above_by_test (inf true) w W b = absurd b
above_by_test (inf false) nan W b = absurd W
above_by_test (inf false) (inf s) W b = absurd W
above_by_test (inf false) (fin s m e) W b = tt
above_by_test (fin s m e) w W b = holds (le_of_value w (fin s m e) W tt b)

-- the last place with the sign set is at or below every place, and with the sign clear at or above
lowest : (t : Bool) (q i : ℕ) → q < i → signed true (i - 1) ≤z signed t q
lowest false q i l = omega (arith, (parts_neg (pos (i - 1))).0, (parts_neg (pos (i - 1))).1)
lowest true q i l = omega (arith, (parts_neg (pos (i - 1))).0, (parts_neg (pos (i - 1))).1, (parts_neg (pos q)).0, (parts_neg (pos q)).1)

highest : (t : Bool) (q i : ℕ) → q < i → signed t q ≤z signed false (i - 1)
highest false q i l = omega arith
highest true q i l = omega (arith, (parts_neg (pos q)).0, (parts_neg (pos q)).1)

-- one place nearer to 0, or further from it, with the sign set
nearer : (b : ℕ) → signed true b ≤z signed true (suc b) → ⊥
nearer b o = omega (arith, (parts_neg (pos b)).0, (parts_neg (pos b)).1, (parts_neg (pos (suc b))).0, (parts_neg (pos (suc b))).1)

module _ (f : Format) where
  -- the place of the infinities, and the last before it
  abbrev end : ℕ
  end = ones f * hid f

  abbrev last : ℕ
  last = end - 1

  last_below : last < end
  last_below = prev_lt end (infinity_positive f)

  -- the float of sign s at place p, and what it is worth if p is below the infinity's
  abbrev at : Bool → ℕ → Float
  at s p = of_bits f (cond s (top f) 0 + p)

  abbrev worth : Bool → ℕ → ℚ
  worth s p = fraction (signed s (magnitude (hid f) p)) (2 ^ low f) (pow_pos (low f))

  at_finite : (s : Bool) (p : ℕ) → p < end → T (finite (at s p))
  at_finite s p l = finite_of (at s p) s (magnitude (hid f) p) (2 ^ low f) (of_bits_value f s p l)

  at_value : (s : Bool) (p : ℕ) → p < end → value (at s p) ≡ worth s p
  at_value s p l = value_is (at s p) s (magnitude (hid f) p) (2 ^ low f) (pow_pos (low f)) (of_bits_value f s p l)

  -- the order of signed places is that of the values
  places_le : (s t : Bool) (p q : ℕ) → signed s p ≤z signed t q → worth s p ≤q worth t q
  places_le s t p q o = fraction_same_le _ _ (2 ^ low f) (pow_pos (low f)) (magnitudes_order (hid f) (hidden_pos f) s t p q o)

  places_lt : (s t : Bool) (p q : ℕ) → (signed t q ≤z signed s p → ⊥) → worth s p <q worth t q
  places_lt s t p q n =
      not_T (at_mostq (worth t q) (worth s p))
      (λ h. n (place_order (hid f) (hidden_pos f) t s q p (fraction_back _ _ (2 ^ low f) (pow_pos (low f)) h)))

  -- ---- a number lies between its next down and its next up
  module _ (x : Float) (F : T (finite x)) where
    -- x has the sign s and the place p: what lies at a higher place is above it, +∞ too, and what lies at a lower one below it, -∞ too
    module _ (s : Bool) (p : ℕ) (is : value x ≡ worth s p) where
      to_higher : (t : Bool) (q : ℕ) → q < end → (signed t q ≤z signed s p → ⊥) → T (lt x (at t q))
      to_higher t q l n = holds (lt_of_value x (at t q) F (at_finite t q l) (rw (is, at_value t q l) (places_lt s t p q n)))

      to_lower : (t : Bool) (q : ℕ) → q < end → (signed s p ≤z signed t q → ⊥) → T (lt (at t q) x)
      to_lower t q l n = holds (lt_of_value (at t q) x (at_finite t q l) F (rw (is, at_value t q l) (places_lt t s q p n)))

      to_top : (q : ℕ) → q ≤ end → (signed false q ≤z signed s p → ⊥) → T (lt x (at false q))
      to_top q l n = elim (eq-or-lt_of_le l) [
        | inl e ↦ subst (λ (y : Float). T (lt x y)) (sym (ap (at false) e ∙ of_bits_infinity f false)) (below_infinity x F)
        | inr g ↦ to_higher false q g n
      ]

      to_bottom : (q : ℕ) → q ≤ end → (signed s p ≤z signed true q → ⊥) → T (lt (at true q) x)
      to_bottom q l n = elim (eq-or-lt_of_le l) [
        | inl e ↦ subst (λ (y : Float). T (lt y x)) (sym (ap (at true) e ∙ of_bits_infinity f true)) (above_infinity x F)
        | inr g ↦ to_lower true q g n
      ]

    above_at : (s : Bool) (p : ℕ) → value x ≡ worth s p → p < end → T (lt x (of_bits f (up_bits f (cond s (top f) 0 + p))))
    above_at false p is l =
        subst (λ (b : ℕ). T (lt x (of_bits f b))) (sym (ap (up_bits f) (zero-add p) ∙ up_positive f p l ∙ sym (zero-add (suc p))))
        (to_top false p is (suc p) l (λ o. omega arith))
    above_at true zero is l =
        subst (λ (b : ℕ). T (lt x (of_bits f b))) (sym (ap (up_bits f) (add-zero (top f)) ∙ up_when_minus_zero f (top f) refl))
        (to_top true zero is 1 l (λ o. omega arith))
    above_at true (suc b) is l =
        subst (λ (b : ℕ). T (lt x (of_bits f b))) (sym (up_negative f b)) (to_higher true (suc b) is true b (le_trans (le-suc (suc b)) l)
        (nearer b))

    below_at : (s : Bool) (p : ℕ) → value x ≡ worth s p → p < end → T (lt (of_bits f (down_bits f (cond s (top f) 0 + p))) x)
    below_at true p is l = subst (λ (b : ℕ). T (lt (of_bits f b) x)) (sym (down_negative f p l)) (to_bottom true p is (suc p) l (nearer p))
    below_at false zero is l =
        subst (λ (b : ℕ). T (lt (of_bits f b) x)) (sym (down_when_plus_zero f (0 + 0) refl ∙ suc_one (top f)))
        (to_bottom false zero is 1 l (λ o. omega (arith, (parts_neg (pos 1)).0, (parts_neg (pos 1)).1)))
    below_at false (suc b) is l =
        subst (λ (b : ℕ). T (lt (of_bits f b) x)) (sym (ap (down_bits f) (zero-add (suc b)) ∙ down_positive f b (finite_below_sign f l) ∙ sym
        (zero-add b)))
        (to_lower false (suc b) is false b (le_trans (le-suc (suc b)) l) (λ o. omega arith))

    module _ (fx : T (fits f x)) where
      X : Encoded f x
      X = encoded f x fx F

      above_it : T (lt x (next_up f x))
      above_it =
          subst (λ (y : Float). T (lt x y)) (sym (next_up_finite f x F ∙ ap (λ (b : ℕ). of_bits f (up_bits f b)) X.bits))
          (above_at X.sign X.place X.exact X.below_infinity)

      below_it : T (lt (next_down f x) x)
      below_it =
          subst (λ (y : Float). T (lt y x)) (sym (next_down_finite f x F ∙ ap (λ (b : ℕ). of_bits f (down_bits f b)) X.bits))
          (below_at X.sign X.place X.exact X.below_infinity)

  -- ---- the theorems
  -- The next number up of x is the least number above x, for every x that has one above it.
  pub next_up_least : (x : Float) → T (fits f x) → T (lt x (inf false)) → LeastAbove f x (next_up f x)
  unfolding lt
  next_up_least nan fx t = absurd t
  next_up_least (inf false) fx t = absurd t
  next_up_least (inf true) fx t = subst (LeastAbove f (inf true)) (sym (next_up_minus_infinity f)) (above, least)
    where
      F : T (finite (at true last))
      F = at_finite true last last_below

      above : T (lt (inf true) (at true last))
      above = above_infinity (at true last) F

      least : (w : Float) → T (fits f w) → T (lt (inf true) w) → T (le (at true last) w)
      least nan fw l = absurd l
      least (inf true) fw l = absurd l
      least (inf false) fw l = to_infinity (at true last) (inf true) above
      least (fin s m e) fw l =
          let W = encoded f (fin s m e) fw tt in
          let o = places_le true W.sign last W.place (lowest W.sign W.place end W.below_infinity) in
          holds (le_of_value (at true last) (fin s m e) F tt (rw (W.exact, at_value true last last_below) o))
  next_up_least (fin s m e) fx t = (above, least)
    where
      above : T (lt (fin s m e) (next_up f (fin s m e)))
      above = above_it (fin s m e) tt fx

      least : (w : Float) → T (fits f w) → T (lt (fin s m e) w) → T (le (next_up f (fin s m e)) w)
      least nan fw l = absurd l
      least (inf true) fw l = absurd l
      least (inf false) fw l = to_infinity (next_up f (fin s m e)) (fin s m e) above
      least (fin u n d) fw l =
          let h = lt_value (fin s m e) (fin u n d) tt tt l in
          below_by_test (next_up f (fin s m e)) (fin u n d) tt (none_between_up f (fin s m e) (fin u n d) fx tt fw tt h)

  -- The next number down of x is the greatest number below x, for every x that has one below it.
  pub next_down_greatest : (x : Float) → T (fits f x) → T (lt (inf true) x) → GreatestBelow f x (next_down f x)
  unfolding lt
  next_down_greatest nan fx t = absurd t
  next_down_greatest (inf true) fx t = absurd t
  next_down_greatest (inf false) fx t =
      subst (GreatestBelow f (inf false)) (sym (next_down_plus_infinity f ∙ ap (of_bits f) (sym (zero-add last)))) (below, greatest)
    where
      F : T (finite (at false last))
      F = at_finite false last last_below

      below : T (lt (at false last) (inf false))
      below = below_infinity (at false last) F

      greatest : (w : Float) → T (fits f w) → T (lt w (inf false)) → T (le w (at false last))
      greatest nan fw l = absurd l
      greatest (inf false) fw l = absurd l
      greatest (inf true) fw l = from_infinity (at false last) (inf false) below
      greatest (fin s m e) fw l =
          let W = encoded f (fin s m e) fw tt in
          let o = places_le W.sign false W.place last (highest W.sign W.place end W.below_infinity) in
          holds (le_of_value (fin s m e) (at false last) tt F (rw (W.exact, at_value false last last_below) o))
  next_down_greatest (fin s m e) fx t = (below, greatest)
    where
      below : T (lt (next_down f (fin s m e)) (fin s m e))
      below = below_it (fin s m e) tt fx

      greatest : (w : Float) → T (fits f w) → T (lt w (fin s m e)) → T (le w (next_down f (fin s m e)))
      greatest nan fw l = absurd l
      greatest (inf false) fw l = absurd l
      greatest (inf true) fw l = from_infinity (next_down f (fin s m e)) (fin s m e) below
      greatest (fin u n d) fw l =
          let h = lt_value (fin u n d) (fin s m e) tt tt l in
          above_by_test (next_down f (fin s m e)) (fin u n d) tt (none_between_down f (fin s m e) (fin u n d) fx tt fw tt h)
