-- What is rounded lies between the neighbours: z, before it is rounded to r, is at least the number below r and at most the number above r;
-- and so with any number w ≤ r, or w ≥ r, in the place of r.
use mathlib.Core.Bool.{Bool, cond, false, true}
use mathlib.Core.Path.{◌∙◌, ◌≡◌, ap, refl, subst, sym}
use Prim.Native.Nat.{◌*◌, ◌+◌, ◌-◌, ◌<◌, ◌^◌, ◌≤◌, suc, suc-le-suc, zero, ℕ}
use native.Mathlib.Nat.{add-zero, le-suc, le_trans, mul-le-mul_right, zero-add}
use native.Mathlib.Omega.{arith}
use lib.Dec.{T}
use lib.Ieee.{Float, Format, hid, low, of_bits, ones, round, to_bits, top}
use lib.Ieee.Scale.{finite, grid}
use lib.IntN.{neg_ℤ, pos}
use lib.Pow.{pow_pos}
use Rattle.fraction.specs.Integer.{◌≤z◌, signed}
use Rattle.fraction.specs.Magnitude.{magnitude}
use Rattle.fraction.specs.NextNumber.{down_bits, next_down, next_up, up_bits}
use Rattle.fraction.specs.Rational.{◌≤q◌, ℚ}
use Rattle.fraction.specs.Rounding.{Rounded}
use Rattle.fraction.specs.Value.{BoundsAbove, BoundsBelow, fraction, value}
use Rattle.fraction.proofs.Encoding.{finite_below_sign, hidden_pos, of_bits_value}
use Rattle.fraction.proofs.Magnitude.{magnitude_mono}
use Rattle.fraction.proofs.NextNumber.{down_negative, down_positive, down_when_plus_zero, next_down_finite, next_up_finite, up_negative, up_positive, up_when_minus_zero}
use Rattle.fraction.proofs.Rational.{≤q-refl}
use Rattle.fraction.proofs.RoundedPlace.{place, place_finite, place_magnitude, round_above, round_below, round_bits, round_value}
use Rattle.fraction.proofs.Value.{Encoded, bits_bound_above, bits_bound_below, bounds_above_of, bounds_below_of, fraction_back, fraction_le, negative_le, negative_le_positive, place_order, signed_order, value_is}

module _ (f : Format) (a c : ℕ) (C : 0 < c) where
  -- p is the place of a / c rounded, and p' a place that is no higher, both with their signs
  lower_go : (s' s : Bool) (p' p : ℕ) → a * 2 ^ low f ≤ magnitude (hid f) (suc p) * c → ((b : ℕ) → suc b ≡ p → magnitude (hid f) b * c ≤ a *
      2 ^ low f)
      → p' < ones f * hid f → signed s' p' ≤z signed s p → BoundsBelow (of_bits f (down_bits f (cond s' (top f) 0 + p')))
      (fraction (signed s a) c C)
  lower_go true s p' p A W l o =
      subst (λ (x : ℕ). BoundsBelow (of_bits f x) (fraction (signed s a) c C)) (sym (down_negative f p' l))
      (bits_bound_below f (suc p') (fraction (signed s a) c C) l (go s o))
    where
      go : (s : Bool) → signed true p' ≤z signed s p → fraction (neg_ℤ (pos (magnitude (hid f) (suc p')))) (2 ^ low f) (pow_pos (low f)) ≤q
          fraction (signed s a) c C
      go false o = fraction_le (neg_ℤ (pos (magnitude (hid f) (suc p')))) (pos a) (2 ^ low f) c (pow_pos (low f)) C
          (negative_le_positive (magnitude (hid f) (suc p')) a (2 ^ low f) c)
      go true o = fraction_le (neg_ℤ (pos (magnitude (hid f) (suc p')))) (neg_ℤ (pos a)) (2 ^ low f) c (pow_pos (low f)) C
          (negative_le (magnitude (hid f) (suc p')) a (2 ^ low f) c
          (le_trans A (mul-le-mul_right c (magnitude_mono (hid f) (suc p) (suc p') (hidden_pos f)
          (suc-le-suc (signed_order true true p' p o))))))
  lower_go false s zero p A W l o =
      subst (λ (x : ℕ). BoundsBelow (of_bits f x) (fraction (signed s a) c C))
      (sym (ap (down_bits f) (zero-add 0) ∙ down_when_plus_zero f 0 refl ∙ one (top f)))
      (bits_bound_below f 1 (fraction (signed s a) c C) l (go s o))
    where
      one : (t : ℕ) → suc t ≡ t + 1
      one t = omega arith

      go : (s : Bool) → signed false 0 ≤z signed s p → fraction (neg_ℤ (pos (magnitude (hid f) 1))) (2 ^ low f) (pow_pos (low f)) ≤q fraction
          (signed s a) c C
      go false o = fraction_le (neg_ℤ (pos (magnitude (hid f) 1))) (pos a) (2 ^ low f) c (pow_pos (low f)) C
          (negative_le_positive (magnitude (hid f) 1) a (2 ^ low f) c)
      go true o = fraction_le (neg_ℤ (pos (magnitude (hid f) 1))) (neg_ℤ (pos a)) (2 ^ low f) c (pow_pos (low f)) C
          (negative_le (magnitude (hid f) 1) a (2 ^ low f) c (subst (λ (z : ℕ). a * 2 ^ low f ≤ magnitude (hid f) (suc z) * c)
          (signed_order false true 0 p o).1 A))
  lower_go false s (suc b) p A W l o =
      subst (λ (x : ℕ). BoundsBelow (of_bits f x) (fraction (signed s a) c C))
      (sym (ap (down_bits f) (zero-add (suc b)) ∙ down_positive f b (finite_below_sign f l) ∙ sym (zero-add b))) (go s o)
    where
      prev : (p : ℕ) → suc b ≤ p → suc (p - 1) ≡ p
      prev p o = omega arith

      low' : (p : ℕ) → suc b ≤ p → b ≤ p - 1
      low' p o = omega arith

      never : suc b ≡ 0 → ⊥
      never e = omega arith

      go : (s : Bool) → signed false (suc b) ≤z signed s p → BoundsBelow (of_bits f (0 + b)) (fraction (signed s a) c C)
      go false o =
          let k = signed_order false false (suc b) p o in
          bounds_below_of (of_bits f (0 + b)) false (magnitude (hid f) b) (2 ^ low f) (pow_pos (low f)) (fraction (pos a) c C)
          (of_bits_value f false b (le_trans (le-suc (suc b)) l))
          (fraction_le (pos (magnitude (hid f) b)) (pos a) (2 ^ low f) c (pow_pos (low f)) C
          (omega (arith, mul-le-mul_right c (magnitude_mono (hid f) b (p - 1) (hidden_pos f) (low' p k)), W (p - 1) (prev p k))))
      go true o = absurd (never (signed_order false true (suc b) p o).0)

  upper_go : (s' s : Bool) (p' p : ℕ) → a * 2 ^ low f ≤ magnitude (hid f) (suc p) * c → ((b : ℕ) → suc b ≡ p → magnitude (hid f) b * c ≤ a *
      2 ^ low f)
      → p' < ones f * hid f → signed s p ≤z signed s' p' → BoundsAbove (of_bits f (up_bits f (cond s' (top f) 0 + p')))
      (fraction (signed s a) c C)
  upper_go false s p' p A W l o =
      subst (λ (x : ℕ). BoundsAbove (of_bits f x) (fraction (signed s a) c C))
      (sym (ap (up_bits f) (zero-add p') ∙ up_positive f p' l ∙ sym (zero-add (suc p'))))
      (bits_bound_above f (suc p') (fraction (signed s a) c C) l (go s o))
    where
      go : (s : Bool) → signed s p ≤z signed false p' → fraction (signed s a) c C ≤q fraction (pos (magnitude (hid f) (suc p'))) (2 ^ low f)
          (pow_pos (low f))
      go false o = fraction_le (pos a) (pos (magnitude (hid f) (suc p'))) c (2 ^ low f) C (pow_pos (low f))
          (omega (
            arith,
            A,
            mul-le-mul_right c (magnitude_mono (hid f) (suc p) (suc p') (hidden_pos f)
                (suc-le-suc (signed_order false false p p' o))),
          ))
      go true o = fraction_le (neg_ℤ (pos a)) (pos (magnitude (hid f) (suc p'))) c (2 ^ low f) C (pow_pos (low f))
          (negative_le_positive a (magnitude (hid f) (suc p')) c (2 ^ low f))
  upper_go true s zero p A W l o =
      subst (λ (x : ℕ). BoundsAbove (of_bits f x) (fraction (signed s a) c C))
      (sym (ap (up_bits f) (add-zero (top f)) ∙ up_when_minus_zero f (top f) refl)) (bits_bound_above f 1 (fraction (signed s a) c C) l
      (go s o))
    where
      go : (s : Bool) → signed s p ≤z signed true 0 → fraction (signed s a) c C ≤q fraction (pos (magnitude (hid f) 1)) (2 ^ low f)
          (pow_pos (low f))
      go false o = fraction_le (pos a) (pos (magnitude (hid f) 1)) c (2 ^ low f) C (pow_pos (low f))
          (omega (arith, subst (λ (z : ℕ). a * 2 ^ low f ≤ magnitude (hid f) (suc z) * c) (signed_order false true p 0 o).0 A))
      go true o = fraction_le (neg_ℤ (pos a)) (pos (magnitude (hid f) 1)) c (2 ^ low f) C (pow_pos (low f))
          (negative_le_positive a (magnitude (hid f) 1) c (2 ^ low f))
  upper_go true s (suc b) p A W l o =
      subst (λ (x : ℕ). BoundsAbove (of_bits f x) (fraction (signed s a) c C)) (sym (up_negative f b)) (go s o)
    where
      prev : (p : ℕ) → suc b ≤ p → suc (p - 1) ≡ p
      prev p o = omega arith

      low' : (p : ℕ) → suc b ≤ p → b ≤ p - 1
      low' p o = omega arith

      never : suc b ≡ 0 → ⊥
      never e = omega arith

      go : (s : Bool) → signed s p ≤z signed true (suc b) → BoundsAbove (of_bits f (top f + b)) (fraction (signed s a) c C)
      go false o = absurd (never (signed_order false true p (suc b) o).1)
      go true o =
          let k = signed_order true true p (suc b) o in
          bounds_above_of (of_bits f (top f + b)) true (magnitude (hid f) b) (2 ^ low f) (pow_pos (low f)) (fraction (neg_ℤ (pos a)) c C)
          (of_bits_value f true b (le_trans (le-suc (suc b)) l))
          (fraction_le (neg_ℤ (pos a)) (neg_ℤ (pos (magnitude (hid f) b))) c (2 ^ low f) C (pow_pos (low f))
          (negative_le a (magnitude (hid f) b) c (2 ^ low f)
          (le_trans (mul-le-mul_right c (magnitude_mono (hid f) b (p - 1) (hidden_pos f) (low' p k))) (W (p - 1) (prev p k)))))

-- what is rounded has a sign and a place
unfoldable pub rounded_encoded : (f : Format) (r : Float) (z : ℚ) → Rounded f r z → T (finite r) → Encoded f r
rounded_encoded f r z R F =
    let s = R.sign in
    let F' : T (finite (round f s R.over R.under)) = subst (λ (x : Float). T (finite x)) R.rounds F in
    record {
      sign = s;
      place = place f s R.over R.under R.positive F';
      bits = ap (to_bits f) R.rounds ∙ round_bits f s R.over R.under R.positive F';
      below_infinity = place_finite f s R.over R.under R.positive F';
      exact = ap value R.rounds ∙ value_is (round f s R.over R.under) s (grid f R.over R.under) (2 ^ low f) (pow_pos (low f))
          (round_value f s R.over R.under R.positive F')
          ∙ ap (λ (z : ℕ). fraction (signed s z) (2 ^ low f) (pow_pos (low f)))
          (sym (place_magnitude f s R.over R.under R.positive F'));
    }

-- w ≤ r, and r is z rounded: the next number below w is a bound of z from below
pub lowest_below : (f : Format) (w r : Float) (z : ℚ) → Encoded f w → Rounded f r z → T (finite w) → T (finite r) → value w ≤q value r
    → BoundsBelow (next_down f w) z
unfolding rounded_encoded
lowest_below f w r z S R W F h =
    let s = R.sign in
    let F' : T (finite (round f s R.over R.under)) = subst (λ (x : Float). T (finite x)) R.rounds F in
    let p = place f s R.over R.under R.positive F' in
    let o : signed S.sign S.place ≤z signed s p = place_order (hid f) (hidden_pos f) S.sign s S.place p
    (fraction_back (signed S.sign (magnitude (hid f) S.place)) (signed s (magnitude (hid f) p)) (2 ^ low f) (pow_pos (low f))
    (subst (λ (x : ℚ). x ≤q fraction (signed s (magnitude (hid f) p)) (2 ^ low f) (pow_pos (low f))) S.exact
    (subst (λ (x : ℚ). value w ≤q x) (rounded_encoded f r z R F).exact h))) in
    rw (next_down_finite f w W, S.bits, R.exact) (lower_go f R.over R.under R.positive S.sign s S.place p
    (round_above f s R.over R.under R.positive F') (round_below f s R.over R.under R.positive F') S.below_infinity o)

-- r ≤ w, and r is z rounded: the next number above w is a bound of z from above
pub highest_above : (f : Format) (w r : Float) (z : ℚ) → Encoded f w → Rounded f r z → T (finite w) → T (finite r) → value r ≤q value w
    → BoundsAbove (next_up f w) z
unfolding rounded_encoded
highest_above f w r z S R W F h =
    let s = R.sign in
    let F' : T (finite (round f s R.over R.under)) = subst (λ (x : Float). T (finite x)) R.rounds F in
    let p = place f s R.over R.under R.positive F' in
    let o : signed s p ≤z signed S.sign S.place = place_order (hid f) (hidden_pos f) s S.sign p S.place
    (fraction_back (signed s (magnitude (hid f) p)) (signed S.sign (magnitude (hid f) S.place)) (2 ^ low f) (pow_pos (low f))
    (subst (λ (x : ℚ). fraction (signed s (magnitude (hid f) p)) (2 ^ low f) (pow_pos (low f)) ≤q x) S.exact
    (subst (λ (x : ℚ). x ≤q value w) (rounded_encoded f r z R F).exact h))) in
    rw (next_up_finite f w W, S.bits, R.exact) (upper_go f R.over R.under R.positive S.sign s S.place p
    (round_above f s R.over R.under R.positive F') (round_below f s R.over R.under R.positive F') S.below_infinity o)

-- the number below the rounded value, and the number above it, enclose the exact one
pub rounded_lower : (f : Format) (r : Float) (z : ℚ) → Rounded f r z → T (finite r) → BoundsBelow (next_down f r) z
rounded_lower f r z R F = lowest_below f r r z (rounded_encoded f r z R F) R F F (≤q-refl (value r))

pub rounded_upper : (f : Format) (r : Float) (z : ℚ) → Rounded f r z → T (finite r) → BoundsAbove (next_up f r) z
rounded_upper f r z R F = highest_above f r r z (rounded_encoded f r z R F) R F F (≤q-refl (value r))
