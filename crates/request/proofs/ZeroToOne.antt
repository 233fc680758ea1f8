-- Where neither 5 nor 6 holds, the normalised parameters are finite numbers from 0 to 1, and neighbours are a finite number above 0 apart.
use mathlib.Core.Path.{◌≡◌, refl, sym, subst}
use mathlib.Core.Bool.{Bool, true, false}
use mathlib.Core.List.{List, [], ◌∷◌}
use Prim.Native.Nat.{ℕ, zero, suc, ◌+◌, ◌-◌, ◌≤◌, ◌<◌}
use native.Mathlib.Decide.{dec_lt}
use native.Mathlib.Omega.{arith}
use lib.Dec.{T}
use lib.IntN.{pos}
use lib.Ieee.{Float, nan, inf, fin, binary64, fits, lt, le, eq, sub, of_bits}
use lib.Ieee.Fits.{div-fits}
use lib.Ieee.Positive.{above, positive}
use lib.Ieee.Scale.{finite}
use Rattle.window.specs.Cells.{+0, Doubles}
use Rattle.fraction.specs.Order.{le_by}
use Rattle.fraction.specs.Rational.{ℚ, wholeq, at_mostq, ◌≤q◌, ◌<q◌, ◌+q◌, negq}
use Rattle.fraction.specs.RationalRing.{rational_ring}
use Rattle.fraction.specs.Ring.{var, ◌⊖◌}
use Rattle.fraction.specs.Value.{value}
use Rattle.fraction.proofs.Comparison.{between_finite, eq_finite, eq_value, lt_of_value, lt_value}
use Rattle.fraction.proofs.OwnRounding.{rounds_below}
use Rattle.fraction.proofs.Rational.{<q-weaken, never, rational_order, ≤q-<q-trans, <q-≤q-trans, ≤q-refl, ≤q-trans}
use Rattle.fraction.proofs.Rounding.{sub_rounded}
use Rattle.fraction.proofs.Value.{plus_zero}
use Rattle.request.specs.Parameters.{normalised_of, misplaced, unreliable}
use Rattle.fraction.proofs.Difference.{difference_above}
use Rattle.request.proofs.Normalised.{normalised_first, normalised_rises, normalised_last}

abbrev one : Float
one = of_bits binary64 0x3ff0_0000_0000_0000

zero_finite : T (finite +0)
unfolding of_bits
zero_finite = tt

one_finite : T (finite one)
unfolding of_bits
one_finite = tt

-- above 0 and at most a finite number
above_positive : (x y : Float) → T (above x) → T (finite y) → le x y ≡ true → T (positive x)
unfolding le lt eq
above_positive nan y a Y h = absurd a
above_positive (inf true) y a Y h = absurd a
above_positive (inf false) nan a Y h = absurd Y
above_positive (inf false) (inf t) a Y h = absurd Y
above_positive (inf false) (fin t n d) a Y h = subst T (sym h) tt
above_positive (fin true m e) y a Y h = absurd a
above_positive (fin false m e) y a Y h = a

module _ (list : List Float) (n : ℕ) (two : 2 ≤ n) (doubles : Doubles list) (placed : misplaced list n ≡ false)
    (reliable : unreliable list n ≡ false) where
  abbrev s : ℕ → Float
  s = normalised_of list n

  rises : (i : ℕ) → i < n - 1 → T (lt (s i) (s (i + 1)))
  rises = normalised_rises list n two doubles placed reliable

  pub normalised_fits : (i : ℕ) → T (fits binary64 (s i))
  unfolding normalised_of
  normalised_fits i = div-fits binary64 _ _

  pub normalised_finite : (i : ℕ) → i < n → T (finite (s i))
  normalised_finite zero l = eq_finite (s 0) +0 (normalised_first list n two doubles placed reliable) zero_finite
  normalised_finite (suc i) l = elim (dec_lt (suc i) (n - 1)) [
    | yes g ↦
        let e : i + 1 ≡ suc i = omega arith in
        between_finite (s (suc i)) (s i) (s (suc i + 1)) (subst (λ (k : ℕ). T (lt (s i) (s k))) e (rises i (omega arith))) (rises (suc i) g)
    | no g ↦
        let e : n - 1 ≡ suc i = omega arith in
        subst (λ (k : ℕ). T (finite (s k))) e
        (eq_finite (s (n - 1)) one (normalised_last list n two doubles placed reliable) one_finite)
  ]

  -- each is below the next
  next_above : (i : ℕ) → i + 1 < n → value (s i) <q value (s (i + 1))
  next_above i l = lt_value (s i) (s (i + 1)) (normalised_finite i (omega arith)) (normalised_finite (i + 1) l) (rises i (omega arith))

  -- none is below 0
  pub normalised_from_zero : (i : ℕ) → i < n → value +0 ≤q value (s i)
  normalised_from_zero zero l =
      subst (λ (z : ℚ). z ≤q value (s 0)) (eq_value (s 0) +0 zero_finite (normalised_first list n two doubles placed reliable))
      (≤q-refl (value (s 0)))
  normalised_from_zero (suc i) l =
      let e : i + 1 ≡ suc i = omega arith in
      subst (λ (k : ℕ). value +0 ≤q value (s k)) e
      (≤q-trans (value +0) (value (s i)) (value (s (i + 1))) (normalised_from_zero i (omega arith))
      (<q-weaken (value (s i)) (value (s (i + 1))) (next_above i (omega arith))))

  -- none is above 1: from the last one down
  to_one : (d i : ℕ) → i + d ≡ n - 1 → value (s i) ≤q value one
  to_one zero i e =
      let g : n - 1 ≡ i = omega arith in
      subst (λ (k : ℕ). value (s k) ≤q value one) g
      (subst (λ (z : ℚ). value (s (n - 1)) ≤q z) (eq_value (s (n - 1)) one one_finite (normalised_last list n two doubles placed
      reliable)) (≤q-refl (value (s (n - 1)))))
  to_one (suc d) i e =
      ≤q-trans (value (s i)) (value (s (i + 1))) (value one) (<q-weaken (value (s i)) (value (s (i + 1))) (next_above i (omega arith)))
      (to_one d (i + 1) (omega arith))

  pub normalised_to_one : (i : ℕ) → i < n → lt one (s i) ≡ false
  normalised_to_one i l = go (lt one (s i)) refl
    where
      go : (c : Bool) → lt one (s i) ≡ c → c ≡ false
      go false e = refl
      go true e =
          absurd (never (value one) (value (s i)) (lt_value one (s i) one_finite (normalised_finite i l) (subst T (sym e) tt))
          (to_one (n - 1 - i) i (omega arith)))

  -- the inner ones are strictly between
  pub inner_above : (i : ℕ) → 0 < i → i < n → lt +0 (s i) ≡ true
  inner_above i a b =
      let j = i - 1 in
      let e : j + 1 ≡ i = omega arith in
      lt_of_value +0 (s i) zero_finite (normalised_finite i b)
      (≤q-<q-trans (value +0) (value (s j)) (value (s i)) (normalised_from_zero j (omega arith))
      (subst (λ (k : ℕ). value (s j) <q value (s k)) e (next_above j (omega arith))))

  pub inner_below : (i : ℕ) → i < n - 1 → lt (s i) one ≡ true
  inner_below i b =
      lt_of_value (s i) one (normalised_finite i (omega arith)) one_finite
      (<q-≤q-trans (value (s i)) (value (s (i + 1))) (value one) (next_above i (omega arith))
      (to_one (n - 1 - (i + 1)) (i + 1) (omega arith)))

  -- neighbours are a finite number above 0 apart
  pub normalised_apart : (a : ℕ) → a + 1 < n → T (positive (sub binary64 (s (a + 1)) (s a)))
  unfolding at_mostq
  normalised_apart a l =
      let x = s (a + 1) in
      let y = s a in
      let X = normalised_finite (a + 1) l in
      let Y = normalised_finite a (omega arith) in
      let z : wholeq (pos 0) ≤q value y =
      subst (λ (x : Float). value x ≤q value y) (plus_zero binary64) (normalised_from_zero a (omega arith)) in
      above_positive (sub binary64 x y) x
      (difference_above binary64 y x (normalised_fits a) (normalised_fits (a + 1)) Y X (rises a (omega arith))) X
      (rounds_below binary64 x (normalised_fits (a + 1)) X (sub binary64 x y) (value x +q negq (value y)) (sub_rounded binary64 x y X Y)
      (le_by rational_ring ◌≤q◌ rational_order (value x ∷ value y ∷ []) (var 0 ⊖ var 1) (var 0) (var 1) tt z))
