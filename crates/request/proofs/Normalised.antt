-- Where neither 5 nor 6 holds, the normalised parameters rise strictly from 0 to 1.
use mathlib.Core.Path.{◌≡◌, refl, sym, ap, subst, ◌∙◌}
use mathlib.Core.Bool.{Bool, true, false, not, ◌||◌}
use mathlib.Core.List.{List}
use Prim.Native.Nat.{ℕ, zero, suc, ◌+◌, ◌-◌, ◌*◌, ◌≤◌, ◌<◌}
use native.Mathlib.Nat.{mul-pos, zero-lt-suc}
use native.Mathlib.Omega.{arith}
use borrow.Author.Tests.{le-ltb, not-false}
use lib.Dec.{T, eqb, eqb-suc-zero}
use lib.IntN.{pos}
use lib.ListN.{length}
use lib.Pow.{pow_pos}
use lib.Ieee.{Float, nan, inf, fin, Format, binary32, binary64, up, down, is_nan, lt, le, eq, round, size, span, climb, units, odd, sub, div, sum, of_bits}
use lib.Ieee.Fits.{down_pos, up_pos}
use lib.Ieee.Positive.{above, positive}
use lib.Ieee.Scale.{finite, round_same}
use Rattle.arith.proofs.Truth.{or_none}
use Rattle.window.specs.Cells.{+0, at, Doubles}
use Rattle.fraction.proofs.Comparison.{number_self}
use Rattle.fraction.proofs.Rounding.{of_positive, quotient_number, rounded_not_nan, sub_rounded}
use Rattle.fraction.proofs.Value.{finite_not_nan}
use Rattle.arith.proofs.FloatOrder.{le_trans, lt_le, lt_of_not_le}
use Rattle.request.specs.Any.{any}
use Rattle.request.specs.Parameters.{any_fall, length_of, normalised_of, misplaced, unreliable}
use Rattle.request.proofs.Anys.{any_none}
use Rattle.fraction.proofs.Difference.{difference_above}

-- ---- floats
holds : {b : Bool} → b ≡ true → T b
holds e = subst T (sym e) tt

above_finite : (x : Float) → T (above x) → T (finite x) → T (positive x)
above_finite nan a F = absurd F
above_finite (inf s) a F = absurd F
above_finite (fin true m e) a F = a
above_finite (fin false m e) a F = a

zero_rounds : (f : Format) → round f false 0 1 ≡ fin false 0 (pos 0)
unfolding round size span climb units odd
zero_rounds binary32 = refl
zero_rounds binary64 = refl

one_rounds : (f : Format) → round f false 1 1 ≡ fin false 1 (pos 0)
unfolding round size span climb units odd
one_rounds binary32 = refl
one_rounds binary64 = refl

rounds_zero : (f : Format) (a c : ℕ) → 0 < c → a ≡ 0 → round f false a c ≡ fin false 0 (pos 0)
rounds_zero f a c C e = round_same f false a c 0 1 C (pow_pos 0) (omega arith) ∙ zero_rounds f

rounds_one : (f : Format) (a : ℕ) → 0 < a → round f false a a ≡ fin false 1 (pos 0)
rounds_one f a A = round_same f false a a 1 1 A (pow_pos 0) (omega arith) ∙ one_rounds f

-- x - x is +0
pub less_itself : (f : Format) (x : Float) → T (finite x) → sub f x x ≡ fin false 0 (pos 0)
unfolding sub sum
less_itself f nan X = absurd X
less_itself f (inf s) X = absurd X
less_itself f (fin true m e) X = let a = m * up e * down e in rw (le-ltb a a (omega arith))
    (rounds_zero f (a - a) (down e * down e) (mul-pos (down_pos e) (down_pos e)) (omega arith))
less_itself f (fin false m e) X = let a = m * up e * down e in rw (le-ltb a a (omega arith))
    (rounds_zero f (a - a) (down e * down e) (mul-pos (down_pos e) (down_pos e)) (omega arith))

-- +0 over a number above 0
zero_over : (f : Format) (y : Float) → T (positive y) → div f (fin false 0 (pos 0)) y ≡ fin false 0 (pos 0)
unfolding div
zero_over f =
    of_positive (λ y. div f (fin false 0 (pos 0)) y ≡ fin false 0 (pos 0))
    (λ m e. rw (eqb-suc-zero m) (rounds_zero f (0 * 1 * down e) (suc m * up e * 1) (mul-pos (mul-pos (zero-lt-suc m) (up_pos e))
    (pow_pos 0)) (omega arith)))

-- a number above 0 over itself
over_itself : (f : Format) (y : Float) → T (positive y) → div f y y ≡ fin false 1 (pos 0)
unfolding div
over_itself f =
    of_positive (λ y. div f y y ≡ fin false 1 (pos 0))
    (λ m e. rw (eqb-suc-zero m) (rounds_one f (suc m * up e * down e) (mul-pos (mul-pos (zero-lt-suc m) (up_pos e)) (down_pos e))))

-- ---- the parameters
module _ (list : List Float) (n : ℕ) (two : 2 ≤ n) (doubles : Doubles list) (placed : misplaced list n ≡ false)
    (reliable : unreliable list n ≡ false) where
  abbrev p : ℕ → Float
  p = at list

  abbrev s : ℕ → Float
  s = normalised_of list n

  -- what the tests say
  parts : (any n (λ i. not (finite (p i))) ≡ false) × (any_fall n p ≡ false)
  unfolding misplaced
  parts =
      let a = not (eqb (length list) n) in
      let b = any n (λ i. not (finite (p i))) in
      let o = or_none (a || b) (any_fall n p) placed in
      ((or_none a b o.0).1, o.1)

  length_parts : (not (finite (length_of list n)) ≡ false) × (any_fall n s ≡ false)
  unfolding unreliable
  length_parts = or_none (not (finite (length_of list n))) (any_fall n s) reliable

  pub parameter_finite : (i : ℕ) → i < n → T (finite (p i))
  parameter_finite i l = holds (not-false (finite (p i)) (any_none (λ i. not (finite (p i))) n parts.0 i l))

  no_fall : (i : ℕ) → i < n - 1 → le (p (i + 1)) (p i) ≡ false
  no_fall i l = any_none (λ i. le (p (i + 1)) (p i)) (n - 1) parts.1 i l

  self : (i : ℕ) → i < n → le (p i) (p i) ≡ true
  self i l = number_self (p i) (finite_not_nan (p i) (parameter_finite i l))

  -- each is below those after it
  upto : (i d : ℕ) → i + d < n → le (p i) (p (i + d)) ≡ true
  upto i zero l = let e : i + zero ≡ i = omega arith in rw e (self i (omega arith))
  upto i (suc d) l =
      let e : i + suc d ≡ i + d + 1 = omega arith in
      rw e
      (le_trans (p i) (p (i + d)) (p (i + d + 1)) (upto i d (omega arith))
      (lt_le (p (i + d)) (p (i + d + 1)) (lt_of_not_le (p (i + d + 1)) (p (i + d)) (self (i + d + 1) (omega arith))
      (self (i + d) (omega arith)) (no_fall (i + d) (omega arith)))))

  first_below : lt (p 0) (p (n - 1)) ≡ true
  first_below = lt_of_not_le (p (n - 1)) (p 0) (self (n - 1) (omega arith)) (self 0 (omega arith)) (go (le (p (n - 1)) (p 0)) refl)
    where
      go : (b : Bool) → le (p (n - 1)) (p 0) ≡ b → b ≡ false
      go false h = refl
      go true h =
          let e : 1 + (n - 2) ≡ n - 1 = omega arith in
          sym (le_trans (p 1) (p (n - 1)) (p 0) (rw e at (upto 1 (n - 2) (omega arith))) h) ∙ no_fall 0 (omega arith)

  -- end - start is above 0
  pub length_positive : T (positive (length_of list n))
  unfolding length_of
  length_positive =
      above_finite (length_of list n)
      (difference_above binary64 (p 0) (p (n - 1)) (doubles 0) (doubles (n - 1))
      (parameter_finite 0 (omega arith)) (parameter_finite (n - 1) (omega arith)) (holds first_below))
      (holds (not-false (finite (length_of list n)) length_parts.0))

  normalised_number : (i : ℕ) → i < n → T (not (is_nan (s i)))
  unfolding normalised_of
  normalised_number i l =
      quotient_number binary64 (sub binary64 (p i) (p 0))
      (rounded_not_nan binary64 (sub binary64 (p i) (p 0)) _ (sub_rounded binary64 (p i) (p 0) (parameter_finite i l)
      (parameter_finite 0 (omega arith))))
      (length_of list n) length_positive

  -- ---- the normalised parameters start at 0, each is below the next, and the last is 1
  pub normalised_first : T (eq (s 0) +0)
  unfolding normalised_of eq of_bits
  normalised_first =
      let e : s 0 ≡ fin false 0 (pos 0) = ap (λ (x : Float). div binary64 x (length_of list n))
      (less_itself binary64 (p 0) (parameter_finite 0 (omega arith))) ∙ zero_over binary64 (length_of list n) length_positive in
      subst (λ (x : Float). T (eq x +0)) (sym e) tt

  pub normalised_rises : (i : ℕ) → i < n - 1 → T (lt (s i) (s (i + 1)))
  normalised_rises i l =
      holds (lt_of_not_le (s (i + 1)) (s i) (number_self (s (i + 1)) (normalised_number (i + 1) (omega arith)))
      (number_self (s i) (normalised_number i (omega arith)))
      (any_none (λ i. le (s (i + 1)) (s i)) (n - 1) length_parts.1 i l))

  pub normalised_last : T (eq (s (n - 1)) (of_bits binary64 0x3ff0_0000_0000_0000))
  unfolding normalised_of length_of eq of_bits
  normalised_last = subst (λ (x : Float). T (eq x (of_bits binary64 0x3ff0_0000_0000_0000)))
      (sym (over_itself binary64 (length_of list n) length_positive)) tt
