-- Numbers that rise strictly from 0 to 1.
use mathlib.Core.Path.{◌∙◌, ◌≡◌, ap, refl, subst, sym}
use Prim.Native.Nat.{ℕ, zero, suc, ◌+◌, ◌-◌, ◌<◌, ◌≤◌}
use native.Mathlib.Decide.{dec_lt}
use native.Mathlib.Omega.{arith}
use lib.Dec.{T}
use lib.Ieee.{Float, binary64, lt, of_bits, of_fields, odd}
use lib.Ieee.Scale.{finite}
use Rattle.window.specs.Cells.{+0}
use Rattle.fraction.specs.Rational.{◌<q◌, ◌≤q◌, at_mostq, ℚ}
use Rattle.fraction.specs.Value.{value}
use Rattle.fraction.proofs.Comparison.{between_finite, eq_finite, eq_value, lt_value}
use Rattle.fraction.proofs.Rational.{<q-weaken, never, ≤q-refl, ≤q-trans}
use Rattle.figure.specs.Distance.{Rises}

-- ---- 0 and 1
abbrev pub one : Float
one = of_bits binary64 0x3ff0_0000_0000_0000

zero_finite : T (finite +0)
unfolding of_bits of_fields odd
zero_finite = tt

one_finite : T (finite one)
unfolding of_bits of_fields odd
one_finite = tt

-- ---- numbers that rise from 0 to 1
module _ (count : ℕ) (x : ℕ → Float) (r : Rises count x) where
  pub first_is : value (x 0) ≡ value +0
  first_is = eq_value (x 0) +0 zero_finite r.from_zero

  pub last_is : value (x count) ≡ value one
  last_is = eq_value (x count) one one_finite r.to_one

  pub rises_finite : (i : ℕ) → i ≤ count → T (finite (x i))
  rises_finite i l = elim (dec_lt 0 i) [
    | yes a ↦ elim (dec_lt i count) [
      | yes b ↦ let e : i - 1 + 1 ≡ i = omega arith in between_finite (x i) (x (i - 1)) (x (i + 1))
          (subst (λ (k : ℕ). T (lt (x (i - 1)) (x k))) e (r.rising (i - 1) (omega arith))) (r.rising i b)
      | no b ↦ let e : count ≡ i = omega arith in subst (λ (k : ℕ). T (finite (x k))) e (eq_finite (x count) one r.to_one one_finite)
    ]
    | no a ↦ let e : 0 ≡ i = omega arith in subst (λ (k : ℕ). T (finite (x k))) e (eq_finite (x 0) +0 r.from_zero zero_finite)
  ]

  -- each is below the next
  pub rises_strictly : (i : ℕ) → i < count → value (x i) <q value (x (i + 1))
  rises_strictly i l = lt_value (x i) (x (i + 1)) (rises_finite i (omega arith)) (rises_finite (i + 1) (omega arith)) (r.rising i l)

  -- and at most every later one
  pub rises_to : (i d j : ℕ) → i + d ≡ j → j ≤ count → value (x i) ≤q value (x j)
  rises_to i zero j e l = let g : i ≡ j = omega arith in subst (λ (k : ℕ). value (x i) ≤q value (x k)) g (≤q-refl (value (x i)))
  rises_to i (suc d) j e l =
      let g : i + d + 1 ≡ j = omega arith in
      subst (λ (k : ℕ). value (x i) ≤q value (x k)) g
      (≤q-trans (value (x i)) (value (x (i + d))) (value (x (i + d + 1))) (rises_to i d (i + d) refl (omega arith))
      (<q-weaken (value (x (i + d))) (value (x (i + d + 1))) (rises_strictly (i + d) (omega arith))))

zero_below_one : value +0 <q value one
unfolding at_mostq of_bits of_fields odd
zero_below_one = tt

-- 0 is not 1: there is a step
pub some_step : (count : ℕ) (x : ℕ → Float) → Rises count x → 0 < count
some_step count x r = elim (dec_lt 0 count) [
  | yes l ↦ l
  | no l ↦
      let e : 0 ≡ count = omega arith in
      let same = sym (first_is count x r) ∙ ap (λ (k : ℕ). value (x k)) e ∙ last_is count x r in
      absurd (never (value +0) (value one) zero_below_one (subst (λ (z : ℚ). z ≤q value +0) same (≤q-refl (value +0))))
]
