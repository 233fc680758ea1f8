-- The largest absolute end of a pair, from what stands for it: its ends are in order, so it is the higher of minus the low one and the high
-- one.
use mathlib.Core.Bool.{Bool, cond, false, true, true≢false}
use mathlib.Core.Path.{◌∙◌, ◌≡◌, ap, refl, subst, sym}
use Prim.Native.Nat.{suc, zero, ℕ}
use lib.Dec.{T, T_not}
use lib.Ieee.{Float, binary64, fin, fits, inf, lt, nan, of_bits}
use lib.Ieee.Scale.{finite}
use Rattle.fraction.specs.DirectedSum.{plain_zero}
use Rattle.fraction.specs.Pair.{Ends, highest, largest_absolute}
use Rattle.fraction.specs.Rational.{◌<q◌, ◌≤q◌, at_mostq, negq, ℚ, 𝟘}
use Rattle.fraction.specs.Value.{absolute_float, value}
use Rattle.fraction.proofs.Comparison.{lt_of_value, lt_value}
use Rattle.fraction.proofs.DirectedSum.{Plain, a_zero, no_zero, plain_cases}
use Rattle.fraction.proofs.Lowest.{highest_is}
use Rattle.fraction.proofs.Rational.{≤q-antisymmetric, ≤q-negated, ≤q-refl, ≤q-trans, ≤q-<q-trans}
use Rattle.fraction.proofs.Value.{absolute_float_law}
use Rattle.figure.specs.Figure.{Figure, absolute_end, figure, larger, no_figure}
use Rattle.estimate.proofs.Largest.{absolute_below, highest_either}
use Rattle.pairs.specs.Spreads.{Stands}
use Rattle.pairs.specs.declared.spread.Spread.{Spread}
use Rattle.pairs.proofs.Numbers.{twice}
use Rattle.pairs.proofs.PlainNumbers.{plain_unique}

-- ---- |x|
absolute_fits : (x : Float) → T (fits binary64 x) → T (fits binary64 (absolute_float x))
unfolding fits
absolute_fits nan F = tt
absolute_fits (inf s) F = tt
absolute_fits (fin s zero e) F = F
absolute_fits (fin s (suc m) e) F = F

-- ---- the highest of two, by their values
-- both are above a number that is not negative, or neither
lt_same : (x y z : Float) → T (finite x) → T (finite y) → T (finite z) → value y ≡ value z → lt x y ≡ lt x z
lt_same x y z X Y Z e = same (lt x y) (lt x z) (λ t. lt_of_value x z X Z (subst (λ (q : ℚ). value x <q q) e (lt_value x y X Y (subst T
    (sym t) tt))))
    (λ t. lt_of_value x y X Y (subst (λ (q : ℚ). value x <q q) (sym e) (lt_value x z X Z (subst T (sym t) tt))))
  where
    same : (p q : Bool) → (p ≡ true → q ≡ true) → (q ≡ true → p ≡ true) → p ≡ q
    same true q f g = sym (f refl)
    same false true f g = g refl
    same false false f g = refl

above_itself : (y : Float) → 𝟘 <q value y → plain_zero binary64 y ≡ y
above_itself y h = go (plain_zero binary64 y) (plain_cases binary64 y)
  where
    go : (p : Float) → Plain binary64 y p → p ≡ y
    go p (a_zero F e) = absurd (T_not (at_mostq (value y) 𝟘) h (subst (λ (q : ℚ). q ≤q 𝟘) (sym e) (≤q-refl 𝟘)))
    go p (no_zero n) = refl

same_highest : (x y z : Float) → T (finite x) → 𝟘 ≤q value x → T (fits binary64 y) → T (fits binary64 z) → T (finite y) → T (finite z)
    → value y ≡ value z → highest x y ≡ highest x z
unfolding highest
same_highest x y z X h F G Y Z e = go (lt x y) refl ∙ ap (λ (b : Bool). cond b z x) (lt_same x y z X Y Z e)
  where
    go : (b : Bool) → lt x y ≡ b → cond b y x ≡ cond b z x
    go true t =
        let k = ≤q-<q-trans 𝟘 (value x) (value y) h (lt_value x y X Y (subst T (sym t) tt)) in
        sym (above_itself y k) ∙ plain_unique y z F G Y Z e ∙ above_itself z (subst (λ (q : ℚ). 𝟘 <q q) e k)
    go false t = refl

-- ---- the pair
module _ (a : ℕ) (e : Ends) (s : Spread) (S : Stands a e s) where
  abbrev higher_end : Float
  higher_end = highest s.below s.above

  higher_finite : T (finite (highest s.below s.above))
  higher_finite = highest_either (λ (z : Float). T (finite z)) s.below s.above S.below_number.is_finite S.above_number.is_finite

  higher_fits : T (fits binary64 (highest s.below s.above))
  higher_fits = highest_either (λ (z : Float). T (fits binary64 z)) s.below s.above S.below_number.is_double S.above_number.is_double

  most_finite : T (finite (largest_absolute S.low S.high))
  unfolding largest_absolute
  most_finite = highest_either (λ (z : Float). T (finite z)) _ _ (absolute_float_law S.low S.low_number.is_finite).0
      (absolute_float_law S.high S.high_number.is_finite).0

  most_fits : T (fits binary64 (largest_absolute S.low S.high))
  unfolding largest_absolute
  most_fits = highest_either (λ (z : Float). T (fits binary64 z)) _ _ (absolute_fits S.low S.low_number.is_double)
      (absolute_fits S.high S.high_number.is_double)

  same_end : value (highest s.below s.above) ≡ value (largest_absolute S.low S.high)
  unfolding largest_absolute
  same_end =
      let l = S.low in
      let h = S.high in
      let L = S.low_number.is_finite in
      let H = S.high_number.is_finite in
      let A = absolute_float_law l L in
      let B = absolute_float_law h H in
      let u = highest_is s.below s.above S.below_number.is_finite S.above_number.is_finite in
      let v = highest_is (absolute_float l) (absolute_float h) A.0 B.0 in
      let m = value (highest s.below s.above) in
      let n = value (highest (absolute_float l) (absolute_float h)) in
      let low_under : negq (value l) ≤q m = subst (λ (z : ℚ). z ≤q m) S.below_value u.first in
      let high_under : value h ≤q m = subst (λ (z : ℚ). z ≤q m) S.above_value u.second in
      ≤q-antisymmetric m n
      (highest_either (λ (z : Float). value z ≤q n) s.below s.above
      (subst (λ (z : ℚ). z ≤q n) (sym S.below_value) (≤q-trans (negq (value l)) (value (absolute_float l)) n
      (subst (λ (z : ℚ). negq (value l) ≤q z) (twice (value (absolute_float l))) (≤q-negated (negq (value (absolute_float l))) (value l) A.1)) v.first))
      (subst (λ (z : ℚ). z ≤q n) (sym S.above_value) (≤q-trans (value h) (value (absolute_float h)) n B.2 v.second)))
      (highest_either (λ (z : Float). value z ≤q m) (absolute_float l) (absolute_float h)
      (absolute_below l L m (≤q-trans (value l) (value h) m S.ordered high_under) low_under)
      (absolute_below h H m high_under (≤q-trans (negq (value h)) (negq (value l)) m (≤q-negated (value l) (value h) S.ordered)
      low_under)))

  pub largest_stands : (x : Float) → T (finite x) → 𝟘 ≤q value x → (r : Float) → r ≡ highest x (highest s.below s.above)
      → (figure r ≡ larger (figure x) (absolute_end e)) × T (finite r) × (𝟘 ≤q value r)
  unfolding larger absolute_end
  largest_stands x X h r q = rw q (
    rw S.is (ap figure (same_highest x (highest s.below s.above) (largest_absolute S.low S.high) X h higher_fits most_fits
        higher_finite most_finite same_end)),
    highest_either (λ (z : Float). T (finite z)) x (highest s.below s.above) X higher_finite,
    ≤q-trans 𝟘 (value x) (value (highest x (highest s.below s.above))) h (highest_is x (highest s.below s.above) X
        higher_finite).first,
  )

-- where the largest begins
pub zero_not_negative : 𝟘 ≤q value (of_bits binary64 0)
unfolding of_bits at_mostq
zero_not_negative = tt

-- none is no figure
pub none_is_none : {A : Type 0} (v : Float) → no_figure ≡ figure v → A
none_is_none v h = absurd (true≢false (ap is_none h))
  where
    is_none : Figure → Bool
    is_none (figure x) = false
    is_none no_figure = true
