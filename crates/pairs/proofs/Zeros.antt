-- Zeros made plain: once, after the sign is turned, is enough.
use mathlib.Core.Bool.{false}
use mathlib.Core.Path.{◌∙◌, ◌≡◌, ap, refl}
use lib.Dec.{T}
use lib.Ieee.{Float, binary64, fin, neg}
use lib.Ieee.Scale.{finite}
use lib.IntN.{pos}
use Rattle.fraction.specs.DirectedSum.{plain_zero}
use Rattle.fraction.specs.Rational.{at_mostq, negq, 𝟘}
use Rattle.fraction.specs.Value.{value}
use Rattle.fraction.proofs.DirectedSum.{Plain, a_zero, no_zero, plain_cases}
use Rattle.fraction.proofs.Rational.{≤q-antisymmetric}
use Rattle.fraction.proofs.Value.{neg_finite, value_neg}

-- plain_zero gives one number for all zeros
plain_of_zeros : (w v : Float) (p q : Float) → Plain binary64 w p → Plain binary64 v q → T (finite w) → value w ≡ 𝟘 → T (finite v)
    → value v ≡ 𝟘 → p ≡ q
plain_of_zeros w v p q (a_zero F e) (a_zero G d) W x H y = refl
plain_of_zeros w v p q (a_zero F e) (no_zero n) W x H y = absurd (n H y)
plain_of_zeros w v p q (no_zero n) k W x H y = absurd (n W x)

neg_zero : (w : Float) → T (finite w) → value w ≡ 𝟘 → value (neg w) ≡ 𝟘
unfolding negq
neg_zero w F e = value_neg w F ∙ ap negq e

pub plain_turned : (z : Float) → plain_zero binary64 (neg (plain_zero binary64 z)) ≡ plain_zero binary64 (neg z)
unfolding at_mostq
plain_turned z = go (plain_zero binary64 z) (plain_cases binary64 z)
  where
    nil : value (fin false 0 (pos 0)) ≡ 𝟘
    nil = ≤q-antisymmetric (value (fin false 0 (pos 0))) 𝟘 tt tt

    go : (p : Float) → Plain binary64 z p → plain_zero binary64 (neg p) ≡ plain_zero binary64 (neg z)
    go p (a_zero F e) =
        plain_of_zeros (neg p) (neg z) _ _ (plain_cases binary64 (neg p)) (plain_cases binary64 (neg z)) (neg_finite p tt) (neg_zero p tt
        nil)
        (neg_finite z F) (neg_zero z F e)
    go p (no_zero n) = refl
