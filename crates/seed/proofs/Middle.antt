-- The middle of a span, where `build` accepts it: neither at or below the left knot, nor at or above the right one. It then lies strictly
-- inside.
use mathlib.Core.Path.{◌≡◌, refl}
use mathlib.Core.Bool.{true, false, not}
use lib.Dec.{T}
use lib.IntN.{pos}
use lib.Ieee.{Float, nan, inf, fin, binary64, is_nan, lt, le, add, div, round}
use lib.Ieee.Scale.{finite}
use Rattle.arith.specs.Operations.{floats}
use Rattle.arith.proofs.FloatOrder.{lt_of_not_le}
use Rattle.fraction.proofs.Comparison.{number_self}
use Rattle.fraction.proofs.Value.{finite_not_nan}
use Rattle.fraction.proofs.Rounding.{add_rounded, div_rounded, rounded_not_nan}

-- ---- the middle is a number or an infinity
-- `(b.t[span] + b.t[span + 1]) / 2.`
abbrev pub middle : Float → Float → Float
middle a b = floats.over (floats.plus a b) (floats.literal 2 1)

half : (x : Float) → T (not (is_nan x)) → T (not (is_nan (div binary64 x (fin false 1 (pos 1)))))
unfolding is_nan div
half nan p = absurd p
half (inf s) p = tt
half (fin s m e) p = rounded_not_nan binary64 _ _ (div_rounded binary64 (fin s m e) (fin false 1 (pos 1)) tt tt).2

middle_number : (a b : Float) → T (finite a) → T (finite b) → T (not (is_nan (middle a b)))
middle_number a b p q = rw two_is (half (add binary64 a b) (rounded_not_nan binary64 _ _ (add_rounded binary64 a b p q)))
  where
    two_is : floats.literal 2 1 ≡ fin false 1 (pos 1)
    two_is = unfold round in refl

-- an accepted middle lies strictly inside
pub middle_inside : (a b : Float) → T (finite a) → T (finite b) → le (middle a b) a ≡ false → le b (middle a b) ≡ false
    → (lt a (middle a b) ≡ true) × (lt (middle a b) b ≡ true)
middle_inside a b p q h k =
    let m = middle_number a b p q in (
      lt_of_not_le (middle a b) a (number_self (middle a b) m) (number_self a (finite_not_nan a p)) h,
      lt_of_not_le b (middle a b) (number_self b (finite_not_nan b q)) (number_self (middle a b) m) k,
    )
