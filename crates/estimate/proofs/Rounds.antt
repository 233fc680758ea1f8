-- What a rounding costs: a number rounded to nearest, the next number up or down from it, and a sum rounded upward or downward are at
-- most 8 k + 1 units of P from the exact value, where that is at most k P in size, and a 32nd of P.
use mathlib.Core.List.{[], ◌∷◌}
use mathlib.Core.Path.{◌∙◌, ◌≡◌, ap, refl, subst, sym}
use Prim.Native.Nat.{◌*◌, ◌+◌, ◌<◌, ◌^◌, ◌≤◌, ℕ}
use native.Mathlib.Omega.{arith}
use lib.Dec.{T}
use mathlib.Core.Bool.{false, true}
use lib.Ieee.{Float, binary64, fin, fits, inf, nan}
use lib.Ieee.Scale.{finite}
use lib.IntN.{pos}
use lib.Pow.{pow_pos}
use Rattle.fraction.specs.DirectedSum.{Downward, Upward}
use Rattle.fraction.specs.NextNumber.{next_down, next_up}
use Rattle.fraction.specs.Order.{le_one, le_two, nonnegative_sum}
use Rattle.fraction.specs.Rational.{◌*q◌, ◌+q◌, ◌-q◌, ◌≤q◌, absolute, at_mostq, negq, ℚ, 𝟘, 𝟙}
use Rattle.fraction.specs.RationalRing.{rational_ring}
use Rattle.fraction.specs.Ring.{◌⊕◌, ◌⊖◌, ◌⊗◌, con, opposite, solve, v0, v1, v2, v3, v4}
use Rattle.fraction.specs.Rounding.{Rounded}
use Rattle.fraction.specs.Value.{BoundsAbove, BoundsBelow, fraction, value}
use Rattle.fraction.proofs.Near.{down_near, least, part, room, rounded_near, up_near}
use Rattle.fraction.proofs.Neighbours.{rounded_lower, rounded_upper}
use Rattle.fraction.proofs.Rational.{absolute_above, absolute_le, rational_order, ≤q-antisymmetric, ≤q-negated, ≤q-trans, ≤q-whole}
use Rattle.fraction.proofs.Value.{finite_bounds_above, finite_bounds_below, fraction_le}
use Rattle.pairs.specs.Spreads.{Number, power_of_two}
use Rattle.pairs.proofs.Numbers.{down_number, lowered, raised, rounded_number, twice, up_number}
use Rattle.estimate.proofs.Nearness.{Size, size_not_negative, size_same, size_sum, size_wider, slack, slack_not_negative, unit, unit_not_negative, whole, whole_order}

-- a scale: from 2^-1000 to 2^200
pub record Scale (P : ℚ) : Type 0 where
  pub floor : fraction (pos 1) (2 ^ 1000) (pow_pos 1000) ≤q P
  pub ceiling : P ≤q power_of_two 200

pub scale_not_negative : (P : ℚ) → Scale P → 𝟘 ≤q P
scale_not_negative P S = ≤q-trans 𝟘 _ P (fraction_le _ _ _ _ _ _ (omega arith)) S.floor

pub one_scale : Scale 𝟙
unfolding at_mostq
one_scale = record { floor = tt; ceiling = tt }

abbrev p : ℚ
p = part binary64

p_not_negative : 𝟘 ≤q p
p_not_negative = fraction_le _ _ _ _ _ _ (omega arith)

-- a part is four units
part_is : p ≡ whole 4 *q unit
unfolding ◌*q◌
part_is = ≤q-antisymmetric _ _ (fraction_le _ _ _ _ _ _ (omega arith)) (fraction_le _ _ _ _ _ _ (omega arith))

-- parts of a small number are at most a 32nd
parts_small : (c : ℕ) → c ≤ 2 ^ 40 → whole c *q p ≤q slack
unfolding ◌*q◌
parts_small c l = fraction_le _ _ _ _ _ _ (omega arith)

least_small : least binary64 ≤q slack *q (unit *q fraction (pos 1) (2 ^ 1000) (pow_pos 1000))
unfolding ◌*q◌ at_mostq
least_small = tt

eleven : whole 11 *q slack ≤q 𝟙
unfolding ◌*q◌ at_mostq
eleven = tt

five_slacks : whole 5 *q slack ≤q 𝟙
unfolding ◌*q◌ at_mostq
five_slacks = tt

slack_small : slack ≤q 𝟙
unfolding at_mostq
slack_small = tt

absolute_not_negative : (x : ℚ) → 𝟘 ≤q absolute x
absolute_not_negative x = size_not_negative (absolute x) x (
  subst (λ (z : ℚ). negq (absolute x) ≤q z) (twice x) (≤q-negated _ _ (absolute_above x).1),
  (absolute_above x).0,
)

powers : whole (2 ^ 30) *q power_of_two 200 ≤q power_of_two 300
unfolding ◌*q◌ at_mostq
powers = tt

-- r is at most 8 k + 1 units of P from z
abbrev pub Rounds : ℚ → ℕ → ℚ → Float → Type 0
Rounds P k z r = T (fits binary64 r) × T (finite r) × Size (whole (8 * k + 1) *q (unit *q P)) (value r -q z)

module _ (P : ℚ) (S : Scale P) (k : ℕ) (small : k < 2 ^ 30) where
  -- z is at most k P and a 32nd of P in size
  abbrev B : ℚ
  B = (whole k +q slack) *q P

  -- a unit of P
  abbrev e : ℚ
  e = unit *q P

  P_not_negative : 𝟘 ≤q P
  P_not_negative = scale_not_negative P S

  e_not_negative : 𝟘 ≤q e
  e_not_negative = rational_order.nonnegative_mul unit P unit_not_negative P_not_negative

  B_not_negative : 𝟘 ≤q B
  B_not_negative = rational_order.nonnegative_mul (whole k +q slack) P
      (nonnegative_sum rational_ring ◌≤q◌ rational_order (whole k) slack (≤q-whole k) slack_not_negative) P_not_negative

  least_in_e : least binary64 ≤q slack *q e
  least_in_e = ≤q-trans _ _ (slack *q e) least_small (le_one rational_ring ◌≤q◌ rational_order (slack ∷ unit
      ∷ fraction (pos 1) (2 ^ 1000) (pow_pos 1000) ∷ P ∷ []) (v0 ⊗ (v1 ⊗ v2)) (v0 ⊗ (v1 ⊗ v3)) (v0 ⊗ v1) v2 v3 tt
      (rational_order.nonnegative_mul slack unit slack_not_negative unit_not_negative) S.floor)

  -- a part of B
  part_of_B : p *q B ≡ whole 4 *q ((whole k +q slack) *q e)
  part_of_B = ap (λ (z : ℚ). z *q B) part_is ∙ solve rational_ring (unit ∷ whole k ∷ slack ∷ P ∷ [])
      (con (pos 4) ⊗ v0 ⊗ ((v1 ⊕ v2) ⊗ v3)) (con (pos 4) ⊗ ((v1 ⊕ v2) ⊗ (v0 ⊗ v3))) tt

  wide : B ≤q power_of_two 300
  wide = ≤q-trans B (whole (2 ^ 30) *q power_of_two 200) (power_of_two 300)
      (≤q-trans B (whole (k + 1) *q P) (whole (2 ^ 30) *q power_of_two 200)
      (subst (λ (z : ℚ). B ≤q z *q P) (sym (rational_ring.of_add (pos k) (pos 1)))
      (le_one rational_ring ◌≤q◌ rational_order (whole k ∷ slack ∷ P ∷ []) ((v0 ⊕ v1) ⊗ v2) ((v0 ⊕ con (pos 1)) ⊗ v2) v2 v1 (con (pos 1)) tt
      P_not_negative slack_small))
      (le_two rational_ring ◌≤q◌ rational_order (whole (k + 1) ∷ P ∷ whole (2 ^ 30) ∷ power_of_two 200 ∷ []) (v0 ⊗ v1) (v2 ⊗ v3) v1 v0 v2 v2 v1
      v3 tt P_not_negative (whole_order (k + 1) (2 ^ 30) (omega arith)) (≤q-whole (2 ^ 30)) S.ceiling)) powers

  -- the first rounding costs at most this
  abbrev first : ℚ
  first = whole 4 *q ((whole k +q slack) *q e) +q slack *q e

  module _ (z : ℚ) (Z : Size B z) (r : Float) (R : Rounded binary64 r z) where
    pub rounded_size : Number 300 r
    rounded_size = rounded_number 300 (omega arith) r z R (size_wider B (power_of_two 300) z wide Z).0 (size_wider B (power_of_two 300) z
        wide Z).1

    r_finite : T (finite r)
    r_finite = rounded_size.is_finite

    first_room : room binary64 z ≤q first
    first_room = subst (λ (y : ℚ). room binary64 z ≤q y +q slack *q e) part_of_B
        (le_two rational_ring ◌≤q◌ rational_order (p ∷ absolute z ∷ least binary64 ∷ B ∷ (slack *q e) ∷ []) (v0 ⊗ v1 ⊕ v2) (v0 ⊗ v3 ⊕ v4) v0
        v1 v3 (con (pos 1)) v2 v4 tt p_not_negative (absolute_le z B Z.0 Z.1) (≤q-whole 1) least_in_e)

    near : Size first (value r -q z)
    near = let n = rounded_near binary64 r z R r_finite in (
      le_two rational_ring ◌≤q◌ rational_order (value r ∷ z ∷ room binary64 z ∷ first ∷ []) (opposite v3) (v0 ⊖ v1) (con (pos 1)) v1 (v0 ⊕ v2)
          (con (pos 1)) v2 v3 tt (≤q-whole 1) n.1 (≤q-whole 1) first_room,
      le_two rational_ring ◌≤q◌ rational_order (value r ∷ z ∷ room binary64 z ∷ first ∷ []) (v0 ⊖ v1) v3 (con (pos 1)) v0 (v1 ⊕ v2)
          (con (pos 1)) v2 v3 tt (≤q-whole 1) n.0 (≤q-whole 1) first_room,
    )

    r_size : Size (B +q first) (value r)
    r_size = size_same _ _ _ _ refl (solve rational_ring (z ∷ value r ∷ []) (v0 ⊕ (v1 ⊖ v0)) v1 tt) (size_sum _ _ _ _ Z near)

    -- a part of what the first rounding costs is next to nothing
    part_of_first : p *q first ≤q slack *q e
    part_of_first = ≤q-trans _ (whole (4 * k + 1) *q p *q e) _
        (subst (λ (y : ℚ). p *q first ≤q y *q p *q e) (sym counts)
        (le_one rational_ring ◌≤q◌ rational_order (p ∷ whole k ∷ slack ∷ e ∷ []) (v0 ⊗ (con (pos 4) ⊗ ((v1 ⊕ v2) ⊗ v3) ⊕ v2 ⊗ v3))
        ((con (pos 4) ⊗ v1 ⊕ con (pos 1)) ⊗ v0 ⊗ v3) (v0 ⊗ v3) (con (pos 5) ⊗ v2) (con (pos 1)) tt
        (rational_order.nonnegative_mul p e p_not_negative e_not_negative) five_slacks))
        (le_one rational_ring ◌≤q◌ rational_order ((whole (4 * k + 1) *q p) ∷ slack ∷ e ∷ []) (v0 ⊗ v2) (v1 ⊗ v2) v2 v0 v1 tt e_not_negative
        (parts_small (4 * k + 1) (omega arith)))
      where
        counts : whole (4 * k + 1) ≡ whole 4 *q whole k +q 𝟙
        counts = rational_ring.of_add (pos (4 * k)) (pos 1) ∙ ap (λ (y : ℚ). y +q 𝟙) (rational_ring.of_mul (pos 4) (pos k))

    -- the step to the next number
    abbrev second : ℚ
    second = whole 4 *q ((whole k +q slack) *q e) +q slack *q e +q slack *q e

    second_room : room binary64 (value r) ≤q second
    second_room = subst (λ (y : ℚ). room binary64 (value r) ≤q y +q slack *q e +q slack *q e) part_of_B
        (≤q-trans _ (p *q (B +q first) +q slack *q e) _
        (le_two rational_ring ◌≤q◌ rational_order (p ∷ absolute (value r) ∷ least binary64 ∷ (B +q first) ∷ (slack *q e) ∷ []) (v0 ⊗ v1 ⊕ v2)
        (v0 ⊗ v3 ⊕ v4) v0 v1 v3 (con (pos 1)) v2 v4 tt p_not_negative (absolute_le (value r) (B +q first) r_size.0 r_size.1)
        (≤q-whole 1) least_in_e)
        (le_one rational_ring ◌≤q◌ rational_order (p ∷ B ∷ first ∷ (slack *q e) ∷ []) (v0 ⊗ (v1 ⊕ v2) ⊕ v3) (v0 ⊗ v1 ⊕ v3 ⊕ v3) (con (pos 1))
        (v0 ⊗ v2) v3 tt (≤q-whole 1) part_of_first))

    -- both together
    both : first +q second ≤q whole (8 * k + 1) *q e
    both = subst (λ (y : ℚ). first +q second ≤q y *q e) (sym counts)
        (le_one rational_ring ◌≤q◌ rational_order (whole k ∷ slack ∷ e ∷ [])
        (con (pos 4) ⊗ ((v0 ⊕ v1) ⊗ v2) ⊕ v1 ⊗ v2 ⊕ (con (pos 4) ⊗ ((v0 ⊕ v1) ⊗ v2) ⊕ v1 ⊗ v2 ⊕ v1 ⊗ v2))
        ((con (pos 8) ⊗ v0 ⊕ con (pos 1)) ⊗ v2) v2 (con (pos 11) ⊗ v1) (con (pos 1)) tt e_not_negative eleven)
      where
        counts : whole (8 * k + 1) ≡ whole 8 *q whole k +q 𝟙
        counts = rational_ring.of_add (pos (8 * k)) (pos 1) ∙ ap (λ (y : ℚ). y +q 𝟙) (rational_ring.of_mul (pos 8) (pos k))

    second_not_negative : 𝟘 ≤q second
    second_not_negative = ≤q-trans 𝟘 (room binary64 (value r)) second
        (nonnegative_sum rational_ring ◌≤q◌ rational_order (p *q absolute (value r)) (least binary64)
        (rational_order.nonnegative_mul p (absolute (value r)) p_not_negative (absolute_not_negative (value r)))
        (fraction_le _ _ _ _ _ _ (omega arith))) second_room

    alone : Size (first +q second) (value r -q z)
    alone = size_wider _ _ _ (le_one rational_ring ◌≤q◌ rational_order (first ∷ second ∷ []) v0 (v0 ⊕ v1) (con (pos 1)) (con (pos 0)) v1 tt
        (≤q-whole 1) second_not_negative) near

    pub nearest_rounds : Rounds P k z r
    nearest_rounds = (rounded_size.is_double, r_finite, size_wider _ _ _ both alone)

    more : (y : ℚ) → y +q room binary64 (value r) ≤q y +q second
    more y = le_one rational_ring ◌≤q◌ rational_order (y ∷ room binary64 (value r) ∷ second ∷ []) (v0 ⊕ v1) (v0 ⊕ v2) (con (pos 1)) v1 v2 tt
        (≤q-whole 1) second_room

    -- the next number up
    up_size : Size (first +q second) (value (next_up binary64 r) -q z)
    up_size =
        let u = next_up binary64 r in
        let U = up_number 300 (omega arith) r rounded_size in (
          le_two rational_ring ◌≤q◌ rational_order (value u ∷ value r ∷ z ∷ (first +q second) ∷ []) (opposite v3) (v0 ⊖ v2) (con (pos 1)) v1
              v0
              (con (pos 1)) (opposite v3) (v1 ⊖ v2) tt (≤q-whole 1) (raised 300 (omega arith) r rounded_size) (≤q-whole 1) alone.0,
          le_two rational_ring ◌≤q◌ rational_order (value u ∷ value r ∷ z ∷ first ∷ second ∷ []) (v0 ⊖ v2) (v3 ⊕ v4) (con (pos 1)) v0 (v1 ⊕
              v4)
              (con (pos 1)) (v1 ⊖ v2) v3 tt (≤q-whole 1) (≤q-trans _ _ _ (up_near binary64 r rounded_size.is_double r_finite
              U.is_finite) (more (value r))) (≤q-whole 1) near.1,
        )

    pub up_rounds : Rounds P k z (next_up binary64 r)
    up_rounds =
        let U = up_number 300 (omega arith) r rounded_size in (U.is_double, U.is_finite, size_wider _ _ _ both up_size)

    -- the next number down
    down_size : Size (first +q second) (value (next_down binary64 r) -q z)
    down_size =
        let u = next_down binary64 r in
        let U = down_number 300 (omega arith) r rounded_size in (
          le_two rational_ring ◌≤q◌ rational_order (value u ∷ value r ∷ z ∷ first ∷ second ∷ []) (opposite (v3 ⊕ v4)) (v0 ⊖ v2) (con (pos
              1)) v1
              (v0 ⊕ v4) (con (pos 1)) (opposite v3) (v1 ⊖ v2) tt (≤q-whole 1) (≤q-trans _ _ _ (down_near binary64 r
              rounded_size.is_double r_finite U.is_finite) (more (value u))) (≤q-whole 1) near.0,
          le_two rational_ring ◌≤q◌ rational_order (value u ∷ value r ∷ z ∷ (first +q second) ∷ []) (v0 ⊖ v2) v3 (con (pos 1)) v0 v1
              (con (pos 1)) (v1 ⊖ v2) v3 tt (≤q-whole 1) (lowered 300 (omega arith) r rounded_size) (≤q-whole 1) alone.1,
        )

    pub down_rounds : Rounds P k z (next_down binary64 r)
    down_rounds =
        let U = down_number 300 (omega arith) r rounded_size in (U.is_double, U.is_finite, size_wider _ _ _ both down_size)

    -- sums rounded upward and downward
    between_rounds : (c d w : Float) → Rounds P k z c → Rounds P k z d → T (fits binary64 w) → T (finite w) → value c ≤q value w
        → value w ≤q value d → Rounds P k z w
    between_rounds c d w C D F W h k = (
      F,
      W,
      (
        ≤q-trans _ (value c -q z) (value w -q z) C.2.0 (less (value c) (value w) h),
        ≤q-trans (value w -q z) (value d -q z) _ (less (value w) (value d) k) D.2.1,
      ),
    )
      where
        less : (x y : ℚ) → x ≤q y → x -q z ≤q y -q z
        less x y h = le_one rational_ring ◌≤q◌ rational_order (x ∷ y ∷ z ∷ []) (v0 ⊖ v2) (v1 ⊖ v2) (con (pos 1)) v0 v1 tt (≤q-whole 1) h

    pub upward_rounds : (w : Float) → Upward binary64 z w → Rounds P k z w
    upward_rounds w W = go w W.of_format W.not_below (W.smallest (next_up binary64 r) up_rounds.0 up_rounds.1
        (finite_bounds_above (next_up binary64 r) z up_rounds.1 (rounded_upper binary64 r z R r_finite)))
      where
        lower : value (next_down binary64 r) ≤q z
        lower = finite_bounds_below (next_down binary64 r) z down_rounds.1 (rounded_lower binary64 r z R r_finite)

        go : (w : Float) → T (fits binary64 w) → BoundsAbove w z → BoundsBelow w (value (next_up binary64 r)) → Rounds P k z w
        go nan F b s = absurd b
        go (inf true) F b s = absurd b
        go (inf false) F b s = absurd s
        go (fin t m e) F b s = between_rounds (next_down binary64 r) (next_up binary64 r) (fin t m e) down_rounds up_rounds F tt
            (≤q-trans _ z _ lower b) s

    pub downward_rounds : (w : Float) → Downward binary64 z w → Rounds P k z w
    downward_rounds w W = go w W.of_format W.not_above (W.largest (next_down binary64 r) down_rounds.0 down_rounds.1
        (finite_bounds_below (next_down binary64 r) z down_rounds.1 (rounded_lower binary64 r z R r_finite)))
      where
        upper : z ≤q value (next_up binary64 r)
        upper = finite_bounds_above (next_up binary64 r) z up_rounds.1 (rounded_upper binary64 r z R r_finite)

        go : (w : Float) → T (fits binary64 w) → BoundsBelow w z → BoundsAbove w (value (next_down binary64 r)) → Rounds P k z w
        go nan F b s = absurd b
        go (inf true) F b s = absurd s
        go (inf false) F b s = absurd b
        go (fin t m e) F b s = between_rounds (next_down binary64 r) (next_up binary64 r) (fin t m e) down_rounds up_rounds F tt s
            (≤q-trans _ z _ b upper)
