-- Which derivatives a query gets (document 02, request 2): from start to end, both included, the curve's own; outside, under Clamp, +0.
use mathlib.Core.Path.{◌≡◌, ap}
use mathlib.Core.Bool.{true, false}
use lib.Ieee.{Float, lt, le}
use Rattle.std.specs.Prelude.{Option, Some, unwrap_or}
use Rattle.query.specs.declared.range.Ranged.{Ranged}
use Rattle.arith.proofs.FloatOrder.{le_self, le_not_lt}
use Rattle.window.specs.Cells.{+0}
use Rattle.window.specs.Rows.{list_of}
use Rattle.curve.specs.declared.Curve.{Curve}
use Rattle.curve.specs.declared.Mode.TheVariants.{Clamp}
use Rattle.curve.specs.Form.{Slices}
use Rattle.curve.proofs.Order.{le_number}
use Rattle.query.specs.declared.segment.Derivatives.{Derivatives}
use Rattle.query.specs.Range.{beyond_of, within, ranged_of, answered_at}
use Rattle.query.specs.Row.{standing}
use Rattle.query.specs.Query.{axis_derivatives, column_of}

module _ (c : Curve) (x : Float) where
  -- a parameter that is not outside, in either mode
  pub inside_within : le c.start x ≡ true → le x c.end ≡ true → ranged_of c x ≡ Some (within x)
  unfolding ranged_of
  inside_within a b = rw (le_not_lt c.start x a, le_not_lt x c.end b, le_number x (le_self x c.end b).0)

  pub below_start : c.mode ≡ Clamp → lt x c.start ≡ true → ranged_of c x ≡ beyond_of Clamp c.start
  unfolding ranged_of
  below_start m l = rw (l, m)

  pub above_end : c.mode ≡ Clamp → lt x c.start ≡ false → lt c.end x ≡ true → ranged_of c x ≡ beyond_of Clamp c.end
  unfolding ranged_of
  above_end m n l = rw (n, l, m)

-- "at start and end themselves the curve's own derivatives remain"
pub ends_within : (c : Curve) → le c.start c.end ≡ true → (ranged_of c c.start ≡ Some (within c.start)) × (ranged_of c c.end ≡ Some (within c.end))
ends_within c l =
    let s = le_self c.start c.end l in (inside_within c c.start s.0 l, inside_within c c.end l s.1)

module _ (c : Curve) (s : Slices) (x : Float) where
  -- from start to end every order is the source's at x
  pub inside_own : (part : Derivatives → Float) → ranged_of c x ≡ Some (within x)
      → column_of part c s (answered_at c x) ≡ list_of c.d (λ a. part (axis_derivatives c s x a))
  unfolding standing
  inside_own part e = ap (λ (r : Option Ranged). column_of part c s (unwrap_or r (within x))) e

  module _ (end : Float) (e : ranged_of c x ≡ beyond_of Clamp end) where
    -- "Outside start to end, Clamp keeps the end's value"
    pub outside_value : column_of (λ v. v.value) c s (answered_at c x) ≡ list_of c.d (λ a. (axis_derivatives c s end a).value)
    unfolding standing
    outside_value = ap (λ (r : Option Ranged). column_of (λ v. v.value) c s (unwrap_or r (within x))) e

    -- "and gives +0 for derivatives one to three"
    pub outside_first : column_of (λ v. v.first) c s (answered_at c x) ≡ list_of c.d (λ a. +0)
    unfolding standing
    outside_first = ap (λ (r : Option Ranged). column_of (λ v. v.first) c s (unwrap_or r (within x))) e

    pub outside_second : column_of (λ v. v.second) c s (answered_at c x) ≡ list_of c.d (λ a. +0)
    unfolding standing
    outside_second = ap (λ (r : Option Ranged). column_of (λ v. v.second) c s (unwrap_or r (within x))) e

    pub outside_third : column_of (λ v. v.third) c s (answered_at c x) ≡ list_of c.d (λ a. +0)
    unfolding standing
    outside_third = ap (λ (r : Option Ranged). column_of (λ v. v.third) c s (unwrap_or r (within x))) e
