-- On knots that never fall, the span found holds the parameter, and at the right end it is the last span: for any arithmetic whose order is
-- transitive, and for `f64`, where no NaN can be among such knots.
use mathlib.Core.Path.{◌≡◌}
use mathlib.Core.Bool.{Bool, true, false}
use mathlib.Core.List.{List}
use Prim.Native.Nat.{ℕ, ◌+◌, ◌-◌, ◌≤◌, ◌<◌}
use native.Mathlib.Omega.{arith}
use native.Mathlib.Decide.{dec_lt}
use lib.ListN.{length, get_or}
use lib.Ieee.{Float, nan, le, lt}
use Rattle.arith.specs.Operations.{Arith, floats}
use Rattle.bspline.specs.Search.{partition_point, span_of}
use Rattle.bspline.proofs.PartitionPoint.{all_before, none_from}
use Rattle.arith.proofs.FloatOrder.{le_trans, le_self, lt_of_not_le}

module _ {A : Type 0} (o : Arith A) (t : List A) (m : ℕ) (x : A) (six : 5 < m) (long : m < length t)
    (transitive : (a b c : A) → o.at_most a b ≡ true → o.at_most b c ≡ true → o.at_most a c ≡ true)
    (rises : (i : ℕ) → i + 1 < length t → o.at_most (get_or t i o.outside) (get_or t (i + 1) o.outside) ≡ true) where
  abbrev at_or_below : A → Bool
  at_or_below v = o.at_most v x

  abbrev knot : ℕ → A
  knot i = get_or t i o.outside

  falls : (i : ℕ) → i + 1 < length t → at_or_below (knot (i + 1)) ≡ true → at_or_below (knot i) ≡ true
  falls i h g = transitive (knot i) (knot (i + 1)) x (rises i h) g

  abbrev point : ℕ
  point = partition_point o.outside at_or_below t

  -- a knot at or below x lies before the partition point, and one that is not, does not
  before : (i : ℕ) → i < length t → at_or_below (knot i) ≡ true → i < point
  before i h e = elim (dec_lt i point) [
    | yes l ↦ l
    | no l ↦
        let f = none_from o.outside at_or_below t falls i (omega arith) h in
        let z : ◌≡◌ {A = ℕ} 0 1 = cc in absurd (omega arith)
  ]

  after : (i : ℕ) → at_or_below (knot i) ≡ false → point ≤ i
  after i e = elim (dec_lt i point) [
    | yes l ↦
        let f = all_before o.outside at_or_below t falls i l in
        let z : ◌≡◌ {A = ℕ} 0 1 = cc in absurd (omega arith)
    | no l ↦ omega arith
  ]

  -- between the end knots
  pub span_holds : at_or_below (knot 5) ≡ true → at_or_below (knot m) ≡ false
      → (5 ≤ span_of o t m x) × (span_of o t m x < m) × (at_or_below (knot (span_of o t m x)) ≡ true)
      × (at_or_below (knot (span_of o t m x + 1)) ≡ false)
  span_holds low high =
      let a = before 5 (omega arith) low in
      let b = after m high in
      let e : span_of o t m x ≡ point - 1 = omega arith in
      let g : point - 1 + 1 ≡ point = omega arith in
      rw (e, g) (
        omega arith,
        omega arith,
        all_before o.outside at_or_below t falls (point - 1) (omega arith),
        none_from o.outside
            at_or_below t falls point (omega arith) (omega arith),
      )

  -- at the last knot, and beyond
  pub span_last : at_or_below (knot m) ≡ true → span_of o t m x ≡ m - 1
  span_last h = let a = before m long h in omega arith

-- knots of `f64`: t[span] <= x < t[span + 1] between the end knots, and the span at the right end, where the knots are 1, is the last
module _ (t : List Float) (m : ℕ) (x : Float) (six : 5 < m) (long : m < length t)
    (rises : (i : ℕ) → i + 1 < length t → le (get_or t i nan) (get_or t (i + 1) nan) ≡ true) where
  pub span_holds_float : le (get_or t 5 nan) x ≡ true → le (get_or t m nan) x ≡ false
      → (le (get_or t (span_of floats t m x) nan) x ≡ true) × (lt x (get_or t (span_of floats t m x + 1) nan) ≡ true)
  span_holds_float low high =
      let f = span_holds floats t m x six long le_trans rises low high in
      let k = span_of floats t m x in
      let inside : k + 1 < length t = omega (arith, f.1) in (
        f.2,
        lt_of_not_le (get_or t (k + 1) nan) x (le_self (get_or t k nan) (get_or t (k + 1) nan) (rises k inside)).1
            (le_self (get_or t 5 nan) x low).1 f.3,
      )

  pub span_last_float : le (get_or t m nan) x ≡ true → span_of floats t m x ≡ m - 1
  span_last_float h = span_last floats t m x six long le_trans rises h
