-- What the checks 18, 20 and 19 let through.
use mathlib.Core.Path.{◌≡◌}
use mathlib.Core.Bool.{false, ◌||◌}
use Prim.Native.Nat.{◌+◌, ◌*◌, ◌≤◌, max}
use native.Mathlib.Omega.{arith}
use borrow.Author.Tests.{ltb-false, eqb-true, not-false}
use lib.Dec.{eqb}
use lib.ListN.{length}
use Rattle.arith.proofs.Truth.{or_none}
use Rattle.smoothing.specs.Request.{Lane, Limits}
use Rattle.smoothing.specs.Checks.{wide_lane, wide_limits, miscounted_points, Room, short_room}
use Rattle.smoothing.proofs.Passed.{passed}
use Rattle.checks.specs.Checks.{refusal_first}

-- what 18 lets through
pub in_domain : (l : Lane) (m : Limits) → (wide_lane l || wide_limits m) ≡ false
    → (l.d ≤ 16) × (l.n ≤ 20000) × (m.segments ≤ 20000) × (m.refinements ≤ 200)
unfolding wide_lane wide_limits
in_domain l m e =
    let a = or_none _ _ e in
    let b = or_none _ _ a.0 in
    let c = or_none _ _ a.1 in
    (ltb-false _ _ b.0, ltb-false _ _ b.1, ltb-false _ _ c.0, ltb-false _ _ c.1)

-- what 19 lets through
pub has_room : (room : Room) (l : Lane) (m : Limits) → short_room room l m ≡ false
    → ((max l.n m.segments + 16) * (16 * l.d + 32) ≤ room.work) × (m.segments + 1 ≤ room.breaks)
    × (m.segments * (6 * l.d) + m.segments ≤ room.coefficients)
    × (l.n ≤ room.other_breaks) × (l.n * (6 * l.d) + l.n ≤ room.other_coefficients) × (l.d ≤ room.errors)
unfolding short_room
has_room room l m e =
    let a = or_none _ _ e in
    let b = or_none _ _ a.0 in
    let c = or_none _ _ b.0 in
    let f = or_none _ _ c.0 in
    let g = or_none _ _ f.0 in
    (ltb-false _ _ g.0, ltb-false _ _ g.1, ltb-false _ _ f.1, ltb-false _ _ c.1, ltb-false _ _ b.1, ltb-false _ _ a.1)

-- where none of the three holds
pub record Sized (room : Room) (l : Lane) (m : Limits) : Type 0 where
  pub narrow : (wide_lane l || wide_limits m) ≡ false
  pub counted : miscounted_points l ≡ false
  pub roomy : short_room room l m ≡ false

pub sized : (room : Room) (l : Lane) (m : Limits) → refusal_first room l m ≡ 0 → Sized room l m
unfolding refusal_first
sized room l m h =
    let a = passed (wide_lane l || wide_limits m) 18 _ (omega arith) h in
    let b = passed (miscounted_points l) 20 _ (omega arith) a.1 in
    let c = passed (short_room room l m) 19 0 (omega arith) b.1 in
    record { narrow = a.0; counted = b.0; roomy = c.0 }

pub points_are : (l : Lane) → miscounted_points l ≡ false → length l.points ≡ l.d * l.n
unfolding miscounted_points
points_are l h = eqb-true _ _ (not-false (eqb (length l.points) (l.d * l.n)) h)
