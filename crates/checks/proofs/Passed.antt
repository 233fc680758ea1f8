-- The refusals 1 to 7 and 26 of a lane: 6 and 7 are asked where none of the others holds; and what holds of a lane that those let through.
use mathlib.Core.Path.{◌≡◌, refl}
use mathlib.Core.Bool.{Bool, true, false, cond}
use Prim.Native.Nat.{ℕ, ◌+◌, ◌≤◌, ◌<◌}
use native.Mathlib.Omega.{arith}
use borrow.Author.Tests.{not-false, eqb-true}
use lib.Dec.{eqb}
use lib.ListN.{length, get_or}
use Rattle.arith.proofs.Truth.{or_none}
use Rattle.request.specs.declared.parameters.Spacing.TheVariants.{Listed}
use Rattle.request.specs.Parameters.{misplaced}
use Rattle.request.specs.Points.{unfit}
use Rattle.request.proofs.Counts.{listed_count, waypoint_count}
use Rattle.smoothing.specs.Request.{Lane, axis_count, smoothed_axes, lane_parameters, tolerance_list}
use Rattle.smoothing.specs.Rows.{task_of, lane_task, other_axes}
use Rattle.smoothing.specs.Checks.{no_axes, bad_axes, bad_tolerance, too_fine, refusal_of}
use Rattle.smoothing.proofs.Passed.{passed, good_axes, all_axes}
use Rattle.checks.specs.declared.Refusal.{Refusal}
use Rattle.checks.specs.declared.Refusal.TheVariants.{BadPoints, NoAxes, BadAxes, BadTolerance, BadParameters, BadRange, Overflow, AboveDomain, ShortSlice, PointCells, ToleranceTooFine}
use Rattle.checks.specs.Checks.{refusal_number, refusal_before, refusal_after}

pub refusal_after_law : (l : Lane)
    → refusal_of l ≡ cond (eqb (refusal_before l) 0) (refusal_after (lane_parameters l) (lane_task l)) (refusal_before l)
unfolding refusal_of refusal_before lane_task task_of
refusal_after_law l =
    go (unfit l.d l.n l.points) (no_axes l) (bad_axes l) (bad_tolerance l) (too_fine l)
    (misplaced (lane_parameters l) l.n) (refusal_after (lane_parameters l) (lane_task l))
  where
    go : (a b c d t e : Bool) (x : ℕ) → let first : ℕ → ℕ = λ y. cond a 1 (cond b 2 (cond c 3 (cond d 4 (cond t 26 (cond e 5 y))))) in
        first x ≡ cond (eqb (first 0) 0) x (first 0)
    go true b c d t e x = refl
    go false true c d t e x = refl
    go false false true d t e x = refl
    go false false false true t e x = refl
    go false false false false true e x = refl
    go false false false false false true x = refl
    go false false false false false false x = refl

-- where 4 does not hold, there is one tolerance for each axis
pub one_each : (l : Lane) → bad_tolerance l ≡ false → length (tolerance_list l) ≡ axis_count l
unfolding bad_tolerance
one_each l h = eqb-true _ _ (not-false (eqb (length (tolerance_list l)) (axis_count l)) (or_none _ _ h).0)

module _ (l : Lane) (h : refusal_before l ≡ 0) where
  record Before : Type 0 where
    points : unfit l.d l.n l.points ≡ false
    axes : bad_axes l ≡ false
    tolerance : bad_tolerance l ≡ false
    placed : misplaced (lane_parameters l) l.n ≡ false

  before : Before
  unfolding refusal_before
  before =
      let b = passed (unfit l.d l.n l.points) 1 _ (omega arith) h in
      let c = passed (no_axes l) 2 _ (omega arith) b.1 in
      let d = passed (bad_axes l) 3 _ (omega arith) c.1 in
      let e = passed (bad_tolerance l) 4 _ (omega arith) d.1 in
      let t = passed (too_fine l) 26 _ (omega arith) e.1 in
      let f = passed (misplaced (lane_parameters l) l.n) 5 0 (omega arith) t.1 in
      record { points = b.0; axes = d.0; tolerance = e.0; placed = f.0 }

  pub two_waypoints : 2 ≤ l.n
  two_waypoints = waypoint_count l.d l.n l.points before.points

  pub axes_below : (i : ℕ) → i < axis_count l → get_or (smoothed_axes l) i 0 < l.d
  axes_below i g = (good_axes l before.axes i g).0

  pub axes_count : length (other_axes l) + axis_count l ≡ l.d
  axes_count = all_axes l before.axes

  pub tolerances_count : length (tolerance_list l) ≡ axis_count l
  tolerances_count = one_each l before.tolerance

  pub listed_long : l.spacing ≡ Listed → l.n ≤ length l.parameters
  listed_long e =
      omega (arith, listed_count l.spacing l.parameters l.points l.d l.n before.placed e)

-- the numbers of the refusals: those of document 01 but 14, and 26
pub refusal_known : (r : Refusal) → (1 ≤ refusal_number r) × (refusal_number r ≡ 14 → ⊥) × (20 < refusal_number r → refusal_number r ≡ 26)
refusal_known BadPoints = (omega arith, λ z. omega arith, λ z. omega arith)
refusal_known NoAxes = (omega arith, λ z. omega arith, λ z. omega arith)
refusal_known BadAxes = (omega arith, λ z. omega arith, λ z. omega arith)
refusal_known BadTolerance = (omega arith, λ z. omega arith, λ z. omega arith)
refusal_known BadParameters = (omega arith, λ z. omega arith, λ z. omega arith)
refusal_known BadRange = (omega arith, λ z. omega arith, λ z. omega arith)
refusal_known Overflow = (omega arith, λ z. omega arith, λ z. omega arith)
refusal_known AboveDomain = (omega arith, λ z. omega arith, λ z. omega arith)
refusal_known ShortSlice = (omega arith, λ z. omega arith, λ z. omega arith)
refusal_known PointCells = (omega arith, λ z. omega arith, λ z. omega arith)
refusal_known ToleranceTooFine = (omega arith, λ z. omega arith, λ z. omega arith)
