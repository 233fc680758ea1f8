-- A lane that passes the checks 1 to 7 and 26: what they say, how many axes are left over, and the cells of its task.
use Rattle.std.proofs.Common.{◌≡◌, ℕ, zero, suc, ◌+◌, ◌*◌, ◌<◌, ◌≤◌, Bool, true, false, cond, not, T, ltb, List, [], ◌∷◌, length, get_or, sym, refl, ap, ◌∙◌, subst, arith, length-append}
use native.Mathlib.Decide.{dec_lt}
use borrow.Author.Tests.{not-false}
use lib.ListN.{get_or-eq_default}
use lib.Ieee.{Float, nan, binary64, fits, lt, of_bits}
use lib.Ieee.Fits.{div-fits}
use lib.Ieee.Scale.{finite}
use Rattle.arith.specs.Operations.{floats}
use Rattle.arith.proofs.Rows.{row_end}
use Rattle.window.specs.Cells.{at, Doubles}
use Rattle.window.proofs.Joined.{list_at, list_length, table_length}
use Rattle.curve.specs.Form.{axes_formed}
use Rattle.curve.specs.Places.{position_of, others_below}
use Rattle.curve.proofs.Formed.{axes_good}
use Rattle.curve.proofs.Placing.{others_count}
use Rattle.seed.specs.Corridor.{coordinate}
use Rattle.request.specs.Parameters.{normalised_of, misplaced, unreliable}
use Rattle.request.specs.Points.{unfit}
use Rattle.request.proofs.Anys.{any_none}
use Rattle.request.proofs.Counts.{waypoint_count}
use Rattle.request.proofs.Spaced.{spaced_doubles}
use Rattle.request.proofs.ZeroToOne.{normalised_to_one}
use Rattle.smoothing.specs.Request.{Lane, axis_count, smoothed_axes, lane_parameters}
use Rattle.smoothing.specs.Checks.{overflows, no_axes, bad_axes, bad_tolerance, too_fine, refusal_of}
use Rattle.smoothing.specs.Rows.{task_of, lane_task, lane_units, parameters_of, centred, left_over, other_axes}

-- a chain of tests that comes to 0 has none that holds
pub passed : (b : Bool) (k m : ℕ) → 0 < k → cond b k m ≡ 0 → (b ≡ false) × (m ≡ 0)
passed true k m h e = absurd (omega arith)
passed false k m h e = (refl, e)

-- 1 to 7 and 26 of a lane that passes
pub record Passed (l : Lane) : Type 0 where
  pub points : unfit l.d l.n l.points ≡ false
  pub some_axes : no_axes l ≡ false
  pub axes : bad_axes l ≡ false
  pub tolerance : bad_tolerance l ≡ false
  pub coarse : too_fine l ≡ false
  pub placed : misplaced (lane_parameters l) l.n ≡ false
  pub reliable : unreliable (lane_parameters l) l.n ≡ false
  pub carried : overflows (lane_task l) ≡ false

pub lane_passed : (l : Lane) → refusal_of l ≡ 0 → Passed l
unfolding refusal_of
lane_passed l h =
    let b = passed (unfit l.d l.n l.points) 1 _ (omega arith) h in
    let c = passed (no_axes l) 2 _ (omega arith) b.1 in
    let d = passed (bad_axes l) 3 _ (omega arith) c.1 in
    let e = passed (bad_tolerance l) 4 _ (omega arith) d.1 in
    let t = passed (too_fine l) 26 _ (omega arith) e.1 in
    let f = passed (misplaced (lane_parameters l) l.n) 5 _ (omega arith) t.1 in
    let g = passed (unreliable (lane_parameters l) l.n) 6 _ (omega arith) f.1 in
    let o = passed (overflows (lane_task l)) 7 0 (omega arith) g.1 in
    record {
      points = b.0;
      some_axes = c.0;
      axes = d.0;
      tolerance = e.0;
      coarse = t.0;
      placed = f.0;
      reliable = g.0;
      carried = o.0;
    }

pub two_waypoints : (l : Lane) → refusal_of l ≡ 0 → 2 ≤ l.n
two_waypoints l h = waypoint_count l.d l.n l.points (lane_passed l h).points

-- ---- the axes
-- the axes left over are those that `curve` counts
left_over_count : (axes : List ℕ) (a : ℕ) → length (left_over axes a) ≡ others_below axes (length axes) a
unfolding left_over others_below
left_over_count axes zero = refl
left_over_count axes (suc a) =
    length-append (left_over axes a) _ ∙ go (ltb (position_of axes (length axes) a) (length axes)) (left_over_count axes a)
  where
    go : (b : Bool) → length (left_over axes a) ≡ others_below axes (length axes) a
        → length (left_over axes a) + length (cond b [] (a ∷ [])) ≡ others_below axes (length axes) a + cond b 0 1
    go true e = omega arith
    go false e = omega arith

-- where 3 does not hold, each axis is below d and is listed once
pub good_axes : (l : Lane) → bad_axes l ≡ false → (i : ℕ) → i < axis_count l
    → (get_or (smoothed_axes l) i 0 < l.d) × (position_of (smoothed_axes l) i (get_or (smoothed_axes l) i 0) ≡ i)
unfolding bad_axes
good_axes l h = axes_good (smoothed_axes l) (axis_count l) l.d (not-false (axes_formed (smoothed_axes l) (axis_count l) l.d) h)

pub all_axes : (l : Lane) → bad_axes l ≡ false → length (other_axes l) + axis_count l ≡ l.d
all_axes l h =
    omega (arith, left_over_count (smoothed_axes l) l.d, others_count (smoothed_axes l) (axis_count l) l.d (good_axes l h))

pub axes_count : (l : Lane) → refusal_of l ≡ 0 → length (other_axes l) + axis_count l ≡ l.d
axes_count l h = all_axes l (lane_passed l h).axes

-- ---- the parameters
-- they are f64s, as those listed are
pub lane_doubles : (l : Lane) → Doubles l.parameters → Doubles (lane_parameters l)
lane_doubles l F = spaced_doubles l.spacing l.parameters l.points l.d l.n F

-- ---- the parameters of the task
pub parameters_length : (l : Lane) → length (lane_task l).s ≡ l.n
unfolding lane_task lane_units task_of parameters_of
parameters_length l = list_length l.n _

pub parameter_at : (l : Lane) (i : ℕ) → i < l.n → at (lane_task l).s i ≡ normalised_of (lane_parameters l) l.n i
unfolding lane_task lane_units task_of parameters_of
parameter_at l i h = list_at l.n (normalised_of (lane_parameters l) l.n) nan i h

-- past the last waypoint there is no parameter
parameter_past : (l : Lane) (i : ℕ) → l.n ≤ i → at (lane_task l).s i ≡ nan
unfolding lane_task lane_units task_of parameters_of
parameter_past l i h =
    get_or-eq_default (parameters_of l) nan (omega (arith, list_length l.n (normalised_of (lane_parameters l) l.n)))

-- the normalised parameters are f64s
pub parameters_held : (l : Lane) → Doubles (lane_task l).s
unfolding normalised_of fits
parameters_held l i = elim (dec_lt i l.n) [
  | yes h ↦ subst (λ (x : Float). T (fits binary64 x)) (sym (parameter_at l i h)) (div-fits binary64 _ _)
  | no h ↦ subst (λ (x : Float). T (fits binary64 x)) (sym (parameter_past l i (omega arith))) tt
]

-- and none of a lane that passes the checks lies above 1
pub parameters_below : (l : Lane) → Doubles l.parameters → refusal_of l ≡ 0 → (i : ℕ) → lt floats.one (at (lane_task l).s i) ≡ false
unfolding lt of_bits
parameters_below l F h i =
    let k = lane_passed l h in
    elim (dec_lt i l.n) [
      | yes b ↦
          ap (λ (x : Float). lt floats.one x) (parameter_at l i b)
          ∙ normalised_to_one (lane_parameters l) l.n (two_waypoints l h) (lane_doubles l F) k.placed k.reliable i b
      | no b ↦ ap (λ (x : Float). lt floats.one x) (parameter_past l i (omega arith))
    ]

-- ---- its coordinates
y_length : (l : Lane) → length (lane_task l).y ≡ l.n * axis_count l
unfolding lane_task lane_units task_of centred
y_length l = table_length l.n (axis_count l) _

pub y_finite : (l : Lane) → overflows (lane_task l) ≡ false → (i j : ℕ) → i < l.n → j < axis_count l
    → T (finite (coordinate (lane_task l).y (axis_count l) i j))
unfolding overflows
y_finite l o i j h g =
    let y = (lane_task l).y in
    let e = row_end i l.n (axis_count l) (l.n * axis_count l) h (omega arith) in
    let f = any_none (λ i. not (finite (at y i))) (length y) o (i * axis_count l + j) (omega (arith, y_length l, e)) in
    subst T (sym (not-false (finite (at y (i * axis_count l + j))) f)) tt
