-- A lane that the checks 1 to 5 and 26 let through: how the definition goes on, and that the arguments of `compute` are the lane's.
use mathlib.Core.Path.{◌≡◌, refl, ap, ◌∙◌}
use mathlib.Core.Bool.{Bool, true, false, cond}
use mathlib.Core.List.{List}
use Prim.Native.Nat.{ℕ, ◌+◌, ◌*◌, ◌≤◌, ◌<◌}
use native.Mathlib.Omega.{arith}
use borrow.Author.Tests.{eq-eqb, ne_eqb}
use lib.Dec.{eqb}
use lib.ListN.{length, get_or, take}
use lib.Ieee.{Float}
use Rattle.request.specs.Parameters.{unreliable}
use Rattle.smoothing.specs.Answer.{Answer}
use Rattle.smoothing.specs.Answer.Answer.{refused}
use Rattle.smoothing.specs.Request.{Lane, Limits, axis_count, smoothed_axes, lane_parameters, tolerances_of, tolerance_list}
use Rattle.smoothing.specs.Checks.{overflows, refusal_of}
use Rattle.smoothing.specs.Rows.{task_of, lane_task, lane_units, parameters_of, smoothed_rows, other_rows, gathered, left_over, other_axes}
use Rattle.smoothing.specs.Build.{other_of}
use Rattle.curve.specs.Places.{padded}
use Rattle.checks.specs.Checks.{refusal_before, refusal_after}
use Rattle.curve.proofs.Padded.{padded_at, padded_front}
use Rattle.checks.proofs.Selected.{left_below}
use Rattle.checks.proofs.Passed.{refusal_after_law, axes_below, axes_count}
use Rattle.work_slice.specs.Rows.{s_of, units_from, task_from, other_with, other_from}
use Rattle.building.specs.Computed.{computed_of}
use Rattle.building.specs.Answered.{checked_both}

-- ---- the definition goes on where none of 1 to 5 and 26 holds
pub stops_early : (l : Lane) (m : Limits) → 0 < refusal_before l → checked_both l m ≡ refused (refusal_before l)
unfolding checked_both
stops_early l m h =
    let n = ne_eqb (refusal_before l) 0 (λ e. omega arith) in
    let e : refusal_of l ≡ refusal_before l = refusal_after_law l ∙ rw n refl in
    rw (e, n) refl

goes_on : (l : Lane) (m : Limits) → refusal_before l ≡ 0
    → computed_of (lane_parameters l) m (lane_task l) (lane_units l) (other_of l) ≡ checked_both l m
unfolding checked_both computed_of lane_task task_of
goes_on l m h =
    let e : refusal_of l ≡ refusal_after (lane_parameters l) (lane_task l) = refusal_after_law l
    ∙ rw (eq-eqb (refusal_before l) 0 h) refl in
    rw e (go (unreliable (lane_parameters l) l.n) (overflows (lane_task l)) _)
  where
    go : {A : Type 0} (a b : Bool) (x : Answer A)
        → cond a (refused 6) (cond b (refused 7) x) ≡ cond (eqb (cond a 6 (cond b 7 0)) 0) x (refused (cond a 6 (cond b 7 0)))
    go true b x = refl
    go false true x = refl
    go false false x = refl

-- ---- the room that 19 leaves: both layouts fit
pub work_fits : (e k j d cells : ℕ) → j + k ≡ d → e * (16 * d + 32) ≤ cells → 14 * e + 10 * (e * k) + (10 * e + 8 * (e * j)) ≤ cells
work_fits e k j d cells h g = let f : e * (16 * (j + k) + 32) ≤ cells = rw h g in omega arith

-- ---- the axes that `choices` hands out are the lane's
-- k axes in sixteen cells
pub record Picked (l : Lane) (k : ℕ) (picked : List ℕ) : Type 0 where
  pub passed : refusal_before l ≡ 0
  pub small : l.d ≤ 16
  pub count : k ≡ axis_count l
  pub cells : picked ≡ padded (smoothed_axes l)

module _ {l : Lane} {k : ℕ} {picked : List ℕ} (P : Picked l k picked) where
  pub k_most : k ≤ l.d
  k_most = omega (arith, P.count, axes_count l P.passed)

  pub k_few : k ≤ 16
  k_few = omega (arith, k_most, P.small)

  picked_front : take k picked ≡ smoothed_axes l
  picked_front = (λ i. take (P.count i) (P.cells i)) ∙ padded_front (smoothed_axes l) (omega (arith, P.count, k_few))

  pub picked_below : (a : ℕ) → a < k → get_or picked a 0 < l.d
  picked_below a g =
      let e = ap (λ (v : List ℕ). get_or v a 0) P.cells ∙ padded_at (smoothed_axes l) a (omega (arith, k_few)) in
      omega (arith, e, axes_below l P.passed a (omega (arith, P.count)))

-- and the j axes that are left over
pub record Parted (l : Lane) (k : ℕ) (picked : List ℕ) (j : ℕ) (others : List ℕ) : Type 0 where
  pub first : Picked l k picked
  pub count : j ≡ length (left_over (take k picked) l.d)
  pub cells : others ≡ padded (left_over (take k picked) l.d)

module _ {l : Lane} {k : ℕ} {picked : List ℕ} {j : ℕ} {others : List ℕ} (P : Parted l k picked j others) where
  abbrev left : List ℕ
  left = left_over (take k picked) l.d

  left_is : left ≡ other_axes l
  left_is = ap (λ (v : List ℕ). left_over v l.d) (picked_front P.first)

  pub j_is : j ≡ length (other_axes l)
  j_is = P.count ∙ ap length left_is

  pub j_sum : j + k ≡ l.d
  j_sum = omega (arith, j_is, P.first.count, axes_count l P.first.passed)

  few : length left ≤ 16
  few = omega (arith, j_sum, P.count, P.first.small)

  others_front : take j others ≡ other_axes l
  others_front = (λ i. take (P.count i) (P.cells i)) ∙ padded_front left few ∙ left_is

  pub others_below : (a : ℕ) → a < j → get_or others a 0 < l.d
  others_below a g =
      let e = ap (λ (v : List ℕ). get_or v a 0) P.cells ∙ padded_at left a (omega (arith, few, P.count)) in
      omega (arith, e, left_below (take k picked) l.d a (omega (arith, P.count)))

  -- all that is computed, with these axes and tolerances
  module _ (eps : List Float) (e : take k eps ≡ tolerances_of l.tolerance k) where
    units_are : units_from l.n k l.points l.d picked eps ≡ lane_units l
    unfolding lane_units smoothed_rows
    units_are =
        let f : take k eps ≡ tolerance_list l = e ∙ ap (tolerances_of l.tolerance) P.first.count in
        λ i. record { rows = gathered l.points l.d l.n (picked_front P.first i); eps = f i }

    task_is : task_from l.n k (lane_parameters l) (units_from l.n k l.points l.d picked eps) ≡ lane_task l
    unfolding lane_task parameters_of
    task_is = λ i. task_from l.n (P.first.count i) (lane_parameters l) (units_are i)

    other_is : other_from l.n j (lane_parameters l) l.points l.d others ≡ other_of l
    unfolding other_of parameters_of other_rows
    other_is =
        λ i. other_with l.n (j_is i) (s_of (lane_parameters l) l.n) (gathered l.points l.d l.n (others_front i))

    pub all_is : (m : Limits)
        → computed_of (lane_parameters l) m
        (task_from l.n k (lane_parameters l) (units_from l.n k l.points l.d picked eps))
        (units_from l.n k l.points l.d picked eps)
        (other_from l.n j (lane_parameters l) l.points l.d others)
        ≡ checked_both l m
    all_is m = (λ i. computed_of (lane_parameters l) m (task_is i) (units_are i) (other_is i)) ∙ goes_on l m P.first.passed
