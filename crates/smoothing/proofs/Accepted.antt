-- What an accepted request tells of its steps.
use Rattle.std.proofs.Common.{◌≡◌, ℕ, Bool, true, false, cond, ◌||◌, eqb, refl, ap, subst, eqb-true}
use lib.Ieee.{Float}
use Rattle.arith.proofs.Truth.{or_none}
use Rattle.bspline.specs.Segments.{Polynomial}
use Rattle.smoothing.specs.Answer.{Answer, and_then, unless}
use Rattle.smoothing.specs.Answer.Answer.{done, refused, exhausted}
use Rattle.smoothing.specs.Request.{Lane, Limits}
use Rattle.smoothing.specs.Checks.{wide_lane, wide_limits, miscounted_points, refusal_of}
use Rattle.smoothing.specs.Rows.{lane_task, lane_units}
use Rattle.smoothing.specs.Finish.{Selected}
use Rattle.smoothing.specs.Build.{Result, selected_of, other_of, result_of, smoothed_of, checked_of, answer_of, build_of}

-- a value is no refusal
pub refused_done : {A : Type 0} {n : ℕ} {a : A} → refused n ≡ done a → ⊥
refused_done {A} e = subst Told e tt
  where
    Told : Answer A → Type 0
    Told (done a) = ⊥
    Told (refused n) = Unit
    Told (exhausted x) = Unit

pub exhausted_done : {A : Type 0} {x : Float} {a : A} → exhausted x ≡ done a → ⊥
exhausted_done {A} e = subst Told e tt
  where
    Told : Answer A → Type 0
    Told (done a) = ⊥
    Told (refused n) = Unit
    Told (exhausted x) = Unit

-- one value
pub done_same : {A : Type 0} {a b : A} → done a ≡ done b → a ≡ b
done_same {A} {a} e = ap value e
  where
    value : Answer A → A
    value (done x) = x
    value (refused n) = a
    value (exhausted x) = a

-- both steps gave a value
pub then_done : {A B : Type 0} (x : Answer A) (f : A → Answer B) (b : B) → and_then x f ≡ done b → (a : A) × (x ≡ done a) × (f a ≡ done b)
unfolding and_then
then_done (done a) f b h = (a, refl, h)
then_done (refused n) f b h = absurd (refused_done h)
then_done (exhausted w) f b h = absurd (exhausted_done h)

-- a test that refuses did not
pub not_refused : {A : Type 0} (b : Bool) (n : ℕ) (x : Answer A) (a : A) → cond b (refused n) x ≡ done a → (b ≡ false) × (x ≡ done a)
not_refused true n x a h = absurd (refused_done h)
not_refused false n x a h = (refl, h)

pub not_refused' : {A : Type 0} (b : Bool) (n : ℕ) (x : Answer A) (a : A) → cond b x (refused n) ≡ done a → (b ≡ true) × (x ≡ done a)
not_refused' true n x a h = (refl, h)
not_refused' false n x a h = absurd (refused_done h)

-- the value of `unless`
pub unless_done : {A : Type 0} (n : ℕ) (x a : A) → unless n x ≡ done a → (eqb n 0 ≡ true) × (x ≡ a)
unfolding unless
unless_done n x a h =
    let p = not_refused' (eqb n 0) n (done x) a h in (p.0, done_same p.1)

-- the steps of an accepted request
pub record Accepted (l : Lane) (m : Limits) (x : Result) : Type 0 where
  pub passed : refusal_of l ≡ 0
  pub chosen : Selected
  pub others : Polynomial Float
  pub chosen_is : selected_of m (lane_task l) (lane_units l) ≡ done chosen
  pub others_is : other_of l ≡ done others
  pub result_is : result_of l chosen others ≡ x

pub checked_accepted : (l : Lane) (m : Limits) (x : Result) → checked_of l m ≡ done x → Accepted l m x
unfolding checked_of smoothed_of
checked_accepted l m x h =
    let rest : Selected → Answer Result = λ c. and_then (other_of l) (λ p. done (result_of l c p)) in
    let a = not_refused' (eqb (refusal_of l) 0) (refusal_of l) _ x h in
    let c = then_done (selected_of m (lane_task l) (lane_units l)) rest x a.1 in
    let o = then_done (other_of l) (λ p. done (result_of l c.0 p)) x c.2 in
    record {
      passed = eqb-true (refusal_of l) 0 a.0;
      chosen = c.0;
      others = o.0;
      chosen_is = c.1;
      others_is = o.1;
      result_is = done_same o.2;
    }

-- 18 and 20 apart
pub build_checked : (l : Lane) (m : Limits) (x : Result) → build_of (record { lane = l; limits = m }) ≡ done x → checked_of l m ≡ done x
unfolding build_of answer_of
build_checked l m x h =
    let a = not_refused (wide_lane l || wide_limits m) 18 (cond (miscounted_points l) (refused 20) (checked_of l m)) x h in
    (not_refused (miscounted_points l) 20 (checked_of l m) x a.1).1

pub build_domain : (l : Lane) (m : Limits) (x : Result) → build_of (record { lane = l; limits = m }) ≡ done x
    → (wide_lane l ≡ false) × (wide_limits m ≡ false)
unfolding build_of answer_of
build_domain l m x h =
    or_none (wide_lane l) (wide_limits m)
    (not_refused (wide_lane l || wide_limits m) 18 (cond (miscounted_points l) (refused 20) (checked_of l m)) x h).0

pub build_accepted : (l : Lane) (m : Limits) (x : Result) → build_of (record { lane = l; limits = m }) ≡ done x → Accepted l m x
build_accepted l m x h = checked_accepted l m x (build_checked l m x h)
