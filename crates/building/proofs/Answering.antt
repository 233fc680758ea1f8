-- The checks 18, 20 and 19, before all others.
use mathlib.Core.Path.{◌≡◌, refl, sym, ap, ◌∙◌}
use mathlib.Core.Bool.{Bool, true, false, cond, ◌||◌}
use mathlib.Core.List.{List}
use Prim.Native.Nat.{ℕ, ◌<◌}
use native.Mathlib.Omega.{arith}
use lib.Dec.{eqb}
use lib.Ieee.{Float}
use Rattle.curve.specs.declared.Curve.{Curve}
use Rattle.curve.specs.declared.Mode.{Mode}
use Rattle.smoothing.specs.Answer.{Answer}
use Rattle.smoothing.specs.Answer.Answer.{refused}
use Rattle.smoothing.specs.Request.{Lane, Limits}
use Rattle.smoothing.specs.Checks.{wide_lane, wide_limits, miscounted_points, short_room}
use Rattle.smoothing.specs.Build.{Result, checked_of, answer_of, build_in}
use Rattle.checks.specs.Checks.{refusal_first}
use Rattle.checks.proofs.Domain.{sized}
use Rattle.building.specs.declared.Report.{Report}
use Rattle.curve.specs.Form.{no_curve}
use Rattle.building.specs.Outcome.{reported, curve_after, Results, lengths_of, results_after, work_after}
use Rattle.building.specs.Answered.{answer_to}

-- 18, 20 or 19
abbrev pub First : ℕ → Type 0
First n = (eqb n 18 || eqb n 20 || eqb n 19) ≡ true

module _ (l : Lane) (m : Limits) (w : List Float) (s : Results) where
  abbrev number : ℕ
  number = refusal_first (lengths_of w s) l m

  pub first_refused_law : 0 < number → (answer_to l m w s ≡ refused number) × First number
  unfolding refusal_first build_in answer_of
  first_refused_law h = go (wide_lane l || wide_limits m) (miscounted_points l) (short_room (lengths_of w s) l m) h
    where
      go : (a b c : Bool) → let n : ℕ = cond a 18 (cond b 20 (cond c 19 0)) in 0 < n
          → (cond a (refused 18) (cond b (refused 20) (cond c (refused 19) (checked_of l m))) ≡ refused n) × First n
      go true b c h = (refl, refl)
      go false true c h = (refl, refl)
      go false false true h = (refl, refl)
      go false false false h = absurd (omega arith)

  pub answer_on : number ≡ 0 → answer_to l m w s ≡ checked_of l m
  unfolding build_in answer_of
  answer_on h = let p = sized (lengths_of w s) l m h in rw (p.narrow, p.counted, p.roomy) refl

-- a request that 18, 20 or 19 turned away: nothing was touched
pub turned_away : (x : Answer Result) (n : ℕ) (mode : Mode) (d : ℕ) (o : Answer Report) (c : Curve) (w : List Float) (s : Results)
    → x ≡ refused n → First n
    → (o ≡ refused n) × (c ≡ no_curve mode) → (o ≡ reported x) × ((c ≡ curve_after mode d x) × ((w ≡ work_after x w) × (s ≡ results_after x s)))
unfolding reported curve_after work_after results_after
turned_away x n mode d o c w s e u h = (
  h.0 ∙ ap reported (sym e),
  (
    h.1 ∙ ap (curve_after mode d) (sym e),
    (
      sym (rw u refl)
          ∙ ap (λ (z : Answer Result). work_after z w) (sym e),
      ap (λ (z : Answer Result). results_after z s) (sym e),
    ),
  ),
)

-- a request that went on
pub went_on : (x y : Answer Result) (mode : Mode) (d : ℕ) (o : Answer Report) (c : Curve) (w w' : List Float) (s s' : Results) → x ≡ y
    → o ≡ reported y → c ≡ curve_after mode d y → w' ≡ work_after y w → s' ≡ results_after y s
    → (o ≡ reported x) × ((c ≡ curve_after mode d x) × ((w' ≡ work_after x w) × (s' ≡ results_after x s)))
went_on x y mode d o c w w' s s' e a b f g = (
  a ∙ ap reported (sym e),
  (
    b ∙ ap (curve_after mode d) (sym e),
    (
      f ∙ ap (λ (z : Answer Result). work_after z w) (sym e),
      g
          ∙ ap (λ (z : Answer Result). results_after z s) (sym e),
    ),
  ),
)
