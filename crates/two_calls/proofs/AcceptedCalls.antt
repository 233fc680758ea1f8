-- What accepted calls gave; and document 02, request 10: "among requests equal but for max_refinements and max_segments, all accepted ones
-- agree in every used cell and every count".
use mathlib.Core.Path.{◌≡◌, refl, sym, ap, ◌∙◌}
use mathlib.Core.Bool.{cond, ◌||◌}
use Rattle.smoothing.specs.Answer as answers
use Rattle.smoothing.specs.Answer.Answer.{done, refused, exhausted}
use Rattle.smoothing.specs.Request.{Lane, Limits}
use Rattle.smoothing.specs.Checks.{wide_lane, wide_limits, miscounted_points, short_room}
use Rattle.smoothing.specs.Build.{Result, checked_of, answer_of, build_of, build_in}
use Rattle.smoothing.proofs.Accepted.{refused_done, exhausted_done, not_refused}
use Rattle.smoothing.proofs.HigherLimits.{accepted_agree}
use Rattle.building.specs.declared.Report.{Report}
use Rattle.building.specs.Outcome.{outcome_of, reported, lengths_of, curve_after, results_after}
use Rattle.building.specs.Answered.{answer_to}
use Rattle.two_calls.specs.Building.{BuildCall, LongEnough, Gave, Agree}
use Rattle.two_calls.proofs.Calls.{request, answer_is}

module _ {l : Lane} {m : Limits} (c : BuildCall l m) where
  -- an accepted call gave a result
  pub gave : (r : Report) → outcome_of c.answer ≡ done r → (x : Result) × Gave c x
  unfolding reported curve_after
  gave r e = go (answer_to l m c.work c.lent) refl
    where
      go : (y : answers.Answer Result) → answer_to l m c.work c.lent ≡ y → (x : Result) × Gave c x
      go (done x) h = (
        x,
        record {
          given = h;
          outcome = c.answered ∙ ap reported h;
          curve = c.curved ∙ ap (curve_after c.mode l.d) h;
          slices = c.written ∙ ap (λ (y : answers.Answer Result). results_after y c.lent) h;
        },
      )
      go (refused n) h = absurd (refused_done (sym (ap reported h) ∙ sym c.answered ∙ e))
      go (exhausted w) h = absurd (exhausted_done (sym (ap reported h) ∙ sym c.answered ∙ e))

  module _ {x : Result} (g : Gave c x) where
    -- its slices were long enough
    pub long : LongEnough c
    unfolding build_in answer_of
    long =
        let short = short_room (lengths_of c.work c.lent) l m in
        let roomy = cond short (refused 19) (checked_of l m) in
        let a = not_refused (wide_lane l || wide_limits m) 18 (cond (miscounted_points l) (refused 20) roomy) x g.given in
        let b = not_refused (miscounted_points l) 20 roomy x a.1 in
        (not_refused short 19 (checked_of l m) x b.1).0

    pub built : build_of (request c) ≡ done x
    built = sym (answer_is c long) ∙ g.given

-- two accepted calls with one lane agree, whatever their limits
pub limits_agree : {l : Lane} {m m' : Limits} (first : BuildCall l m) (second : BuildCall l m') (r r' : Report)
    → outcome_of first.answer ≡ done r → outcome_of second.answer ≡ done r' → Agree first second
limits_agree {l} {m} {m'} first second r r' e e' =
    let a = gave first r e in
    let b = gave second r' e' in
    let same = accepted_agree l m m' a.0 b.0 (built first a.1) (built second b.1) in
    record { result = a.0; first_gave = a.1; second_gave = rw same b.1 }
