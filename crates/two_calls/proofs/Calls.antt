-- The answer of a call whose slices are long enough is `build_of`'s; and 18 and 19.
use mathlib.Core.Path.{◌≡◌, refl, ap, ◌∙◌}
use mathlib.Core.Bool.{Bool, true, false, ◌||◌}
use Rattle.smoothing.specs.Answer as answers
use Rattle.smoothing.specs.Answer.Answer.{done, refused, exhausted}
use Rattle.smoothing.specs.Request.{Lane, Limits, Request}
use Rattle.smoothing.specs.Checks.{wide_lane, wide_limits, miscounted_points, short_room}
use Rattle.smoothing.specs.Build.{Result, answer_of, build_of, build_in}
use Rattle.building.specs.Outcome.{outcome_of, reported, lengths_of}
use Rattle.building.specs.Answered.{answer_to}
use Rattle.two_calls.specs.Building.{BuildCall, LongEnough}

module _ {l : Lane} {m : Limits} (c : BuildCall l m) where
  abbrev pub request : Request
  request = record { lane = l; limits = m }

  -- where the slices are long enough, the room has no part in the answer
  pub answer_is : LongEnough c → answer_to l m c.work c.lent ≡ build_of request
  unfolding build_in build_of
  answer_is h = ap (λ (short : Bool). answer_of short request) h

  pub told : LongEnough c → outcome_of c.answer ≡ reported (build_of request)
  told h = c.answered ∙ ap reported (answer_is h)

  -- 18 comes first, whatever was lent
  pub above_domain : (wide_lane l || wide_limits m) ≡ true → outcome_of c.answer ≡ refused 18
  unfolding build_in answer_of reported
  above_domain w = c.answered ∙ rw w refl

  -- 19, where 18 and 20 are not met
  pub too_short : (wide_lane l || wide_limits m) ≡ false → miscounted_points l ≡ false
      → short_room (lengths_of c.work c.lent) l m ≡ true → outcome_of c.answer ≡ refused 19
  unfolding build_in answer_of reported
  too_short w p s = c.answered ∙ rw (w, p, s) refl

-- the report alone keeps the number
pub reported_number : (x : answers.Answer Result) → answers.number_of (reported x) ≡ answers.number_of x
unfolding reported answers.number_of
reported_number (done r) = refl
reported_number (refused n) = refl
reported_number (exhausted w) = refl
