-- Document 02, request 11: "When a higher limit helps". Two calls of `build` with one lane, the second's limits nowhere lower and in the
-- domain, each with slices that are long enough.
use mathlib.Core.Path.{◌≡◌, refl, sym, ap, ◌∙◌}
use mathlib.Core.Logic.{◌⊎◌, inl, inr}
use mathlib.Core.Bool.{Bool, true, false, ◌||◌, or-true}
use Prim.Native.Nat.{ℕ}
use native.Mathlib.Omega.{arith}
use lib.Ieee.{Float}
use Rattle.smoothing.specs.Answer as answers
use Rattle.smoothing.specs.Answer.Answer.{done, refused, exhausted}
use Rattle.smoothing.specs.Request.{Lane, Limits}
use Rattle.smoothing.specs.Checks.{wide_lane, wide_limits, miscounted_points, short_room}
use Rattle.smoothing.specs.Build.{build_of}
use Rattle.smoothing.proofs.HigherLimits.{higher_limits, same_answer}
use Rattle.building.specs.declared.Report.{Report}
use Rattle.building.specs.Outcome.{outcome_of, reported, lengths_of}
use Rattle.two_calls.specs.Building.{BuildCall, number_of, LongEnough, NowhereLower, MayChange}
use Rattle.two_calls.proofs.Calls.{request, told, above_domain, too_short, reported_number}

module _ {l : Lane} {m m' : Limits} (first : BuildCall l m) (second : BuildCall l m') (up : NowhereLower m m') where
  module _ (inside : wide_limits m' ≡ false) (a : LongEnough first) (b : LongEnough second) where
    -- The second answer is the first, report, number and ratio, unless the first is 8 or 15 and max_segments grew, or 14 and
    -- max_refinements grew.
    pub same_outcome : (MayChange m m' (number_of first) → ⊥) → outcome_of second.answer ≡ outcome_of first.answer
    same_outcome keeps =
        let x = build_of (request first) in
        let n : number_of first ≡ answers.number_of x = ap answers.number_of (told first a) ∙ reported_number x in
        let e = same_answer x (build_of (request second)) (higher_limits l m m' up.segments up.refinements inside)
        (λ s g. keeps (inl (either n s, g))) (λ s g. keeps (inr (n ∙ s, g))) in
        told second b ∙ ap reported e ∙ sym (told first a)
      where
        either : {j k : ℕ} → j ≡ k → (k ≡ 8) ⊎ (k ≡ 15) → (j ≡ 8) ⊎ (j ≡ 15)
        either e (inl f) = inl (e ∙ f)
        either e (inr f) = inr (e ∙ f)

    -- "If the first is accepted, so is the second", with the same report
    pub stays_accepted : (r : Report) → outcome_of first.answer ≡ done r → outcome_of second.answer ≡ done r
    unfolding answers.number_of
    stays_accepted r e = same_outcome (no (ap answers.number_of e)) ∙ e
      where
        no : {k : ℕ} → k ≡ 0 → MayChange m m' k → ⊥
        no e (inl (inl f, g)) = omega arith
        no e (inl (inr f, g)) = omega arith
        no e (inr (f, g)) = omega arith

    -- "If the first is refused, the second gets the same number, except ..": no other number than 8, 14 and 15 changes
    pub same_number : (n : ℕ) → (n ≡ 8 → ⊥) → (n ≡ 14 → ⊥) → (n ≡ 15 → ⊥) → outcome_of first.answer ≡ refused n
        → outcome_of second.answer ≡ refused n
    unfolding answers.number_of
    same_number n p q r e = same_outcome (no (ap answers.number_of e)) ∙ e
      where
        no : {k : ℕ} → k ≡ n → MayChange m m' k → ⊥
        no e (inl (inl f, g)) = p (sym e ∙ f)
        no e (inl (inr f, g)) = r (sym e ∙ f)
        no e (inr (f, g)) = q (sym e ∙ f)

    -- 8 and 15 stay where max_segments stays
    pub segments_stay : m.segments ≡ m'.segments → (n : ℕ) → outcome_of first.answer ≡ refused n → (n ≡ 14 → ⊥)
        → outcome_of second.answer ≡ refused n
    unfolding answers.number_of
    segments_stay s n e q = same_outcome (no (ap answers.number_of e)) ∙ e
      where
        no : {k : ℕ} → k ≡ n → MayChange m m' k → ⊥
        no e (inl (f, g)) = omega arith
        no e (inr (f, g)) = q (sym e ∙ f)

    -- "where max_refinements stays, a 14 keeps its ratio too"
    pub ratio_stays : m.refinements ≡ m'.refinements → (ratio : Float) → outcome_of first.answer ≡ exhausted ratio
        → outcome_of second.answer ≡ exhausted ratio
    unfolding answers.number_of
    ratio_stays s ratio e = same_outcome (no (ap answers.number_of e)) ∙ e
      where
        no : {k : ℕ} → k ≡ 14 → MayChange m m' k → ⊥
        no e (inl (inl f, g)) = omega arith
        no e (inl (inr f, g)) = omega arith
        no e (inr (f, g)) = omega arith

  -- a limit above the domain is 18, whatever was lent
  pub above_domain_then : wide_limits m' ≡ true → outcome_of second.answer ≡ refused 18
  above_domain_then w = above_domain second (rw w (or-true (wide_lane l)))

  -- so 18 stays, whichever limit is raised
  pub stays_above_domain : LongEnough first → LongEnough second → outcome_of first.answer ≡ refused 18
      → outcome_of second.answer ≡ refused 18
  stays_above_domain a b e = go (wide_limits m') refl
    where
      go : (w : Bool) → wide_limits m' ≡ w → outcome_of second.answer ≡ refused 18
      go true w = above_domain_then w
      go false w = same_number w a b 18 (λ z. omega arith) (λ z. omega arith) (λ z. omega arith) e

  -- slices that are too short for the second's limits: 19, whatever the first answer was
  pub too_short_then : (wide_lane l || wide_limits m') ≡ false → miscounted_points l ≡ false
      → short_room (lengths_of second.work second.lent) l m' ≡ true → outcome_of second.answer ≡ refused 19
  too_short_then = too_short second
