-- `lines::answered` meets its contract, arm by arm.
use mathlib.Core.Path.{sym, ap, ◌∙◌}
use borrow.Author.Rules.{rules}
use Rattle.smoothing.specs.Answer.Answer.{refused}
use Rattle.building.specs.Outcome.{outcome_of}
use Rattle.lane.proofs.Printing.{accepted_told, exhausted_told, refused_told, refusal_told}
use Rattle.lane.proofs.lines.answered.Statement.{statement}
use Rattle.lane.proofs.lines.answered.Tie as tie

returns : tie.Need-returns-in-Accepted
returns c =
    let a = c.args in (
      c.accepted.ensures.0,
      λ y e h. c.accepted.ensures.1 ∙ accepted_told _ a.errors.now y (sym (ap outcome_of c.in-Accepted.is) ∙ e) h,
    )

returns-2 : tie.Need-returns-in-RefinementsUsedUp
returns-2 c = (
  c.exhausted.ensures.0,
  λ y e h. c.exhausted.ensures.1 ∙ exhausted_told _ y (sym (ap outcome_of c.in-RefinementsUsedUp.is) ∙ e),
)

returns-3 : tie.Need-returns-in_default
returns-3 c =
    let a = c.args in (
      c.refused.ensures.0,
      λ y e h.
          c.refused.ensures.1
          ∙ refused_told _ y (ap refused c.number.ensures ∙ sym (refusal_told a.answer c.in_default.in_default-own.keys3) ∙ e),
    )

pub answered_spec : {M : Type 1} → statement M
answered_spec =
    tie.close
    (tie.spec
    (λ c. search rules)
    (λ c κs. search rules)
    (λ c. search rules)
    (λ c κs. search rules)
    (λ c κs. search rules)
    (λ c κs. search rules)
    (λ c. search rules)
    returns
    (λ c. search rules)
    returns-2
    (λ c. search rules)
    returns-3)
