-- `builds::put_answer` meets its contract: by the case of the answer.
use mathlib.Core.Path.{sym, ap, ◌∙◌}
use borrow.Author.Rules.{rules}
use Rattle.building.specs.declared.Answer.{Answer}
use Rattle.building.specs.Outcome.{outcome_of}
use Rattle.pamitoye.specs.Builds.{counts_after, ratio_after}
use Rattle.pamitoye.proofs.Refusals.{untouched}
use Rattle.pamitoye.proofs.builds.put_answer.Statement.{statement}
use Rattle.pamitoye.proofs.builds.put_answer.Tie as tie

returns : tie.Need-returns-in-Accepted
returns c =
    let a = c.args in
    let e = sym c.in-Accepted.is in (
      c.put_counts.ensures ∙ ap (λ (z : Answer). counts_after (outcome_of z) a.counts.now) e,
      ap (λ (z : Answer). ratio_after (outcome_of z) a.ratio.now) e,
    )

returns-2 : tie.Need-returns-in-RefinementsUsedUp
returns-2 c =
    let a = c.args in
    let e = sym c.in-RefinementsUsedUp.is in (
      ap (λ (z : Answer). counts_after (outcome_of z) a.counts.now) e,
      ap (λ (z : Answer). ratio_after (outcome_of z) a.ratio.now) e,
    )

returns-3 : tie.Need-returns-in_default
returns-3 c =
    let a = c.args in untouched a.answer c.in_default.in_default-own.keys3 a.counts.now a.ratio.now

pub put_answer_spec : {M : Type 1} → statement M
put_answer_spec =
    tie.close (tie.spec (λ c. search rules) (λ c κs. search rules) (λ c. search rules) returns returns-2 returns-3)
