-- `normal::finish` meets its contract. It runs the two substitutions and the unscaling, and tests the solution.
use mathlib.Core.Path.{◌≡◌, sym, ap, ◌∙◌}
use borrow.Author.Rules.{rules}
use Rattle.normal.specs.System.{system_of}
use Rattle.normal.specs.Solve.{SolveOutcome, forward_of, backward_of, unscale_of}
use Rattle.normal.proofs.Outcomes.{bad_solution, solution}
use Rattle.normal.proofs.finish.Statement.{statement}
use Rattle.normal.proofs.finish.Tie as tie

-- what the three phases come to
substituted : (c : tie.After-any_unfit) → let a = c.args in system_of a.n a.d c.unscale.new.sys
    ≡ unscale_of a.n a.d (backward_of a.n a.d (forward_of a.n a.d (system_of a.n a.d a.sys.now)))
substituted c =
    let a = c.args in
    c.unscale.ensures ∙ ap (unscale_of a.n a.d)
    (c.backward.ensures
    ∙ ap (backward_of a.n a.d) c.forward.ensures)

returns : tie.Need-returns-then-any_unfit
returns c =
    let a = c.args in
    let f = bad_solution a.n a.d (system_of a.n a.d a.sys.now) _ (substituted c.before)
    (sym c.any_unfit.ensures ∙ c.if-any_unfit.true) in
    (sym (ap (λ (o : SolveOutcome). o.number) f), sym (ap (λ (o : SolveOutcome). o.system) f))

returns-2 : tie.Need-returns
returns-2 c =
    let a = c.args in
    let f = solution a.n a.d (system_of a.n a.d a.sys.now) _ (substituted c.before)
    (sym c.any_unfit.ensures ∙ c.if-any_unfit.false) in
    (sym (ap (λ (o : SolveOutcome). o.number) f), sym (ap (λ (o : SolveOutcome). o.system) f))

pub finish_spec : {M : Type 1} → statement M
finish_spec =
    tie.close
    (tie.spec
    (λ c κs. search rules)
    (λ c κs. search rules)
    (λ c κs. search rules)
    (λ c. search rules)
    (λ c. search rules)
    (λ c. search rules)
    (λ c. search rules)
    (λ c. search rules)
    (λ c. search rules)
    (λ c. search rules)
    (λ c κs. search rules)
    (λ c. search rules)
    returns
    (λ c. search rules)
    returns-2)
