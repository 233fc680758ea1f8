-- `normal::solve` meets its contract. Each phase's contract is put in place of the phase, and the tests choose the case of `solve_of`.
use mathlib.Core.Path.{◌≡◌, sym, ap, ◌∙◌}
use Prim.Native.Nat.{◌*◌}
use native.Mathlib.Omega.{arith}
use borrow.Author.Tests.{not-true, not-false}
use borrow.Author.Rules.{rules}
use Rattle.window.specs.Window.{splice}
use Rattle.normal.specs.System.{system_of, with_band}
use Rattle.normal.specs.Solve.{SolveOutcome, solve_scaled_of, finish_of, solve_of}
use Rattle.normal.proofs.Region.{lend_band}
use Rattle.normal.proofs.Outcomes.{bad_diagonal, diagonal, bad_pivot, pivots}
use Rattle.normal.proofs.solve.Statement.{statement}
use Rattle.normal.proofs.solve.Tie as tie

-- the diagonal was fit, and the system is scaled
scaled : (c : tie.After-factor) → let a = c.args in solve_of a.n a.d (system_of a.n a.d a.sys.now)
    ≡ solve_scaled_of a.n a.d (system_of a.n a.d c.scale.new.sys)
scaled c =
    let a = c.args in
    diagonal a.n a.d (system_of a.n a.d a.sys.now) _
    c.roots.ensures
    (sym c.any_unfit.ensures
    ∙ c.if-any_unfit.false) ∙ ap (solve_scaled_of a.n a.d)
    (sym c.scale.ensures)

-- the band is factored, the rest is as it was
factored : (c : tie.After-factor) → let a = c.args in let l = c.scale.new.sys in system_of a.n a.d
    (splice 0 (6 * a.n) c.factor.new.h l) ≡ with_band (system_of a.n a.d l) c.factor.new.h
factored c =
    let a = c.args in
    lend_band a.n a.d c.scale.new.sys c.factor.new.h (omega arith) (omega arith)

returns : tie.Need-returns-then-any_unfit
returns c =
    let a = c.args in
    let f = bad_diagonal a.n a.d (system_of a.n a.d a.sys.now) _
    c.roots.ensures (sym c.any_unfit.ensures ∙ c.if-any_unfit.true) in
    (sym (ap (λ (o : SolveOutcome). o.number) f), sym (ap (λ (o : SolveOutcome). o.system) f))

returns-2 : tie.Need-returns-then-not-factor
returns-2 c =
    let p = c.factor in
    let f = scaled c.before.before.before ∙ bad_pivot _ _ _ _ _ p.ensures.0 p.ensures.1 (not-true _ c.if-not-factor.true-raw) in
    (sym (ap (λ (o : SolveOutcome). o.number) f), factored c.before.before.before ∙ sym (ap (λ (o : SolveOutcome). o.system) f))

returns-3 : tie.Need-returns
returns-3 c =
    let q = c.before.before.before.before.before.before.before in
    let p = c.factor in
    let a = c.args in
    let f = scaled q ∙ pivots _ _ _ _ _ p.ensures.0 p.ensures.1 (not-false _ c.if-not-factor.false-raw)
    ∙ ap (finish_of a.n a.d) (sym (factored q)) in
    let e = c.finish.ensures in
    (e.0 ∙ sym (ap (λ (o : SolveOutcome). o.number) f), e.1 ∙ sym (ap (λ (o : SolveOutcome). o.system) f))

pub solve_spec : {M : Type 1} → statement M
solve_spec =
    tie.close
    (tie.spec
    (λ c κs. search rules)
    (λ c. search rules)
    (λ c. search rules)
    (λ c. search rules)
    (λ c. search rules)
    (λ c. search rules)
    (λ c. search rules)
    (λ c. search rules)
    (λ c. search rules)
    (λ c κs. search rules)
    (λ c. search rules)
    returns
    (λ c κs. search rules)
    (λ c. search rules)
    (λ c. search rules)
    (λ c. search rules)
    (λ c κs. search rules)
    (λ c. search rules)
    returns-2
    (λ c κs. search rules)
    (λ c. search rules)
    returns-3)
