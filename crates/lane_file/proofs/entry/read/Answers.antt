-- At each return the definition gives what the code answers.
use Rattle.std.proofs.Common.{◌≡◌, List, ℕ, sym, subst, ◌∙◌}
use Rattle.curve.specs.declared.Curve.{Curve}
use Rattle.lane_file.specs.Curves.{Cells, cells}
use Rattle.lane_file.specs.Outcome.{read_outcome, ReadPromised}
use Rattle.lane_file.proofs.Taking.{short_is}
use Rattle.lane_file.proofs.Answers.{not_read, read_not_formed, read_too_short, read_done, taken}
use Rattle.lane_file.proofs.entry.read.Goals as goal

-- the same curve and cells
subst2 : (file : List ℕ) (c d : Curve) (s t : Cells) → c ≡ d → s ≡ t → ReadPromised file c s → ReadPromised file d t
subst2 file c d s t e f x = subst (λ (t : Cells). ReadPromised file d t) f (subst (λ (c : Curve). ReadPromised file c s) e x)

pub returns-in_default-clause-other_coefficients_after : goal.returns-in_default-clause-other_coefficients_after
returns-in_default-clause-other_coefficients_after c =
    let a = c.args in
    not_read a.file.now (cells a.breaks.now a.coefficients.now a.other_breaks.now a.other_coefficients.now) c.in_default.ensures

pub returns-then-not-formed-clause-other_coefficients_after : goal.returns-then-not-formed-clause-other_coefficients_after
returns-then-not-formed-clause-other_coefficients_after c =
    let a = c.args in
    read_not_formed a.file.now (cells a.breaks.now a.coefficients.now a.other_breaks.now a.other_coefficients.now) c.in-Some.head c.in-Some.ensures
    (sym c.if-not-formed.ensures)

pub returns-then-short-clause-other_coefficients_after : goal.returns-then-short-clause-other_coefficients_after
returns-then-short-clause-other_coefficients_after c =
    let a = c.args in
    let lent = cells a.breaks.now a.coefficients.now a.other_breaks.now a.other_coefficients.now in
    read_too_short a.file.now lent c.in-Some.head c.in-Some.ensures (sym c.if-not-formed.ensures)
    (short_is a.file.now c.in-Some.head lent ∙ sym c.if-short.ensures)

pub returns-clause-other_coefficients_after : goal.returns-clause-other_coefficients_after
returns-clause-other_coefficients_after c =
    let a = c.args in
    let lent = cells a.breaks.now a.coefficients.now a.other_breaks.now a.other_coefficients.now in
    let m = read_done a.file.now lent c.in-Some.head c.in-Some.ensures (sym c.if-not-formed.ensures)
    (short_is a.file.now c.in-Some.head lent ∙ sym c.if-short.ensures) in
    (λ i. read_outcome 0 (c.curve_at.ensures i) (c.read_sets.ensures i)) ∙ m

pub returns-clause-read_promised : goal.returns-clause-read_promised
returns-clause-read_promised c z =
    let a = c.args in
    let lent = cells a.breaks.now a.coefficients.now a.other_breaks.now a.other_coefficients.now in
    subst2 a.file.now _ _ _ _ (sym c.curve_at.ensures) (sym c.read_sets.ensures)
    (taken a.file.now lent c.in-Some.head c.in-Some.ensures (sym c.if-not-formed.ensures))
