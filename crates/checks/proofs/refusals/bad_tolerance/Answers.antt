-- `refusals::bad_tolerance` meets its contract: by cases on the tolerance.
use mathlib.Core.Path.{◌≡◌, sym, ap, ◌∙◌}
use native.Mathlib.Omega.{arith}
use borrow.Author.Tests.{eq-eqb, ne_eqb}
use Rattle.std.proofs.Common.{rules, tests}
use Rattle.std.proofs.lemmas.Iterator.{YieldsList-from_slice}
use Rattle.std.proofs.lemmas.Iterator.Search.{any_from_yields_List}
use Rattle.smoothing.specs.Request.Tolerance.{uniform, per_axis}
use Rattle.checks.specs.Request.{tolerance_of, lane_of}
use Rattle.checks.specs.Checks.{bad_cell}
use Rattle.checks.proofs.Selected.{uniform_bad, each_bad, listed_any}
use Rattle.checks.proofs.refusals.bad_tolerance.Goals as goal

pub returns-then-list-k : goal.returns-then-list-k
unfolding tolerance_of
returns-then-list-k c =
    let r = c.args.r.now in
    let list = c.in-PerAxis.list.now in
    let t : tolerance_of r.tolerance ≡ per_axis list = ap tolerance_of c.in-PerAxis.is in
    sym (each_bad (lane_of r) list t ∙ rw (c.requires.1, ne_eqb _ _ c.if-list-k.true))

pub returns-in-Uniform : goal.returns-in-Uniform
unfolding tolerance_of
returns-in-Uniform c =
    let r = c.args.r.now in
    let t : tolerance_of r.tolerance ≡ uniform c.in-Uniform.x = ap tolerance_of c.in-Uniform.is in
    c.is_bad.ensures ∙ sym (uniform_bad (lane_of r) _ t (omega (arith, c.requires.0, c.requires.1)))

pub returns-else-list-k : goal.returns-else-list-k
unfolding tolerance_of
returns-else-list-k c =
    let r = c.args.r.now in
    let list = c.in-PerAxis.list.now in
    let t : tolerance_of r.tolerance ≡ per_axis list = ap tolerance_of c.in-PerAxis.is in
    any_from_yields_List bad_cell _ _ c.any.result c.any.ensures.ran (YieldsList-from_slice list cc) (λ x b q k. search (rules, tests))
    ∙ listed_any bad_cell list ∙ sym (each_bad (lane_of r) list t ∙ rw (c.requires.1, eq-eqb _ _ c.if-list-k.false))
