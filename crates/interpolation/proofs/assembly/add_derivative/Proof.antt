-- `assembly::add_derivative` meets its contract: one row.
use mathlib.Core.Path.{ap, ◌∙◌}
use native.Mathlib.Omega.{arith}
use borrow.Author.Rules.{rules}
use Rattle.normal.specs.declared.Row.{Row}
use Rattle.normal.specs.Add.{add_of}
use Rattle.fitting_rows.specs.Arrays.{arrays_at}
use Rattle.interpolation.specs.Memory.{system_in}
use Rattle.interpolation.proofs.Turns.{end_start}
use Rattle.interpolation.proofs.assembly.add_derivative.Statement.{statement}
use Rattle.interpolation.proofs.assembly.add_derivative.Tie as tie

add-row-requires : tie.Need-add_row-requires
add-row-requires c κs =
    let x = arrays_at c.args.q c.args.work.now in
    let e = ap (λ (r : Row). r.start) c.end_row-row.ensures in
    (c.requires.0, omega (arith, e, end_start x c.args.u c.args.h c.args.r (omega arith)))

returns : tie.Need-returns
returns c =
    let a = c.args in
    let v = c.add_row.ensures in
    let e = c.end_row-row.ensures in
    (v.0, v.1 ∙ ap (λ (r : Row). add_of 0 a.q.count a.q.axes r (system_in a.q a.work.now)) e)

pub add_derivative_spec : {M : Type 1} → statement M
add_derivative_spec = tie.close (tie.spec (λ c κs. search rules) add-row-requires (λ c. search rules) returns)
