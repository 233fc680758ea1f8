-- `assembly::add_penalty_node` meets its contract: one row.
use mathlib.Core.Path.{ap, ◌∙◌}
use Prim.Native.Nat.{◌-◌}
use native.Mathlib.Omega.{arith}
use borrow.Author.Rules.{rules}
use Rattle.normal.specs.declared.Row.{Row}
use Rattle.fitting_rows.specs.Arrays.{arrays_at}
use Rattle.fit.specs.Region.{before, system_at}
use Rattle.fit.specs.Assembly.{added}
use Rattle.fit.proofs.Placing.{placed}
use Rattle.fit.proofs.Turns.{penalty_start}
use Rattle.fit.proofs.assembly.add_penalty_node.Statement.{statement}
use Rattle.fit.proofs.assembly.add_penalty_node.Tie as tie

penalty-row-at-requires : tie.Need-penalty_row_at-row-requires
penalty-row-at-requires c κs = (placed _ _ _ _ c.requires.0, omega arith, omega arith, omega arith)

add-row-requires : tie.Need-add_row-requires
add-row-requires c κs =
    let a = c.args in
    let e = ap (λ (r : Row). r.start) c.penalty_row_at-row.ensures in (
      c.requires.0,
      omega (
        arith,
        e,
        penalty_start (arrays_at a.w.place (before a.w.place a.work.now))
            a.strength a.span a.r,
      ),
    )

returns : tie.Need-returns
returns c =
    let a = c.args in
    let w = a.work.now in
    let x = arrays_at a.w.place (before a.w.place w) in (
      c.add_row.ensures.0,
      c.add_row.ensures.1 ∙ ap (λ (r : Row). added x a.w.a a.w.z r
          (system_at a.w.place (a.w.z - a.w.a) w)) c.penalty_row_at-row.ensures,
    )

pub add_penalty_node_spec : {M : Type 1} → statement M
add_penalty_node_spec =
    tie.close
    (tie.spec
    (λ c. search rules)
    (λ c. search rules)
    (λ c. search rules)
    penalty-row-at-requires
    add-row-requires
    (λ c. search rules)
    returns)
