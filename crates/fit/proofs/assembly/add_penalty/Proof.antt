-- `assembly::add_penalty` meets its contract: the span is left out, or its rows are added.
use mathlib.Core.Path.{refl, ◌∙◌}
use Prim.Native.Nat.{◌-◌}
use native.Mathlib.Omega.{arith}
use borrow.Author.Rules.{rules}
use Rattle.fitting_rows.specs.Arrays.{arrays_at}
use Rattle.fit.specs.Region.{before, system_at}
use Rattle.fit.proofs.Placing.{placed}
use Rattle.fit.proofs.Turns.{penalty_left, penalty_added}
use Rattle.fit.proofs.assembly.add_penalty.Statement.{statement}
use Rattle.fit.proofs.assembly.add_penalty.Tie as tie

is-left-out-requires : tie.Need-is_left_out-requires
is-left-out-requires c κs = (placed _ _ _ _ c.requires.0.0, omega arith)

returns : tie.Need-returns-then-is_left_out
returns c =
    let a = c.args in
    let w = a.work.now in
    let x = arrays_at a.w.place (before a.w.place w) in (
      refl,
      penalty_left x a.w.a a.w.z a.lo a.hi c.requires.1.0
          c.requires.1.1 a.span _ a.strength (system_at a.w.place (a.w.z - a.w.a) w)
          c.is_left_out.ensures c.if-is_left_out.true,
    )

add-penalty-nodes-requires : tie.Need-add_penalty_nodes-requires
add-penalty-nodes-requires c κs = (c.requires.0.0, omega arith, omega arith)

returns-2 : tie.Need-returns
returns-2 c =
    let a = c.args in
    let w = a.work.now in
    let x = arrays_at a.w.place (before a.w.place w) in
    let v = c.add_penalty_nodes.ensures in (
      v.0,
      v.1 ∙ penalty_added x a.w.a a.w.z a.lo a.hi
          c.requires.1.0
          c.requires.1.1 a.span _ a.strength
          (system_at a.w.place (a.w.z - a.w.a) w) c.is_left_out.ensures
          c.if-is_left_out.false,
    )

pub add_penalty_spec : {M : Type 1} → statement M
add_penalty_spec =
    tie.close
    (tie.spec
    (λ c. search rules)
    (λ c. search rules)
    (λ c. search rules)
    is-left-out-requires
    (λ c. search rules)
    returns
    add-penalty-nodes-requires
    (λ c. search rules)
    returns-2)
