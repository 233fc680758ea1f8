-- `assembly::assemble` meets its contract: the arrays are prepared, then the rows of the waypoints and of both ends are added.
use mathlib.Core.Path.{ap, ◌∙◌}
use native.Mathlib.Omega.{arith}
use borrow.Author.Rules.{rules}
use Rattle.fitting_rows.specs.Arrays.{Arrays, arrays_at}
use Rattle.interpolation.specs.Memory.{system_in}
use Rattle.interpolation.proofs.Turns.{ready, ends_are, assembly_is}
use Rattle.interpolation.proofs.assembly.assemble.Statement.{statement}
use Rattle.interpolation.proofs.assembly.assemble.Tie as tie

add-waypoints-requires : tie.Need-add_waypoints-requires
add-waypoints-requires c κs =
    let a = c.args in
    let k = c.prepare in
    (omega arith, ready (arrays_at a.q a.work.now) (arrays_at a.q k.new.work) k.ensures.0)

add-end-requires : tie.Need-add_end-requires
add-end-requires c κs =
    let a = c.args in
    let w = c.add_waypoints.new.work in
    (omega arith, ready (arrays_at a.q a.work.now) (arrays_at a.q w) (c.add_waypoints.ensures.0 ∙ c.prepare.ensures.0))

add-end-requires-2 : tie.Need-add_end-requires-2
add-end-requires-2 c κs =
    let a = c.args in
    let w = c.add_end.new.work in
    let e = c.add_end.ensures.0 ∙ c.add_waypoints.ensures.0 ∙ c.prepare.ensures.0 in
    (omega arith, ready (arrays_at a.q a.work.now) (arrays_at a.q w) e)

returns : tie.Need-returns
returns c =
    let q = c.args.q in
    let w₁ = c.prepare.new.work in
    let w₂ = c.add_waypoints.new.work in
    let w₃ = c.add_end.new.work in
    let w₄ = c.add_end-2.new.work in
    let e₁ = c.prepare.ensures.0 in
    let e₂ = c.add_waypoints.ensures.0 in
    let e₃ = c.add_end.ensures.0 in
    let ends = ends_are q w₂ c.requires.two in (
      ap (λ (z : Arrays). z.t) (c.add_end-2.ensures.0 ∙ e₃ ∙ e₂ ∙ e₁),
      assembly_is q.samples q.axes q.count c.requires.count_is (arrays_at q c.args.work.now) (arrays_at q w₁)
          (arrays_at q w₂) (arrays_at q w₃) e₁ e₂ e₃ (system_in q w₁) (system_in q w₂) (system_in q w₃) (system_in q w₄) _ _
          c.prepare.ensures.1 c.add_waypoints.ensures.1 ends.0 ends.1 c.add_end.ensures.1 c.add_end-2.ensures.1,
    )

pub assemble_spec : {M : Type 1} → statement M
assemble_spec =
    tie.close
    (tie.spec
    (λ c κs. search rules)
    add-waypoints-requires
    (λ c. search rules)
    (λ c. search rules)
    (λ c. search rules)
    (λ c. search rules)
    (λ c. search rules)
    (λ c. search rules)
    (λ c. search rules)
    (λ c. search rules)
    (λ c. search rules)
    (λ c. search rules)
    (λ c. search rules)
    (λ c. search rules)
    add-end-requires
    add-end-requires-2
    (λ c. search rules)
    returns)
