-- `start::put_knots` meets its contract.
use mathlib.Core.Path.{sym, ◌∙◌}
use native.Mathlib.Omega.{arith}
use borrow.Author.Rules.{rules}
use lib.ListN.{length}
use Rattle.seed.specs.Placed.{seeded_cells}
use Rattle.refinement.proofs.Memories.{products}
use Rattle.selected_axes.proofs.Starting.{knots_none, knots_put}
use Rattle.selected_axes.proofs.start.put_knots.Statement.{statement}
use Rattle.selected_axes.proofs.start.put_knots.Tie as tie

seed-requires : tie.Need-seed-requires
seed-requires c κs =
    let k = c.block_of-b in
    let q = products c.args.p (length c.args.work.now) c.requires.0 in
    let r = c.requires.0 in (
      r.few,
      omega (arith, r.waypoints_fit),
      omega (arith, q.points, k.ensures.0),
      omega (arith, r.waypoints_fit, r.cells_fit, r.knots_fit, k.ensures.0),
    )

returns : tie.Need-returns-then-bent
unfolding seeded_cells
returns c =
    let k = c.block_of-b in
    let v = c.seed in
    knots_put c.args.p c.args.work.now c.requires.0 k.result v.result v.new.work _ k.ensures.0
    (sym c.requires.1 ∙ c.if-bent.true) v.ensures.0 v.ensures.1

returns-2 : tie.Need-returns
returns-2 c =
    knots_none c.args.p c.args.work.now c.requires.0 (sym c.requires.1 ∙ c.if-bent.false)

pub put_knots_spec : {M : Type 1} → statement M
put_knots_spec =
    tie.close
    (tie.spec
    (λ c κs. search rules)
    (λ c. search rules)
    (λ c. search rules)
    seed-requires
    (λ c. search rules)
    returns
    returns-2)
