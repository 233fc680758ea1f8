-- `insertions::outside_at` meets its contract.
use Prim.Native.Nat.{◌+◌, ◌<◌}
use native.Mathlib.Omega.{arith}
use borrow.Author.Rules.{rules}
use lib.ListN.{length}
use Rattle.refinement.proofs.Inserting.{span_inside, outside_below, outside_above}
use Rattle.refinement.proofs.insertions.outside_at.Statement.{statement}
use Rattle.refinement.proofs.insertions.outside_at.Tie as tie

-- the span's knots are there
inside : (c : tie.After-span-span) → c.span-span.result + 1 < length c.knots-t.result.now
inside c =
    let k = c.knots-t in
    span_inside c.args.p c.args.work.now c.requires k.result.now k.ensures c.args.x c.span-span.result c.span-span.ensures

returns : tie.Need-returns-then-x-t
returns c =
    let k = c.knots-t in
    let v = c.span-span in
    outside_below c.args.p c.args.work.now c.requires k.result.now k.ensures c.args.x v.result v.ensures
    c.if-x-t.true

returns-2 : tie.Need-returns
returns-2 c =
    let k = c.knots-t in
    let v = c.span-span in
    outside_above c.args.p c.args.work.now c.requires k.result.now k.ensures c.args.x v.result v.ensures
    c.if-x-t.false

pub outside_at_spec : {M : Type 1} → statement M
outside_at_spec =
    tie.close
    (tie.spec
    (λ c κs. search rules)
    (λ c κs. search rules)
    (λ c. search rules)
    (λ c. omega (arith, inside c.before))
    returns
    (λ c. search rules)
    (λ c. search rules)
    (λ c. omega (arith, inside c.before.before.before))
    returns-2)
