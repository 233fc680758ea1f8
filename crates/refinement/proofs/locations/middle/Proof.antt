-- `locations::middle` meets its contract.
use Prim.Native.Nat.{◌+◌, ◌<◌}
use native.Mathlib.Omega.{arith}
use borrow.Author.Rules.{rules}
use lib.ListN.{length}
use lib.Ieee.{of_bits, round}
use Rattle.refinement.proofs.Inserting.{span_inside}
use Rattle.refinement.proofs.Locating.{middle_is}
use Rattle.refinement.proofs.locations.middle.Statement.{statement}
use Rattle.refinement.proofs.locations.middle.Tie as tie

-- the span's knots are there
inside : (c : tie.After-span-span) → c.span-span.result + 1 < length c.knots-t.result.now
inside c =
    let k = c.knots-t in
    span_inside c.args.p c.args.work.now c.requires.0 k.result.now k.ensures _ c.span-span.result c.span-span.ensures

returns : tie.Need-returns
unfolding of_bits round
returns c =
    let k = c.knots-t in
    let v = c.span-span in
    middle_is c.args.p c.args.work.now k.result.now c.args.i v.result k.ensures c.requires.1 v.ensures

pub middle_spec : {M : Type 1} → statement M
middle_spec =
    tie.close
    (tie.spec
    (λ c κs. search rules)
    (λ c. search rules)
    (λ c. search rules)
    (λ c. search rules)
    (λ c. search rules)
    (λ c. search rules)
    (λ c. search rules)
    (λ c. search rules)
    (λ c κs. search rules)
    (λ c. search rules)
    (λ c. omega (arith, inside c.before))
    (λ c. search rules)
    (λ c. search rules)
    (λ c. omega (arith, inside c.before.before))
    returns)
