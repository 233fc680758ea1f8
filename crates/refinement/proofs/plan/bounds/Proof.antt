-- `plan::bounds` meets its contract.
use mathlib.Core.Path.{refl}
use Prim.Native.Nat.{◌+◌, ◌-◌, ◌*◌, ◌≤◌}
use native.Mathlib.Omega.{arith}
use borrow.Author.Rules.{rules}
use lib.ListN.{length}
use Rattle.refinement.specs.Memory.{block, bounds_place}
use Rattle.refinement.proofs.Memories.{bounds_numbers}
use Rattle.refinement.proofs.plan.bounds.Statement.{statement}
use Rattle.refinement.proofs.plan.bounds.Tie as tie

fit : (c : tie.Start) → let p = c.args.p in
    ((p.samples - 1) * p.axes ≤ 320256) × (bounds_place p + (p.samples - 1) * p.axes ≤ length c.args.work.now)
fit c = bounds_numbers c.args.p c.args.work.now c.requires (block c.args.p) refl

pub bounds_spec : {M : Type 1} → statement M
bounds_spec =
    tie.close
    (tie.spec
    (λ c. search rules)
    (λ c. search rules)
    (λ c. search rules)
    (λ c. search rules)
    (λ c. search rules)
    (λ c. omega (arith, fit c.before.before.before.before))
    (λ c. omega (arith, fit c.before.before.before.before))
    (λ c. search rules)
    (λ c. search rules)
    (λ c. search rules)
    (λ c. omega (arith, fit c.before.before.before.before))
    (λ c. search rules))
