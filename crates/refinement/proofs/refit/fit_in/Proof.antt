-- `refit::fit_in` meets its contract.
use Prim.Native.Nat.{◌+◌, ◌-◌, ◌≤◌}
use native.Mathlib.Omega.{arith}
use borrow.Author.Rules.{rules}
use lib.ListN.{length}
use Rattle.normal.specs.System.{size_of}
use Rattle.refinement.specs.Memory.{system_place}
use Rattle.refinement.proofs.Fits.{fit_fits, fit_asks, fit_answer, fit_memory}
use Rattle.refinement.proofs.refit.fit_in.Statement.{statement}
use Rattle.refinement.proofs.refit.fit_in.Tie as tie

-- the system lies in the slice
fits : (c : tie.Start) → let a = c.args in system_place a.p + size_of (a.z - a.a) a.p.axes ≤ length a.work.now
fits c =
    let a = c.args in fit_fits a.p a.work.now c.requires.0 a.a a.z c.requires.1 c.requires.2

fit-requires : tie.Need-fit-requires
fit-requires c κs =
    let a = c.args in
    fit_asks a.p a.work.now c.requires.0 a.a a.z c.requires.1 c.requires.2

returns : tie.Need-returns
returns c =
    let q = c.before.before.before.before.before.before.before in
    let a = c.args in
    let f = c.fit in (
      fit_answer a.p a.work.now c.requires.0 a.a a.z c.requires.1 c.requires.2 a.strength _ f.ensures.0,
      fit_memory a.p a.work.now c.requires.0 a.a a.z c.requires.1 c.requires.2 a.strength f.new.work (omega (arith, fits q))
          f.ensures.1.0,
    )

pub fit_in_spec : {M : Type 1} → statement M
fit_in_spec =
    tie.close
    (tie.spec
    (λ c. search rules)
    (λ c. search rules)
    (λ c. search rules)
    (λ c. search rules)
    (λ c. search rules)
    (λ c. search rules)
    (λ c. search rules)
    (λ c. search rules)
    (λ c. search rules)
    (λ c. omega (arith, fits c.before.before.before))
    (λ c. omega (arith, fits c.before.before.before))
    (λ c. omega (arith, fits c.before.before.before))
    (λ c. omega (arith, fits c.before.before.before))
    (λ c. search rules)
    (λ c. search rules)
    (λ c. omega (arith, fits c.before.before.before))
    fit-requires
    (λ c. search rules)
    returns)
