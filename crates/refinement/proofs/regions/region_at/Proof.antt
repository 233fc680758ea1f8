-- `regions::region_at` meets its contract.
use mathlib.Core.Path.{ap}
use native.Mathlib.Omega.{arith}
use borrow.Author.Rules.{rules}
use lib.ListN.{length}
use Rattle.refinement.proofs.Memories.{locations_count}
use Rattle.refinement.proofs.Turns.{region_is}
use Rattle.refinement.proofs.regions.region_at.Statement.{statement}
use Rattle.refinement.proofs.regions.region_at.Tie as tie

next-region-requires : tie.Need-next_region-requires
next-region-requires c κs =
    let a = c.args in
    omega (arith, ap length c.locations-x.ensures, locations_count a.p a.work.now c.requires.0 a.count c.requires.2, c.requires.1)

returns : tie.Need-returns
returns c =
    let a = c.args in
    let v = c.next_region in
    region_is a.p a.work.now c.requires.0 a.count a.from v.result.a v.result.z v.result.next c.requires.2 _ _
    c.knots-t.ensures c.locations-x.ensures v.ensures.0 v.ensures.1

pub region_at_spec : {M : Type 1} → statement M
region_at_spec = tie.close (tie.spec (λ c κs. search rules) (λ c κs. search rules) next-region-requires returns)
