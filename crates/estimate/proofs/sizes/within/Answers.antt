use Rattle.std.proofs.Common.{◌≡◌, true, T, sym}
use mathlib.Core.Path.{subst}
use Rattle.std.specs.Float.Ieee.{le, neg}
use Rattle.arith.proofs.Truth.{and_parts}
use Rattle.pairs.proofs.Numbers.{number_between}
use Rattle.estimate.proofs.sizes.within.Goals as goal

pub returns : goal.returns
returns c = λ a h e.
    let x = c.args.x in
    let limit = c.args.limit in
    let t : (le (neg limit) x ≡ true) × (le x limit ≡ true) = and_parts _ _ h in
    number_between a x (subst T (sym c.well_formed.0.1) tt) (rw e at t.0) (rw e at t.1)
