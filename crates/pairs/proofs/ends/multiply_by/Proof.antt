-- `pairs::ends::multiply_by` meets its contract.
use mathlib.Core.Bool.{true}
use mathlib.Core.Path.{refl}
use lib.Ieee.{binary64}
use Rattle.fraction.specs.Pair.{multiply_pairs}
use Rattle.fraction.proofs.Pair.{multiply_strict}
use Rattle.pairs.proofs.Pairs.{operation_is}
use borrow.Author.Rules.{rules}
use Rattle.pairs.proofs.ends.multiply_by.Statement.{statement}
use Rattle.pairs.proofs.ends.multiply_by.Tie as tie

returns : tie.Need-returns
unfolding multiply_pairs
returns c =
    let a = c.args in
    operation_is (multiply_pairs binary64) (multiply_strict binary64) a.x.good true a.x.low a.x.high a.c a.c _ _ _ c.kept.ensures refl
    c.widened.ensures

pub multiply_by_spec : {M : Type 1} → statement M
multiply_by_spec = tie.close (tie.spec (λ c κs. search rules) (λ c κs. search rules) returns)
