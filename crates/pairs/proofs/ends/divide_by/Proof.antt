-- `pairs::ends::divide_by` meets its contract.
use mathlib.Core.Bool.{true}
use mathlib.Core.Path.{refl}
use lib.Ieee.{binary64}
use Rattle.fraction.specs.Pair.{divide_pairs}
use Rattle.fraction.proofs.Pair.{divide_strict}
use Rattle.pairs.proofs.Pairs.{operation_is}
use borrow.Author.Rules.{rules}
use Rattle.pairs.proofs.ends.divide_by.Statement.{statement}
use Rattle.pairs.proofs.ends.divide_by.Tie as tie

returns : tie.Need-returns
unfolding divide_pairs
returns c =
    let a = c.args in
    operation_is (divide_pairs binary64) (divide_strict binary64) a.x.good true a.x.low a.x.high a.c a.c _ _ _ c.kept-2.ensures
    refl
    (rw c.widened.ensures at c.kept.ensures)

pub divide_by_spec : {M : Type 1} → statement M
divide_by_spec = tie.close (tie.spec (λ c κs. search rules) (λ c κs. search rules) (λ c κs. search rules) returns)
