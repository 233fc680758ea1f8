-- `pairs::ends::divide` meets its contract.
use lib.Ieee.{binary64}
use Rattle.fraction.specs.Pair.{divide_pairs}
use Rattle.fraction.proofs.Pair.{divide_strict}
use Rattle.pairs.proofs.Pairs.{operation_is}
use borrow.Author.Rules.{rules}
use Rattle.pairs.proofs.ends.divide.Statement.{statement}
use Rattle.pairs.proofs.ends.divide.Tie as tie

returns : tie.Need-returns
unfolding divide_pairs
returns c =
    let a = c.args in
    operation_is (divide_pairs binary64) (divide_strict binary64) a.x.good a.y.good a.x.low a.x.high a.y.low a.y.high _ _ _
    c.kept-3.ensures c.kept-2.ensures
    (rw c.widened-e.ensures at c.kept.ensures)

pub divide_spec : {M : Type 1} → statement M
divide_spec = tie.close (tie.spec (λ c κs. search rules) (λ c κs. search rules) (λ c κs. search rules) (λ c κs. search rules) returns)
