-- `pairs::ends::subtract` meets its contract.
use lib.Ieee.{binary64}
use Rattle.fraction.specs.Pair.{subtract_pairs}
use Rattle.fraction.proofs.Pair.{subtract_strict}
use Rattle.pairs.proofs.Pairs.{operation_is}
use borrow.Author.Rules.{rules}
use Rattle.pairs.proofs.ends.subtract.Statement.{statement}
use Rattle.pairs.proofs.ends.subtract.Tie as tie

returns : tie.Need-returns
unfolding subtract_pairs
returns c =
    let a = c.args in
    operation_is (subtract_pairs binary64) (subtract_strict binary64) a.x.good a.y.good a.x.low a.x.high a.y.low a.y.high _ _ _
    c.kept-2.ensures c.kept.ensures
    (rw (c.sum_up.ensures, c.sum_down.ensures) at c.finite_ends-e.ensures)

pub subtract_spec : {M : Type 1} → statement M
subtract_spec = tie.close (tie.spec (λ c κs. search rules) (λ c κs. search rules) (λ c κs. search rules) (λ c κs. search rules)
    (λ c κs. search rules) returns)
