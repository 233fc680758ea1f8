-- `pairs::ends::add` meets its contract.
use lib.Ieee.{binary64}
use Rattle.fraction.specs.Pair.{add_pairs}
use Rattle.fraction.proofs.Pair.{add_strict}
use Rattle.pairs.proofs.Pairs.{operation_is}
use borrow.Author.Rules.{rules}
use Rattle.pairs.proofs.ends.add.Statement.{statement}
use Rattle.pairs.proofs.ends.add.Tie as tie

returns : tie.Need-returns
unfolding add_pairs
returns c =
    let a = c.args in
    operation_is (add_pairs binary64) (add_strict binary64) a.x.good a.y.good a.x.low a.x.high a.y.low a.y.high _ _ _
    c.kept-2.ensures c.kept.ensures
    (rw (c.sum_up.ensures, c.sum_down.ensures) at c.finite_ends-e.ensures)

pub add_spec : {M : Type 1} → statement M
add_spec = tie.close (tie.spec (λ c κs. search rules) (λ c κs. search rules) (λ c κs. search rules) (λ c κs. search rules)
    (λ c κs. search rules) returns)
