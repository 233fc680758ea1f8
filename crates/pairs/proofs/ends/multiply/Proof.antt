-- `pairs::ends::multiply` meets its contract.
use lib.Ieee.{binary64}
use Rattle.fraction.specs.Pair.{multiply_pairs}
use Rattle.fraction.proofs.Pair.{multiply_strict}
use Rattle.pairs.proofs.Pairs.{operation_is}
use borrow.Author.Rules.{rules}
use Rattle.pairs.proofs.ends.multiply.Statement.{statement}
use Rattle.pairs.proofs.ends.multiply.Tie as tie

returns : tie.Need-returns
unfolding multiply_pairs
returns c =
    let a = c.args in
    operation_is (multiply_pairs binary64) (multiply_strict binary64) a.x.good a.y.good a.x.low a.x.high a.y.low a.y.high _ _ _
    c.kept-2.ensures c.kept.ensures c.widened-e.ensures

pub multiply_spec : {M : Type 1} → statement M
multiply_spec = tie.close (tie.spec (λ c κs. search rules) (λ c κs. search rules) (λ c κs. search rules) returns)
