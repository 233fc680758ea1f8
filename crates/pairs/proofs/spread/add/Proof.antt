-- `spread::add` meets its contract.
use native.Mathlib.Omega.{arith}
use Rattle.pairs.proofs.SpreadSums.{sum_stands}
use borrow.Author.Rules.{rules}
use Rattle.pairs.proofs.spread.add.Statement.{statement}
use Rattle.pairs.proofs.spread.add.Tie as tie

returns : tie.Need-returns
returns c = λ a e g l X Y. sum_stands a (omega arith) e g _ _ X Y _ (c.sum.ensures a l X.below_number Y.below_number)
    (c.sum-2.ensures a l X.above_number Y.above_number)

pub add_spec : {M : Type 1} → statement M
add_spec = tie.close (tie.spec (λ c κs. search rules) (λ c κs. search rules) returns)
