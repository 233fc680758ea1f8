-- `spread::times_number` meets its contract.
use Rattle.pairs.proofs.Spreading.{by_stands}
use borrow.Author.Rules.{rules}
use Rattle.pairs.proofs.spread.times_number.Statement.{statement}
use Rattle.pairs.proofs.spread.times_number.Tie as tie

returns : tie.Need-returns
returns c = λ a b e l X C P. by_stands a b l e _ X _ C P _ c.step.ensures c.step-2.ensures

pub times_number_spec : {M : Type 1} → statement M
times_number_spec = tie.close (tie.spec (λ c κs. search rules) (λ c κs. search rules) returns)
