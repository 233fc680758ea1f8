-- `pairs::directed::sum_down` meets its contract.
use mathlib.Core.Path.{◌∙◌}
use borrow.Author.Rules.{rules}
use Rattle.pairs.proofs.directed.sum_down.Statement.{statement}
use Rattle.pairs.proofs.directed.sum_down.Tie as tie

returns : tie.Need-returns
returns c = c.plain.ensures ∙ c.lower_sum.ensures

pub sum_down_spec : {M : Type 1} → statement M
sum_down_spec = tie.close (tie.spec (λ c κs. search rules) (λ c κs. search rules) returns)
