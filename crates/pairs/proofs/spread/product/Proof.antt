-- `spread::product` meets its contract.
use Rattle.pairs.proofs.Spreading.{read_stands}
use borrow.Author.Rules.{rules}
use Rattle.pairs.proofs.spread.product.Statement.{statement}
use Rattle.pairs.proofs.spread.product.Tie as tie

returns : tie.Need-returns
returns c = λ a b l C P. read_stands a b l _ _ C P _ c.step.ensures c.step-2.ensures

pub product_spec : {M : Type 1} → statement M
product_spec = tie.close (tie.spec (λ c κs. search rules) (λ c κs. search rules) returns)
