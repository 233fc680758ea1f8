-- `pairs::ends::product` meets its contract.
use Rattle.pairs.proofs.Pairs.{product_is}
use borrow.Author.Rules.{rules}
use Rattle.pairs.proofs.ends.product.Statement.{statement}
use Rattle.pairs.proofs.ends.product.Tie as tie

returns : tie.Need-returns
returns c =
    product_is c.args.a c.args.b _ _ (rw c.is_finite.ensures at c.kept.ensures) c.widened.ensures

pub product_spec : {M : Type 1} → statement M
product_spec = tie.close (tie.spec (λ c κs. search rules) (λ c κs. search rules) (λ c κs. search rules) returns)
