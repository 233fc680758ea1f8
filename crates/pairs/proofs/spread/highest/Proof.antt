-- `spread::highest` meets its contract.
use borrow.Author.Rules.{rules}
use Rattle.pairs.proofs.spread.highest.Statement.{statement}
use Rattle.pairs.proofs.spread.highest.Tie as tie

returns : tie.Need-returns
returns c = rw (c.higher-3.ensures, c.higher-2.ensures, c.higher.ensures)

pub highest_spec : {M : Type 1} → statement M
highest_spec = tie.close (tie.spec (λ c κs. search rules) (λ c κs. search rules) (λ c κs. search rules) returns)
