-- `pairs::ends::largest_end` meets its contract.
use Rattle.fraction.specs.Pair.{largest_absolute}
use borrow.Author.Rules.{rules}
use Rattle.pairs.proofs.ends.largest_end.Statement.{statement}
use Rattle.pairs.proofs.ends.largest_end.Tie as tie

returns : tie.Need-returns
unfolding largest_absolute
returns c = rw (c.higher.ensures, c.abs-2.ensures, c.abs.ensures)

pub largest_end_spec : {M : Type 1} → statement M
largest_end_spec = tie.close (tie.spec (λ c κs. search rules) (λ c κs. search rules) (λ c κs. search rules) returns)
