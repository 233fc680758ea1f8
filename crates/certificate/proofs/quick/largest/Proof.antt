-- `quick::largest` meets its contract.
use borrow.Author.Rules.{rules}
use mathlib.Core.Path.{refl}
use Rattle.certificate.proofs.LargestEnd.{largest_stands}
use Rattle.certificate.proofs.quick.largest.Statement.{statement}
use Rattle.certificate.proofs.quick.largest.Tie as tie

returns : tie.Need-returns
returns c = λ a e l S X h. largest_stands a e _ S _ X h _ (rw (c.higher-2.ensures, c.higher.ensures) refl)

pub largest_spec : {M : Type 1} → statement M
largest_spec = tie.close (tie.spec (λ c κs. search rules) (λ c κs. search rules) returns)
