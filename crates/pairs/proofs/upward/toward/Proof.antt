-- `upward::toward` meets its contract.
use mathlib.Core.Path.{refl}
use borrow.Author.Rules.{rules}
use Rattle.pairs.proofs.PlainNumbers.{step_pattern}
use Rattle.pairs.proofs.upward.toward.Statement.{statement}
use Rattle.pairs.proofs.upward.toward.Tie as tie

returns : tie.Need-returns-then-up
returns c = rw c.if-up.true (step_pattern _ c.requires)

returns-2 : tie.Need-returns
returns-2 c = rw c.if-up.false refl

pub toward_spec : {M : Type 1} → statement M
toward_spec = tie.close (tie.spec (λ c. search rules) (λ c. search rules) (λ c. search rules) returns returns-2)
