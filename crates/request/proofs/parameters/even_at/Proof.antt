-- `parameters::even_at` meets its contract.
use mathlib.Core.Path.{refl}
use borrow.Author.Rules.{rules}
use Rattle.request.specs.Parameters.{even_of}
use Rattle.request.proofs.parameters.even_at.Statement.{statement}
use Rattle.request.proofs.parameters.even_at.Tie as tie

returns : tie.Need-returns
unfolding even_of
returns c = refl

pub even_at_spec : {M : Type 1} → statement M
even_at_spec =
    tie.close
    (tie.spec
    (λ c. search rules)
    (λ c. search rules)
    (λ c. search rules)
    (λ c. search rules)
    (λ c. search rules)
    returns)
