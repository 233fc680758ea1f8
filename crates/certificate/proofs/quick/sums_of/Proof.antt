-- `quick::sums_of` meets its contract.
use native.Mathlib.Omega.{arith}
use mathlib.Core.Path.{◌∙◌, sym}
use borrow.Author.Rules.{rules}
use Rattle.arith.proofs.Truth.{never}
use Rattle.certificate.proofs.quick.sums_of.Statement.{statement}
use Rattle.certificate.proofs.quick.sums_of.Tie as tie

returns : tie.Need-returns-then-good
returns c = λ g M L D. c.sums.ensures _ M.coefficients (c.powers_of.ensures _ (c.over.ensures 2 2 _ _
    (omega arith)
    L.2 L.0 D.2 D.0))

returns-2 : tie.Need-returns
returns-2 c = λ g M L D. never (sym c.if-good.false ∙ g)

pub sums_of_spec : {M : Type 1} → statement M
sums_of_spec = tie.close (tie.spec (λ c κs. search rules) (λ c κs. search rules) (λ c κs. search rules) returns (λ c κs. search rules)
    returns-2)
