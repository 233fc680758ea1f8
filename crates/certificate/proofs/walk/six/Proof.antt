-- `walk::six` meets its contract.
use native.Mathlib.Omega.{arith}
use borrow.Author.Rules.{rules}
use Rattle.certificate.proofs.Coefficients.{six_cells}
use Rattle.certificate.proofs.walk.six.Statement.{statement}
use Rattle.certificate.proofs.walk.six.Tie as tie

returns : tie.Need-returns
returns c =
    let a = c.args in
    six_cells a.coefficients.now a.from (omega arith)

pub six_spec : {M : Type 1} → statement M
six_spec =
    tie.close
    (tie.spec (λ c. search rules) (λ c. search rules) (λ c. search rules) (λ c. search rules) (λ c. search rules) (λ c. search rules)
    (λ c. search rules) (λ c. search rules) (λ c. search rules) (λ c. search rules) (λ c. search rules) (λ c. search rules)
    (λ c. search rules) (λ c. search rules) (λ c. search rules) (λ c. search rules) (λ c. search rules) returns)
