-- `penalty::penalty_row` meets its contract, by those of its callees.
use Rattle.std.proofs.Common.{rules}
use lib.Ieee.{of_bits, round, div}
use Rattle.fitting_rows.specs.Penalty.{penalty_row_of}
use Rattle.fitting_rows.proofs.penalty.penalty_row.Statement.{statement}
use Rattle.fitting_rows.proofs.penalty.penalty_row.Tie as tie

returns : tie.Need-returns
unfolding penalty_row_of of_bits round div
returns c =
    rw c.fitting_row.ensures (rw (
      c.third-basis.ensures,
      c.powers-powers.ensures,
      c.powi.ensures,
    ))

pub penalty_row_spec : {M : Type 1} → statement M
penalty_row_spec =
    tie.close
    (tie.spec
    (λ c. search rules)
    (λ c. search rules)
    (λ c. search rules)
    (λ c. search rules)
    (λ c. search rules)
    (λ c. search rules)
    (λ c. search rules)
    (λ c κs. search rules)
    (λ c κs. search rules)
    (λ c κs. search rules)
    (λ c. search rules)
    (λ c. search rules)
    (λ c. search rules)
    (λ c κs. search rules)
    returns)
