-- `lines::first_lines` meets its contract.
use native.Mathlib.Omega.{arith}
use borrow.Author.Rules.{rules}
use Rattle.season.proofs.Printing.{three_lines}
use Rattle.season.proofs.lines.first_lines.Statement.{statement}
use Rattle.season.proofs.lines.first_lines.Tie as tie

returns : tie.Need-returns
returns c = (
  omega (arith, c.number_line-second.ensures.0, c.number_line-third.ensures.0, c.height_line.ensures.0),
  three_lines _ _ _ _ _ _ c.number_line-second.ensures.1 c.number_line-third.ensures.1 c.height_line.ensures.1,
)

pub first_lines_spec : {M : Type 1} → statement M
first_lines_spec =
    tie.close (tie.spec (λ c κs. search rules) (λ c κs. search rules) (λ c κs. search rules) (λ c. search rules) returns)
