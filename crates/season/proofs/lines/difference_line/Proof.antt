-- `lines::difference_line` meets its contract.
use native.Mathlib.Omega.{arith}
use borrow.Author.Rules.{rules}
use lib.ListN.{take}
use Rattle.text.proofs.Putting.{both_there}
use Rattle.season.proofs.lines.difference_line.Statement.{statement}
use Rattle.season.proofs.lines.difference_line.Tie as tie

returns : tie.Need-returns
returns c =
    let s = c.args in (
      omega (arith, c.difference-next.ensures.0, c.newline.ensures.0),
      both_there (take s.at s.out.now) _ _ _ _ c.difference-next.ensures.1 c.newline.ensures.1,
    )

pub difference_line_spec : {M : Type 1} → statement M
difference_line_spec = tie.close (tie.spec (λ c κs. search rules) (λ c κs. search rules) (λ c. search rules) returns)
