-- `lines::all_lines` meets its contract.
use native.Mathlib.Omega.{arith}
use borrow.Author.Rules.{rules}
use Rattle.text.specs.Decimal.{decimal_of, whole_text}
use Rattle.text.specs.Lines.{line}
use Rattle.season.specs.Printed.{maybe_text, lines_of}
use Rattle.lane_totals.specs.Kept.{totals_in}
use Rattle.season.proofs.Printing.{six_lines}
use Rattle.season.proofs.lines.all_lines.Statement.{statement}
use Rattle.season.proofs.lines.all_lines.Tie as tie

returns : tie.Need-returns
unfolding lines_of
returns c =
    let t = totals_in c.args.sums in (
      omega (arith, c.first_lines-fourth.ensures.0, c.height_line-fifth.ensures.0, c.difference_line-sixth.ensures.0, c.number_line.ensures.0),
      six_lines _ _ _ _ (line (decimal_of t.lanes)) (line (decimal_of t.segments)) (line (maybe_text t.lowest))
          (line (maybe_text t.highest)) (line (whole_text t.sum)) (line (decimal_of t.turned_away)) c.first_lines-fourth.ensures.1
          c.height_line-fifth.ensures.1 c.difference_line-sixth.ensures.1
          c.number_line.ensures.1,
    )

pub all_lines_spec : {M : Type 1} → statement M
all_lines_spec =
    tie.close
    (tie.spec
    (λ c κs. search rules)
    (λ c κs. search rules)
    (λ c. search rules)
    (λ c κs. search rules)
    (λ c κs. search rules)
    (λ c. search rules)
    returns)
