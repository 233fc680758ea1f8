-- `penalty::penalty_row_at` meets its contract: the parts are long enough.
use Rattle.std.proofs.Common.{rules}
use Rattle.fitting_rows.specs.Penalty.{penalty_row_of}
use Rattle.fitting_rows.proofs.Rooms.{span_knots, span_controls}
use Rattle.fitting_rows.proofs.penalty.penalty_row_at.Statement.{statement}
use Rattle.fitting_rows.proofs.penalty.penalty_row_at.Tie as tie

penalty-row-requires : tie.Need-penalty_row-requires
penalty-row-requires c κs =
    let p = c.args.p in
    let l = c.args.cells.now in
    let h = c.requires.0 in
    let k = c.args.span in
    (c.requires.1, span_knots p l h k c.requires.2, span_controls p l h k c.requires.1 c.requires.2, h.2, c.requires.3)

returns : tie.Need-returns
unfolding penalty_row_of
returns c = c.penalty_row.ensures

pub penalty_row_at_spec : {M : Type 1} → statement M
penalty_row_at_spec =
    tie.close
    (tie.spec
    (λ c. search rules)
    (λ c. search rules)
    (λ c. search rules)
    (λ c. search rules)
    (λ c. search rules)
    (λ c. search rules)
    (λ c. search rules)
    (λ c. search rules)
    (λ c. search rules)
    (λ c. search rules)
    (λ c. search rules)
    (λ c. search rules)
    penalty-row-requires
    returns)
