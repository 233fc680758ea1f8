-- `samples::sample_row_at` meets its contract: the parts are long enough.
use Rattle.std.proofs.Common.{arith, rules}
use Rattle.fitting_rows.specs.Samples.{sample_row_of}
use Rattle.fitting_rows.proofs.Rooms.{span_knots, span_controls, parameters_length, sample_point}
use Rattle.fitting_rows.proofs.samples.sample_row_at.Statement.{statement}
use Rattle.fitting_rows.proofs.samples.sample_row_at.Tie as tie

sample-row-requires : tie.Need-sample_row-requires
sample-row-requires c κs =
    let p = c.args.p in
    let l = c.args.cells.now in
    let h = c.requires.0 in
    let e = parameters_length p l h in
    let k = c.args.span in (
      (c.requires.2, span_knots p l h k c.requires.3, span_controls p l h k c.requires.2 c.requires.3),
      (h.2, h.1, c.requires.1, omega arith, sample_point p l h c.args.i c.requires.1),
    )

returns : tie.Need-returns
unfolding sample_row_of
returns c = c.sample_row.ensures

pub sample_row_at_spec : {M : Type 1} → statement M
sample_row_at_spec =
    tie.close
    (tie.spec
    (λ c. search rules)
    (λ c. search rules)
    (λ c. search rules)
    (λ c. search rules)
    (λ c. search rules)
    (λ c. search rules)
    (λ c. search rules)
    (λ c. search rules)
    (λ c. search rules)
    (λ c. search rules)
    (λ c. search rules)
    (λ c. search rules)
    (λ c. search rules)
    (λ c. search rules)
    (λ c. search rules)
    (λ c. search rules)
    (λ c. search rules)
    (λ c. search rules)
    (λ c. search rules)
    (λ c. search rules)
    (λ c. search rules)
    (λ c. search rules)
    (λ c. search rules)
    sample-row-requires
    returns)
