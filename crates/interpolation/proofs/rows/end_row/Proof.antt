-- `rows::end_row` meets its contract: the parts are long enough, and the callees give the row.
use borrow.Author.Rules.{rules}
use Rattle.fitting_rows.specs.Arrays.{arrays_at}
use Rattle.fitting_rows.proofs.Rooms.{span_controls}
use Rattle.interpolation.proofs.Turns.{found_within, end_row_is}
use Rattle.interpolation.proofs.rows.end_row.Statement.{statement}
use Rattle.interpolation.proofs.rows.end_row.Tie as tie

fitting-row-requires : tie.Need-fitting_row-requires
fitting-row-requires c κs =
    let q = c.args.q in
    let w = c.args.cells.now in
    let k = c.span-span in
    let i = found_within (arrays_at q w).t q.count c.args.u k.result c.requires.0.0 k.ensures in
    (c.requires.0.2, span_controls q w c.requires.0 k.result i.0 i.1)

returns : tie.Need-returns
returns c =
    let q = c.args.q in
    let k = c.span-span in
    let p = c.powers-powers in
    let b = c.derivative-basis in
    end_row_is (arrays_at q c.args.cells.now) c.args.u c.args.h c.args.r k.result p.result b.result
    c.fitting_row.result k.ensures p.ensures b.ensures c.fitting_row.ensures

pub end_row_spec : {M : Type 1} → statement M
end_row_spec =
    tie.close
    (tie.spec
    (λ c. search rules)
    (λ c. search rules)
    (λ c. search rules)
    (λ c. search rules)
    (λ c. search rules)
    (λ c. search rules)
    (λ c. search rules)
    (λ c. search rules)
    (λ c κs. search rules)
    (λ c. search rules)
    (λ c. search rules)
    (λ c. search rules)
    (λ c. search rules)
    (λ c κs. search rules)
    (λ c κs. search rules)
    (λ c. search rules)
    (λ c. search rules)
    (λ c. search rules)
    (λ c. search rules)
    (λ c. search rules)
    fitting-row-requires
    returns)
