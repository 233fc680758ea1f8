-- `samples::look` meets its contract: the span found is one of the spans, and the parameter is a cell of its part.
use Rattle.std.proofs.Common.{◌+◌, ◌<◌, sym, ap, ◌∙◌, arith, rules}
use lib.Ieee.{Float, nan}
use Rattle.arith.specs.Operations.{floats}
use Rattle.window.proofs.Windows.{window_cell}
use Rattle.bspline.specs.Search.{span_of}
use Rattle.bspline.proofs.InsertPlaced.{span_within}
use Rattle.fitting_rows.specs.Arrays.{arrays_at}
use Rattle.fitting_rows.proofs.Rooms.{span_ends}
use Rattle.fitting_rows.proofs.samples.look.Statement.{statement}
use Rattle.fitting_rows.proofs.samples.look.Tie as tie

returns : tie.Need-returns-then-span-seen
returns c =
    let p = c.args.p in
    let l = c.args.cells.now in
    let cell = window_cell p.parameters (p.parameters + p.samples) l c.args.i nan (omega arith) in (
      sym c.if-span-seen.true ∙ c.span-span.ensures ∙ ap (λ (x : Float). span_of floats (arrays_at p l).t p.count x) (sym cell),
      c.requires.1,
    )

is-dense-requires : tie.Need-is_dense-dense-requires
is-dense-requires c κs =
    let p = c.args.p in
    let l = c.args.cells.now in
    let h = c.requires.0.0 in
    let r = c.span-span in
    let k : r.result < p.count = rw r.ensures (span_within _ p.count _ h.0).1 in
    span_ends p l h r.result k

returns-2 : tie.Need-returns
returns-2 c =
    let p = c.args.p in
    let l = c.args.cells.now in
    let cell = window_cell p.parameters (p.parameters + p.samples) l c.args.i nan (omega arith) in (
      c.span-span.ensures ∙ ap (λ (x : Float). span_of floats (arrays_at p l).t p.count x) (sym cell),
      c.is_dense-dense.ensures,
    )

pub look_spec : {M : Type 1} → statement M
look_spec =
    tie.close
    (tie.spec
    (λ c. search rules)
    (λ c. search rules)
    (λ c. search rules)
    (λ c. search rules)
    (λ c. search rules)
    (λ c. search rules)
    (λ c. search rules)
    (λ c. search rules)
    (λ c. search rules)
    (λ c. search rules)
    (λ c κs. search rules)
    returns
    (λ c. search rules)
    (λ c. search rules)
    (λ c. search rules)
    (λ c. search rules)
    (λ c. search rules)
    (λ c. search rules)
    (λ c. search rules)
    (λ c. search rules)
    is-dense-requires
    returns-2)
