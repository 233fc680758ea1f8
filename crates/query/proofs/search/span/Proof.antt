-- `search::span` meets its contract: by cases on where x lies.
use Prim.Native.Nat.{◌+◌}
use native.Mathlib.Omega.{arith}
use Rattle.query.proofs.Searching.{at_least, above_first, found_span, found_first}
use Rattle.query.proofs.search.span.Statement.{statement}
use Rattle.query.proofs.search.span.Tie as tie

at-or-below-requires : tie.Need-at_or_below-requires
at-or-below-requires c κs = (at_least c.args.breaks.now c.requires.0 (c.args.near + 1) c.requires.1, c.if-x.true)

at-or-below-requires-2 : tie.Need-at_or_below-requires-then-x
at-or-below-requires-2 c κs = (at_least c.args.breaks.now c.requires.0 c.args.near (omega (arith, c.requires.1)), c.if-x.true)

returns : tie.Need-returns-then-at_or_below
returns c = let a = c.args in
    let low = c.at_or_below-then-x.ensures in
    let high = c.at_or_below.ensures in
    let last = above_first a.breaks.now c.requires.0 (a.near + 1) (omega arith) c.requires.1 in
    found_span a.breaks.now c.requires.0 a.x a.near
    (c.requires.1, λ h. low.1 (omega (arith, low.0, c.if-at_or_below.true)), λ h. high.2 (omega (arith, low.0, c.if-at_or_below.true)) last)

quarter-requires : tie.Need-quarter-requires
quarter-requires c κs = (c.requires.0, c.if-x.true, omega (arith, c.requires.1))

returns-2 : tie.Need-returns-then-x
returns-2 c = found_span c.args.breaks.now c.requires.0 c.args.x c.quarter.result c.quarter.ensures

returns-3 : tie.Need-returns
returns-3 c = found_span c.args.breaks.now c.requires.0 c.args.x 0
    (found_first c.args.breaks.now c.requires.0 c.args.x c.if-x.false (omega (arith, c.requires.1)))

pub span_spec : {M : Type 1} → statement M
span_spec =
    tie.close
    (tie.spec
    (λ c. omega (arith, c.requires.1))
    (λ c. omega (arith, c.requires.1))
    (λ c. c.requires.1)
    at-or-below-requires
    (λ c. omega (arith, c.requires.1))
    (λ c. omega (arith, c.requires.1))
    at-or-below-requires-2
    returns
    quarter-requires
    returns-2
    returns-3)
