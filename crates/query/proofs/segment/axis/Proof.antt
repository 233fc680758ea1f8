-- `segment::axis` meets its contract: by cases on the set.
use mathlib.Core.Path.{◌∙◌}
use Prim.Native.Nat.{◌≤◌}
use native.Mathlib.Omega.{arith}
use borrow.Author.Tests.{lt-ltb, le-ltb}
use borrow.Author.Rules.{rules}
use lib.ListN.{length}
use Rattle.query.specs.Segment.{axis_at}
use Rattle.query.proofs.Parts.{six_cells}
use Rattle.query.proofs.segment.axis.Statement.{statement}
use Rattle.query.proofs.segment.axis.Tie as tie

-- the six coefficients of the axis
six : (c : tie.After-coefficients-p) → 6 ≤ length c.coefficients-p.result.now
six c = let a = c.args in
    let e = six_cells a.selected.now a.other.now a.k a.m a.place a.here.span a.there.span c.requires.0 c.requires.1
    c.requires.2 in
    rw c.coefficients-p.ensures (omega (arith, e))

returns : tie.Need-returns-then-place-k
unfolding axis_at
returns c = rw (lt-ltb _ _ c.if-place-k.true) (c.scaled.ensures ∙ rw (c.at.ensures, c.coefficients-p.ensures))

returns-2 : tie.Need-returns
unfolding axis_at
returns-2 c = rw (le-ltb _ _ c.if-place-k.false) (c.scaled-2.ensures ∙ rw (c.at-2.ensures, c.coefficients-p.ensures))

pub axis_spec : {M : Type 1} → statement M
axis_spec =
    tie.close
    (tie.spec
    (λ c κs. search rules)
    (λ c κs. six c.before)
    (λ c κs. search rules)
    returns
    (λ c κs. six c.before)
    (λ c κs. search rules)
    returns-2)
