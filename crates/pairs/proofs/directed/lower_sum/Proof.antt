-- `pairs::directed::lower_sum` meets its contract.
use mathlib.Core.Bool.{or-true}
use lib.Ieee.{binary64}
use Rattle.fraction.proofs.SumTest.{downward_by_test}
use borrow.Author.Rules.{rules}
use Rattle.pairs.proofs.directed.lower_sum.Statement.{statement}
use Rattle.pairs.proofs.directed.lower_sum.Tie as tie
use Rattle.pairs.proofs.directed.lower_sum.Lts.{then-y-p-via-then-y-p, then-y-p-via-else-y-p+then-x-q}

returns : tie.Need-returns-then-y-p
returns c =
    let by-test = downward_by_test binary64 c.args.x c.args.y (rw c.well_formed.0.1 tt) (rw c.well_formed.1.0.1 tt) in
    elim c.then-y-p.branch [
      | then-y-p-via-then-y-p t ↦ rw (by-test, t.if-y-p.true, c.next_down-down.ensures)
      | then-y-p-via-else-y-p+then-x-q t ↦ rw (by-test, t.if-x-q.true, or-true _, c.next_down-down.ensures)
    ]

returns-2 : tie.Need-returns
returns-2 c =
    let by-test = downward_by_test binary64 c.args.x c.args.y (rw c.well_formed.0.1 tt) (rw c.well_formed.1.0.1 tt) in
    rw (by-test, c.if-y-p.false, c.if-x-q.false)

pub lower_sum_spec : {M : Type 1} → statement M
lower_sum_spec = tie.close (tie.spec (λ c κs. search rules) returns returns-2)
