-- `refusals::bad_axes` meets its contract: more than d axes are refused, and up to d in an array as in the list.
use mathlib.Core.Path.{ap, ◌∙◌}
use mathlib.Core.Bool.{not}
use native.Mathlib.Omega.{arith}
use lib.ListN.{length}
use Rattle.smoothing.specs.Checks.{bad_axes}
use Rattle.curve.specs.Places.{padded}
use Rattle.curve.proofs.Padded.{padded_at}
use Rattle.checks.specs.Request.{axes_in}
use Rattle.checks.proofs.Selected.{formed_same, too_many}
use Rattle.checks.proofs.refusals.bad_axes.Goals as goal

pub returns-then-r-count_of : goal.returns-then-r-count_of
unfolding bad_axes
returns-then-r-count_of c =
    let r = c.args.r.now in
    let a = axes_in r.axes r.d in
    rw (too_many a (length a) r.d (rw c.count_of.ensures at c.if-r-count_of.true))

pub returns : goal.returns
unfolding bad_axes
returns c =
    let r = c.args.r.now in
    let a = axes_in r.axes r.d in
    let s = c.chosen-c.ensures in
    let h = rw c.count_of.ensures at c.if-r-count_of.false in
    let q = rw (s.0, s.1) at c.axes_formed.ensures in
    ap not (q ∙ formed_same (padded a) a (length a) r.d (λ i m. padded_at a i (omega arith)))
