-- The first that is found.
use Rattle.std.proofs.Common.{arith, ◌≡◌, refl, sym, eqb, get_or}
use borrow.Author.Tests.{eq-eqb, ne_eqb}
use Rattle.arith.specs.First.{first_of}
use Rattle.arith.proofs.Firsts.{first_next, first_found}
use Rattle.curve.proofs.place.position.Goals as goal

pub loop-i-init : goal.loop-i-init
unfolding first_of
loop-i-init c = refl

pub returns-then-axes-i : goal.returns-then-axes-i
returns-then-axes-i c =
    let l = c.loop-i in
    sym (first_found (λ j. eqb (get_or c.args.axes.now j 0) c.args.a) c.args.n l.i c.loop-i-test.true l.invariant (eq-eqb _ _ c.if-axes-i.true))

pub loop-i-preserved : goal.loop-i-preserved
loop-i-preserved c =
    let l = c.loop-i in
    first_next (λ j. eqb (get_or c.args.axes.now j 0) c.args.a) l.i l.invariant (ne_eqb _ _ c.if-axes-i.false)

pub returns : goal.returns
returns c = let e : c.loop-i.i ≡ c.args.n = omega arith in rw (← e) (sym c.loop-i.invariant)
