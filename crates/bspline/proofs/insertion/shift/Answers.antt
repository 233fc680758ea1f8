use Rattle.std.proofs.Common.{◌≡◌, ◌+◌, ◌-◌, ◌∙◌, arith}
use lib.Ieee.{nan}
use Rattle.window.proofs.Written.{moved, moved_none, moved_read, moved_next, moved_all}
use Rattle.bspline.proofs.insertion.shift.Goals as goal

pub loop-i-init : goal.loop-i-init
loop-i-init c = (omega arith, moved_none c.args.s.now c.args.n c.args.by)

pub loop-i-preserved : goal.loop-i-preserved
loop-i-preserved c =
    let l = c.loop-i in
    let a = c.args in
    let e : l.i - 1 + 1 ≡ l.i = omega arith in
    let g : l.s ≡ moved a.s.now a.n a.by (l.i - 1 + 1) = rw e l.invariant.1 in (
      omega arith,
      rw (g, moved_read a.s.now a.n a.by (l.i - 1) nan (omega arith) (omega arith))
          (moved_next a.s.now a.n a.by (l.i - 1) nan (omega arith) (omega arith)),
    )

pub returns : goal.returns
returns c =
    let a = c.args in
    let e : c.loop-i.i ≡ a.from = omega arith in
    c.loop-i.invariant.1 ∙ rw e (moved_all a.s.now a.n a.by a.from (omega arith))
