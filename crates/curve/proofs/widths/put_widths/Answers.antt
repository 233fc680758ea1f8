-- One width more.
use Rattle.std.proofs.Common.{arith, ◌≡◌, refl, true, length, ◌-◌}
use Rattle.window.specs.Rows.{join}
use Rattle.curve.specs.Form.{width_of}
use Rattle.curve.proofs.Putting.{put_none, put_step}
use Rattle.curve.proofs.widths.put_widths.Goals as goal

pub loop-i-init : goal.loop-i-init
unfolding join
loop-i-init c = (refl, put_none true c.args.from c.args.cells.now)

pub loop-i-preserved : goal.loop-i-preserved
loop-i-preserved c =
    let a = c.args in
    put_step true a.from c.loop-i.i (length a.breaks.now - 1) (width_of a.breaks.now) a.cells.now c.loop-i.cells _ _ (omega arith)
    (λ t. c.requires) c.loop-i.invariant.1 refl refl

pub returns : goal.returns
returns c = let e : c.loop-i.i ≡ length c.args.breaks.now - 1 = omega arith in rw (← e) c.loop-i.invariant.1
