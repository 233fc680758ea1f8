use Rattle.std.proofs.Common.{◌≡◌, ◌+◌, ◌-◌, length, arith}
use Rattle.curve.proofs.Counting.{counted_none, counted_next}
use Rattle.return_lane.specs.Return.{rises_back}
use Rattle.return_lane.proofs.Returned.{rises_at, break_at_law}
use Rattle.return_lane.proofs.breaks.rise_back.Goals as goal

pub loop-i-init : goal.loop-i-init
loop-i-init c = counted_none (rises_at c.args.breaks.now)

pub overflow_add-below : goal.overflow_add-below
overflow_add-below c = omega (arith, c.loop-i.invariant.0, c.one_if-below.ensures.1)

pub loop-i-preserved : goal.loop-i-preserved
loop-i-preserved c =
    let b = c.args.breaks.now in
    let i = c.loop-i.i in
    let k = counted_next (rises_at b) i c.loop-i.below c.loop-i.invariant in
    rw (
      c.one_if-below.ensures.0,
      c.break_at.ensures,
      c.break_at-in-loop-i.ensures,
      ← break_at_law b i (omega arith),
      ← break_at_law b (i + 1) (omega arith),
    ) k

pub returns : goal.returns
unfolding rises_back
returns c =
    let e : c.saturating_sub-last.result ≡ c.loop-i.i = omega arith in
    let f : length c.args.breaks.now - 1 ≡ c.loop-i.i = omega arith in
    rw (e, f) c.loop-i.invariant.1
