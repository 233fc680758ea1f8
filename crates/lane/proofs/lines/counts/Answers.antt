use Rattle.std.proofs.Common.{arith}
use Rattle.lane.proofs.Printing.{counts_are}
use Rattle.lane.proofs.lines.counts.Goals as goal

pub returns : goal.returns
returns c = (
  omega arith,
  counts_are c.args.report _ _ _ _ _ _ _ c.put-at.ensures.out_after c.number-at.ensures.out_after c.number-at-2.ensures.out_after
      c.number-at-3.ensures.out_after c.number-at-4.ensures.out_after c.number-at-5.ensures.out_after c.newline.ensures.out_after,
)
