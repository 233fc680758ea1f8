use Rattle.std.proofs.Common.{arith}
use Rattle.lane.proofs.Printing.{exhausted_is}
use Rattle.lane.proofs.lines.exhausted.Goals as goal

pub returns : goal.returns
returns c = (
  omega arith,
  exhausted_is c.args.ratio _ _ _ _ c.refusal-at.ensures.1 c.put-at.ensures.out_after c.float-at.ensures.out_after c.newline.ensures.out_after,
)
