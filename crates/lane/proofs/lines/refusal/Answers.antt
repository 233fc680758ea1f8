use Rattle.std.proofs.Common.{arith}
use Rattle.lane.proofs.Printing.{refusal_is}
use Rattle.lane.proofs.lines.refusal.Goals as goal

pub returns : goal.returns
returns c = (omega arith, refusal_is c.args.number _ _ c.put-at.ensures.out_after c.number.ensures.out_after)
