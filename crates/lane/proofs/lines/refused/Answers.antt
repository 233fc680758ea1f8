use Rattle.std.proofs.Common.{arith}
use Rattle.lane.proofs.Printing.{refused_is}
use Rattle.lane.proofs.lines.refused.Goals as goal

pub returns : goal.returns
returns c = (omega arith, refused_is c.args.number _ _ c.refusal-at.ensures.1 c.newline.ensures.out_after)
