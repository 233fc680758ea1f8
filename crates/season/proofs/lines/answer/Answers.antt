use Rattle.std.proofs.Common.{arith}
use Rattle.season.specs.Printed.{printed_of}
use Rattle.season.proofs.lines.answer.Goals as goal

pub returns-in-None : goal.returns-in-None
unfolding printed_of
returns-in-None c = (omega (arith, c.put.ensures.value), rw c.in-None.is c.put.ensures.out_after)

pub returns-in-Some : goal.returns-in-Some
unfolding printed_of
returns-in-Some c = (c.all_lines.ensures.0, rw c.in-Some.is c.all_lines.ensures.1)
