use Rattle.std.proofs.Common.{length, sym, ap, arith}
use Rattle.forms.proofs.Putting.{one_group, two_groups, three_groups}
use Rattle.forms.proofs.put.group_count.Goals as goal

pub returns-then-n-lt128 : goal.returns-then-n-lt128
returns-then-n-lt128 c = (sym (ap length (one_group c.args.n c.if-n-lt128.true)), omega arith)

pub returns-then-n-lt128-2 : goal.returns-then-n-lt128-2
returns-then-n-lt128-2 c = (sym (ap length (two_groups c.args.n c.if-n-lt128.false c.if-n-lt128-2.true)), omega arith)

pub returns : goal.returns
returns c = (sym (ap length (three_groups c.args.n c.requires c.if-n-lt128-2.false)), omega arith)
