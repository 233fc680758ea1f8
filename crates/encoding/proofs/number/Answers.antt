-- The test tells the patterns of a NaN from those of a number.
use Rattle.std.proofs.Common.{sym, ◌∙◌}
use Rattle.encoding.proofs.Laws.{nan_is, nan_pattern, number_pattern}
use Rattle.encoding.proofs.number.Goals as goal

pub returns-then-bits-gt-INFINITY : goal.returns-then-bits-gt-INFINITY
returns-then-bits-gt-INFINITY c = nan_is ∙ sym (nan_pattern c.args.bits c.if-bits-gt-INFINITY.true)

pub float_from_bits-result : goal.float_from_bits-result
float_from_bits-result c = number_pattern c.args.bits c.if-bits-gt-INFINITY.false
