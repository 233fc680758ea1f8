use Rattle.std.proofs.Common.{sym, ap, ◌∙◌}
use lib.Ieee.{binary64, to_bits}
use Rattle.arith.proofs.Nan.{is_nan_law}
use Rattle.encoding.proofs.Laws.{nan_bits_are}
use Rattle.encoding.proofs.pattern.Goals as goal

pub returns-then-is_nan : goal.returns-then-is_nan
returns-then-is_nan c = nan_bits_are ∙ ap (to_bits binary64) (sym (is_nan_law c.args.x (sym c.if-is_nan.ensures.value)))
