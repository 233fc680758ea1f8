use Rattle.std.proofs.Common.{sym, arith}
use Rattle.encoding.specs.Text.{hex_digits, float_text}
use Rattle.encoding.proofs.hex.Goals as goal

pub returns-then-is_nan : goal.returns-then-is_nan
unfolding float_text
returns-then-is_nan c = (omega arith, rw (sym c.if-is_nan.ensures.value, c.copy_from_slice.ensures.after))

pub returns : goal.returns
unfolding float_text hex_digits
returns c = (omega arith, rw (c.digits.ensures, sym c.if-is_nan.ensures.value))
