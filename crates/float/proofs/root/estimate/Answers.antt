use Rattle.std.proofs.Common.{arith}
use Rattle.float.proofs.Tests.{bits_plain}
use Rattle.float.proofs.root.estimate.Goals as goal

pub float_from_bits-x : goal.float_from_bits-x
float_from_bits-x c = bits_plain _ (omega arith)

pub float_from_bits-y0 : goal.float_from_bits-y0
float_from_bits-y0 c = bits_plain _ (omega arith)
