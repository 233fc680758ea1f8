use mathlib.Core.Path.{ap}
use native.Mathlib.Omega.{arith}
use lib.IntN.{nat_abs}
use Prim.Native.Nat.{◌%◌}
use Rattle.float.proofs.Exponents.{less_fits, left_fits, left_is, count_cast}
use Rattle.float.proofs.root.odd.Goals as goal

pub overflow_sub-result : goal.overflow_sub-result
overflow_sub-result c = less_fits c.args.above c.requires c.ranges.above

pub overflow_sub-result-2 : goal.overflow_sub-result-2
overflow_sub-result-2 c = left_fits c.args.above c.requires c.ranges.above

pub overflow_cast-result : goal.overflow_cast-result
overflow_cast-result c = count_cast _ (nat_abs c.args.above % 2) (left_is c.args.above c.requires c.ranges.above) (omega arith)

pub returns : goal.returns
returns c = ap nat_abs (left_is c.args.above c.requires c.ranges.above)
