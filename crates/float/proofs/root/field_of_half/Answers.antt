use mathlib.Core.Path.{ap}
use native.Mathlib.Omega.{arith}
use lib.IntN.{nat_abs}
use Prim.Native.Nat.{◌+◌, ◌/◌}
use Rattle.float.proofs.Exponents.{field_fits, field_is, count_cast}
use Rattle.float.proofs.root.field_of_half.Goals as goal

pub overflow_add-result : goal.overflow_add-result
overflow_add-result c = field_fits c.args.above c.requires.0 c.ranges.above c.requires.1

pub overflow_cast-result : goal.overflow_cast-result
overflow_cast-result c =
    count_cast _ (nat_abs c.args.above / 2 + 485) (field_is c.args.above c.requires.0 c.ranges.above c.requires.1)
    (omega (arith, c.requires.1))

pub returns : goal.returns
returns c = ap nat_abs (field_is c.args.above c.requires.0 c.ranges.above c.requires.1)
