use mathlib.Core.Path.{sym, subst}
use Prim.Native.Nat.{◌+◌, ◌*◌, ◌/◌, ◌%◌, ◌^◌, ◌≤◌}
use native.Mathlib.Omega.{arith}
use lib.Count.{leading_le}
use Rattle.float.specs.RootSteps.{Scaling}
use Rattle.float.proofs.Exponents.{low_fits, low_back, high_fits, high_back}
use Rattle.float.proofs.Scales.{lead, leading, scale_low, scale_high}
use Rattle.float.proofs.root.scale.Goals as goal

pub overflow_sub-zeros : goal.overflow_sub-zeros
overflow_sub-zeros c = (leading c.args.bits (omega arith) (omega arith)).enough

pub overflow_cast-result : goal.overflow_cast-result
overflow_cast-result c = record { fits = omega (arith, leading_le 64 c.args.bits) }

pub overflow_shl-result : goal.overflow_shl-result
overflow_shl-result c = omega (arith, leading_le 64 c.args.bits)

pub overflow_cast-result-then-field-eq0 : goal.overflow_cast-result-then-field-eq0
overflow_cast-result-then-field-eq0 c = record { sfits = omega (arith, (leading c.args.bits (omega arith) (omega arith)).is) }

pub overflow_sub-result : goal.overflow_sub-result
overflow_sub-result c = low_fits (lead c.args.bits) (omega (arith, (leading c.args.bits (omega arith) (omega arith)).is))

pub overflow_cast-result-else-field-eq0 : goal.overflow_cast-result-else-field-eq0
overflow_cast-result-else-field-eq0 c = record { sfits = omega arith }

pub overflow_sub-result-else-field-eq0 : goal.overflow_sub-result-else-field-eq0
overflow_sub-result-else-field-eq0 c = high_fits (c.args.bits / 0x10_0000_0000_0000) (omega arith)

pub returns-then-field-eq0 : goal.returns-then-field-eq0
returns-then-field-eq0 c =
    let b = c.args.bits in
    let few : lead b ≤ 52 = omega (arith, (leading b (omega arith) (omega arith)).is) in
    subst (Scaling b (b * 2 ^ lead b % 0x1_0000_0000_0000_0000)) (sym (low_back (lead b) few))
    (scale_low b (omega arith) (omega arith))

pub returns-else-field-eq0 : goal.returns-else-field-eq0
returns-else-field-eq0 c =
    let b = c.args.bits in
    subst (Scaling b (b % 0x10_0000_0000_0000 + 0x10_0000_0000_0000)) (sym (high_back (b / 0x10_0000_0000_0000) (omega arith)))
    (scale_high b c.if-field-eq0.false (omega arith))
