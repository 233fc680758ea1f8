use Rattle.std.proofs.Common.{T, refl, sym, subst, ◌∙◌, arith}
use Rattle.float.proofs.Tests.{is_nan_yes, bits_plain, plain_bits}
use Rattle.float.proofs.OrderCases.{abs_bits}
use Rattle.float.proofs.order.abs.Goals as goal

pub returns-then-is_nan : goal.returns-then-is_nan
returns-then-is_nan c = rw (is_nan_yes c.args.x (sym c.is_nan.ensures.value ∙ c.if-is_nan.true)) refl

pub float_from_bits-result : goal.float_from_bits-result
float_from_bits-result c =
    let p = plain_bits c.args.x (subst T (sym c.well_formed.0.1) tt) (sym c.is_nan.ensures.value ∙ c.if-is_nan.false) in
    bits_plain _ (omega (arith, p))

pub returns : goal.returns
returns c = abs_bits c.args.x (subst T (sym c.well_formed.0.1) tt)
