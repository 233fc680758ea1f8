use mathlib.Core.Path.{◌∙◌}
use lib.IntN.{ℤ, pos, ◌+ℤ◌}
use Rattle.float.proofs.Exponents.{lifted, lifted_fits, fits_after, back_after}
use Rattle.float.proofs.root.above_least.Goals as goal

pub overflow_add-result : goal.overflow_add-result
overflow_add-result c = fits_after (λ (z : ℤ). z +ℤ pos 1074) c.args.exponent c.ranges.exponent (lifted_fits c.args.exponent c.requires)

pub returns : goal.returns
returns c =
    λ e. back_after (λ (z : ℤ). z +ℤ pos 1074) c.args.exponent c.ranges.exponent (lifted_fits c.args.exponent c.requires)
    ∙ lifted c.args.exponent e
