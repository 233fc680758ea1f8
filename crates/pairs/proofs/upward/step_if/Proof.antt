-- `upward::step_if` meets its contract.
use mathlib.Core.Path.{subst, sym}
use lib.Dec.{T}
use lib.Ieee.{binary64, fits}
use borrow.Author.Rules.{rules}
use Rattle.pairs.proofs.PlainNumbers.{bounded_bits, bounded_not_nan, stepped, stepped_not_nan}
use Rattle.pairs.proofs.upward.step_if.Statement.{statement}
use Rattle.pairs.proofs.upward.step_if.Tie as tie

held : (c : tie.Start) → T (fits binary64 c.args.x)
held c = subst T (sym c.well_formed.0.1) tt

float-to-bits-toward : tie.Need-float_to_bits-bounded
float-to-bits-toward c = rw (c.bounded.ensures, bounded_not_nan c.args.x (held c.before)) tt

toward-requires : tie.Need-toward-requires
toward-requires c κs = rw c.bounded.ensures (bounded_bits c.args.x (held c.before))

float-from-bits-result : tie.Need-float_from_bits-result
float-from-bits-result c = rw (c.toward.ensures, c.bounded.ensures, stepped_not_nan c.args.x (held c.before.before) c.args.up) tt

returns : tie.Need-returns
returns c = rw (c.toward.ensures, c.bounded.ensures) (stepped c.args.x (held c.before.before) c.args.up)

pub step_if_spec : {M : Type 1} → statement M
step_if_spec = tie.close (tie.spec (λ c κs. search rules) float-to-bits-toward toward-requires float-from-bits-result returns)
