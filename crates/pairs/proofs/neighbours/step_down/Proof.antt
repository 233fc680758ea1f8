-- `neighbours::step_down` meets its contract.
use mathlib.Core.Path.{subst, sym}
use lib.Dec.{T}
use lib.Ieee.{binary64, fits}
use Rattle.fraction.proofs.NextNumber.{down_not_nan, next_down_bits}
use Rattle.pairs.proofs.BitSteps.{above_bits, above_number}
use Rattle.pairs.proofs.neighbours.step_down.Statement.{statement}
use Rattle.pairs.proofs.neighbours.step_down.Tie as tie

held : (c : tie.Start) → T (fits binary64 c.args.x)
held c = subst T (sym c.well_formed.0.1) tt

float-to-bits-down-bits : tie.Need-float_to_bits-x
float-to-bits-down-bits c = rw (above_number c.args.x c.requires) tt

down-bits-requires : tie.Need-down_bits-requires
down-bits-requires c κs = above_bits c.args.x c.requires (held c)

float-from-bits-result : tie.Need-float_from_bits-result
float-from-bits-result c =
    rw (c.down_bits.ensures, down_not_nan binary64 c.args.x (held c.before) (rw (above_number c.args.x c.requires) tt)) tt

returns : tie.Need-returns
returns c =
    rw c.down_bits.ensures (sym (next_down_bits binary64 c.args.x (above_number c.args.x c.requires)))

pub step_down_spec : {M : Type 1} → statement M
step_down_spec = tie.close (tie.spec float-to-bits-down-bits down-bits-requires float-from-bits-result returns)
