-- `neighbours::step_up` meets its contract.
use mathlib.Core.Path.{subst, sym}
use lib.Dec.{T}
use lib.Ieee.{binary64, fits}
use Rattle.fraction.proofs.NextNumber.{up_not_nan, next_up_bits}
use Rattle.pairs.proofs.BitSteps.{below_bits, below_number}
use Rattle.pairs.proofs.neighbours.step_up.Statement.{statement}
use Rattle.pairs.proofs.neighbours.step_up.Tie as tie

held : (c : tie.Start) → T (fits binary64 c.args.x)
held c = subst T (sym c.well_formed.0.1) tt

float-to-bits-up-bits : tie.Need-float_to_bits-x
float-to-bits-up-bits c = rw (below_number c.args.x c.requires) tt

up-bits-requires : tie.Need-up_bits-requires
up-bits-requires c κs = below_bits c.args.x c.requires (held c)

float-from-bits-result : tie.Need-float_from_bits-result
float-from-bits-result c =
    rw (c.up_bits.ensures, up_not_nan binary64 c.args.x (held c.before) (rw (below_number c.args.x c.requires) tt)) tt

returns : tie.Need-returns
returns c =
    rw c.up_bits.ensures (sym (next_up_bits binary64 c.args.x (below_number c.args.x c.requires)))

pub step_up_spec : {M : Type 1} → statement M
step_up_spec = tie.close (tie.spec float-to-bits-up-bits up-bits-requires float-from-bits-result returns)
