-- `search::at_or_below` meets its contract.
use mathlib.Core.Path.{sym, subst}
use native.Mathlib.Omega.{arith}
use lib.Dec.{T}
use lib.Ieee.{binary64, fits}
use Rattle.arith.proofs.FloatOrder.{lt_le}
use Rattle.query.proofs.BitOrder.{order_le, order_lt, clear_room, above_room, at_least_number}
use Rattle.query.proofs.search.at_or_below.Statement.{statement}
use Rattle.query.proofs.search.at_or_below.Tie as tie
use Rattle.query.proofs.search.at_or_below.Reads as reads
use Rattle.query.proofs.search.at_or_below.Lts as lts

v-held : (c : lts.Start reads.Pre reads.Post) → T (fits binary64 c.args.v)
v-held c = subst T (sym c.well_formed.0.1) tt

x-held : (c : lts.Start reads.Pre reads.Post) → T (fits binary64 c.args.x)
x-held c = subst T (sym c.well_formed.1.0.1) tt

float-to-bits-top : tie.Need-float_to_bits-top
float-to-bits-top c = rw (at_least_number c.args.x (lt_le _ _ c.requires.1)) tt

add-top : tie.Need-overflow_add-top
add-top c = omega (arith, above_room c.args.x (x-held c) c.requires.1)

float-to-bits-result : tie.Need-float_to_bits-result
float-to-bits-result c = rw (at_least_number c.args.v c.requires.0) tt

sub-result : tie.Need-overflow_sub-result
sub-result c = omega (arith, clear_room c.args.v (v-held c) c.requires.0)

returns : tie.Need-returns
returns c = let a = above_room c.args.x (x-held c) c.requires.1 in
    let b = clear_room c.args.v (v-held c) c.requires.0 in (
      omega arith,
      λ e. order_le c.args.v c.args.x (v-held c) (x-held c) c.requires.1 c.requires.0 (omega arith),
      λ e p. order_lt c.args.v c.args.x (v-held c) (x-held c) c.requires.1 p (omega arith),
    )

pub at_or_below_spec : {M : Type 1} → statement M
at_or_below_spec = tie.close (tie.spec float-to-bits-top add-top float-to-bits-result sub-result returns)
