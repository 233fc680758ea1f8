-- `pairs::directed::plain` meets its contract.
use Rattle.fraction.specs.DirectedSum.{plain_zero}
use Rattle.pairs.proofs.directed.plain.Statement.{statement}
use Rattle.pairs.proofs.directed.plain.Tie as tie

returns : tie.Need-returns-then-x
unfolding plain_zero
returns c = rw c.if-x.true

returns-2 : tie.Need-returns
unfolding plain_zero
returns-2 c = rw c.if-x.false

pub plain_spec : {M : Type 1} → statement M
plain_spec = tie.close (tie.spec returns returns-2)
