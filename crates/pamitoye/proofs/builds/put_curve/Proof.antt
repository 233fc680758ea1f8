-- `builds::put_curve` meets its contract.
use mathlib.Core.Path.{refl}
use borrow.Author.Tests.{ne_eqb}
use Rattle.pamitoye.proofs.builds.put_curve.Statement.{statement}
use Rattle.pamitoye.proofs.builds.put_curve.Tie as tie

returns : tie.Need-returns-then-number-eq0
returns c = rw c.if-number-eq0.true refl

returns-2 : tie.Need-returns-else-number-eq0
returns-2 c = rw (ne_eqb c.args.number 0 c.if-number-eq0.false) refl

pub put_curve_spec : {M : Type 1} → statement M
put_curve_spec = tie.close (tie.spec returns returns-2)
