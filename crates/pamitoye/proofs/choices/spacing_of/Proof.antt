-- `choices::spacing_of` meets its contract: by cases on the number.
use borrow.Author.Tests.{eq-eqb, ne_eqb}
use Rattle.pamitoye.proofs.choices.spacing_of.Statement.{statement}
use Rattle.pamitoye.proofs.choices.spacing_of.Tie as tie

returns : tie.Need-returns-then-spacing-eq1
returns c = rw (eq-eqb _ 1 c.if-spacing-eq1.true)

returns-2 : tie.Need-returns-then-spacing-eq2
returns-2 c = rw (ne_eqb _ 1 c.if-spacing-eq1.false, eq-eqb _ 2 c.if-spacing-eq2.true)

returns-3 : tie.Need-returns
returns-3 c = rw (ne_eqb _ 1 c.if-spacing-eq1.false, ne_eqb _ 2 c.if-spacing-eq2.false)

pub spacing_of_spec : {M : Type 1} → statement M
spacing_of_spec = tie.close (tie.spec returns returns-2 returns-3)
