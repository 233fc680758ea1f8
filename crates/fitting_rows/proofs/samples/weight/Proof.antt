-- `samples::weight` meets its contract: by cases on the two tests.
use Rattle.std.proofs.Common.{rules, eq-eqb, ne_eqb}
use lib.Ieee.{of_bits}
use Rattle.fitting_rows.specs.Samples.{weight_of}
use Rattle.fitting_rows.proofs.samples.weight.Statement.{statement}
use Rattle.fitting_rows.proofs.samples.weight.Tie as tie

returns : tie.Need-returns-then-i-eq0
unfolding weight_of of_bits
returns c = rw (eq-eqb _ _ c.if-i-eq0.true)

returns-2 : tie.Need-returns-then-i-n
unfolding weight_of of_bits
returns-2 c = rw (ne_eqb _ _ c.if-i-eq0.false, eq-eqb _ _ c.if-i-n.true)

returns-3 : tie.Need-returns
unfolding weight_of of_bits
returns-3 c = rw (ne_eqb _ _ c.if-i-eq0.false, ne_eqb _ _ c.if-i-n.false)

pub weight_spec : {M : Type 1} → statement M
weight_spec =
    tie.close
    (tie.spec
    (λ c. search rules)
    (λ c. search rules)
    returns
    (λ c. search rules)
    (λ c. search rules)
    (λ c. search rules)
    (λ c. search rules)
    (λ c. search rules)
    (λ c. search rules)
    returns-2
    (λ c. search rules)
    (λ c. search rules)
    (λ c. search rules)
    (λ c. search rules)
    (λ c. search rules)
    (λ c. search rules)
    returns-3)
