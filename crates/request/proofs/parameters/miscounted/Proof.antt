-- `parameters::miscounted` meets its contract: by cases on the spacing.
use borrow.Author.Rules.{rules}
use borrow.Author.Tests.{eq-eqb}
use Rattle.request.specs.Parameters.{parameter_list}
use Rattle.request.proofs.Spaced.{even_count, chord_count}
use Rattle.request.proofs.parameters.miscounted.Statement.{statement}
use Rattle.request.proofs.parameters.miscounted.Tie as tie

returns : tie.Need-returns-in-Listed
unfolding parameter_list
returns c = λ points d. rw c.in-Listed.is

returns-2 : tie.Need-returns-in-Even
returns-2 c = λ points d.
    let a = c.args in
    rw (c.in-Even.is, eq-eqb _ _ (even_count a.list.now points d a.n))

returns-3 : tie.Need-returns-in-Chord
returns-3 c = λ points d.
    let a = c.args in
    rw (c.in-Chord.is, eq-eqb _ _ (chord_count a.list.now points d a.n))

pub miscounted_spec : {M : Type 1} → statement M
miscounted_spec = tie.close (tie.spec (λ c. search rules) (λ c. search rules) (λ c. search rules) returns returns-2 returns-3)
