-- `parameters::first` meets its contract: by cases on the spacing.
use mathlib.Core.Path.{sym, ◌∙◌}
use native.Mathlib.Omega.{arith}
use borrow.Author.Rules.{rules}
use Rattle.request.specs.Parameters.{parameter_list}
use Rattle.request.proofs.Spaced.{even_at, chord_first}
use Rattle.request.proofs.parameters.first.Statement.{statement}
use Rattle.request.proofs.parameters.first.Tie as tie

shared-slice-read-result : tie.Need-bounds-list-0
shared-slice-read-result c =
    let l = c.requires.2 c.in-Listed.is in omega arith

returns : tie.Need-returns-in-Listed
unfolding parameter_list
returns c = λ points d. rw c.in-Listed.is

returns-2 : tie.Need-returns-in-Even
returns-2 c = λ points d.
    let a = c.args in
    rw c.in-Even.is (c.even_at.ensures ∙ sym (even_at a.list.now points d a.n 0 (omega arith)))

returns-3 : tie.Need-returns-in-Chord
returns-3 c = λ points d.
    let a = c.args in
    rw c.in-Chord.is (sym (chord_first a.list.now points d a.n (omega arith)))

pub first_spec : {M : Type 1} → statement M
first_spec =
    tie.close
    (tie.spec
    (λ c. search rules)
    shared-slice-read-result
    (λ c. search rules)
    (λ c κs. search rules)
    (λ c. search rules)
    returns
    returns-2
    returns-3)
