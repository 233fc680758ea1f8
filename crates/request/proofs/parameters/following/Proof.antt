-- `parameters::following` meets its contract: by cases on the spacing.
use mathlib.Core.Path.{sym, ◌∙◌}
use Prim.Native.Nat.{◌+◌, ◌*◌, ◌≤◌}
use native.Mathlib.Nat.{mul-le-mul_right}
use native.Mathlib.Omega.{arith}
use borrow.Author.Rules.{rules}
use lib.Ieee.{binary64, add}
use Rattle.request.specs.Parameters.{parameter_list}
use Rattle.request.proofs.Spaced.{even_at, chord_next}
use Rattle.request.proofs.parameters.following.Statement.{statement}
use Rattle.request.proofs.parameters.following.Tie as tie

shared-slice-read-result : tie.Need-bounds-list-i
shared-slice-read-result c =
    let l = c.requires.0.3 c.in-Listed.is in omega arith

chord-from-requires : tie.Need-chord_from-requires
chord-from-requires c κs =
    let a = c.args in
    let l : (a.i + 1 + 1) * a.d ≤ a.n * a.d = mul-le-mul_right a.d (omega arith) in
    (omega arith, omega arith)

returns : tie.Need-returns-in-Listed
unfolding parameter_list
returns c = rw c.in-Listed.is

returns-2 : tie.Need-returns-in-Even
returns-2 c =
    let a = c.args in
    rw c.in-Even.is
    (c.even_at.ensures ∙ sym (even_at a.list.now a.points.now a.d a.n (a.i + 1) (omega arith)))

returns-3 : tie.Need-returns-in-Chord
returns-3 c =
    let a = c.args in
    let p = rw c.in-Chord.is at c.requires.1 in
    rw c.in-Chord.is
    ((λ j. add binary64 (p j) (c.chord_from.ensures j))
    ∙ sym (chord_next a.list.now a.points.now a.d a.n a.i (omega arith)))

pub following_spec : {M : Type 1} → statement M
following_spec =
    tie.close
    (tie.spec
    (λ c. search rules)
    (λ c. search rules)
    (λ c. search rules)
    shared-slice-read-result
    (λ c. search rules)
    (λ c. search rules)
    (λ c κs. search rules)
    (λ c. search rules)
    chord-from-requires
    returns
    returns-2
    returns-3)
