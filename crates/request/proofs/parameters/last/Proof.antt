-- `parameters::last` meets its contract: by cases on the spacing.
use mathlib.Core.Path.{◌≡◌, sym, ap, ◌∙◌}
use Prim.Native.Nat.{ℕ, ◌+◌, ◌-◌, ◌*◌}
use native.Mathlib.Omega.{arith}
use borrow.Author.Rules.{rules}
use Rattle.request.specs.Parameters.{parameter_list}
use Rattle.request.proofs.Spaced.{even_at, chord_at}
use Rattle.request.proofs.parameters.last.Statement.{statement}
use Rattle.request.proofs.parameters.last.Tie as tie

shared-slice-read-result : tie.Need-bounds-list-n
shared-slice-read-result c =
    let l = c.requires.3 c.in-Listed.is in omega arith

chords-requires : tie.Need-chords-requires
chords-requires c κs =
    let a = c.args in
    let e : a.n - 1 + 1 ≡ a.n = omega arith in
    let g = ap (λ (k : ℕ). k * a.d) e in
    (omega arith, omega (arith, g))

returns : tie.Need-returns-in-Listed
unfolding parameter_list
returns c = rw c.in-Listed.is

returns-2 : tie.Need-returns-in-Even
returns-2 c =
    let a = c.args in
    rw c.in-Even.is
    (c.even_at.ensures ∙ sym (even_at a.list.now a.points.now a.d a.n (a.n - 1) (omega arith)))

returns-3 : tie.Need-returns-in-Chord
returns-3 c =
    let a = c.args in
    rw c.in-Chord.is
    (c.chords.ensures ∙ sym (chord_at a.list.now a.points.now a.d a.n (a.n - 1) (omega arith)))

pub last_spec : {M : Type 1} → statement M
last_spec =
    tie.close
    (tie.spec
    (λ c. search rules)
    (λ c. search rules)
    (λ c. search rules)
    shared-slice-read-result
    (λ c. search rules)
    (λ c. search rules)
    (λ c κs. search rules)
    (λ c. search rules)
    (λ c. search rules)
    chords-requires
    returns
    returns-2
    returns-3)
