use Rattle.std.proofs.Common.{◌≡◌, ℕ, Bool, true, false, List, Float, length, Option, is_none, not, refl, sym, ap, ◌∙◌, arith}
use Rattle.window.specs.Cells.{at}
use Rattle.curve.specs.declared.Curve.{Curve}
use Rattle.query.specs.declared.range.Ranged.{Ranged}
use Rattle.query.specs.Range.{ranged_of}
use Rattle.arith.specs.First.{first_of}
use Rattle.arith.proofs.Firsts.{first_next, first_found, first_all}
use Rattle.query.proofs.entry.first_refused.Goals as goal

-- parameter j is refused
abbrev refused : Curve → List Float → ℕ → Bool
refused c xs j = is_none (ranged_of c (at xs j))

pub returns-then-inside : goal.returns-then-inside
returns-then-inside c = let a = c.args in
    first_all (refused a.curve a.xs.now) (length a.xs.now)
    (λ j l. ap (λ (r : Option Ranged). is_none r) (c.requires c.if-inside.true j l))

pub loop-i-init : goal.loop-i-init
unfolding first_of
loop-i-init c = refl

pub returns-then-is_none : goal.returns-then-is_none
returns-then-is_none c = let a = c.args in
    let l = c.loop-i in
    let t : refused a.curve a.xs.now l.i ≡ true =
    ap (λ (r : Option Ranged). is_none r) (sym c.in_range.ensures) ∙ rw c.if-is_none.true at (ap not c.is_none.ensures) in
    (omega arith, sym (first_found (refused a.curve a.xs.now) (length a.xs.now) l.i c.loop-i-test.true l.invariant t))

pub loop-i-preserved : goal.loop-i-preserved
loop-i-preserved c = let a = c.args in
    let l = c.loop-i in
    let t : refused a.curve a.xs.now l.i ≡ false =
    ap (λ (r : Option Ranged). is_none r) (sym c.in_range.ensures) ∙ rw c.if-is_none.false at (ap not c.is_none.ensures) in
    first_next (refused a.curve a.xs.now) l.i l.invariant t
