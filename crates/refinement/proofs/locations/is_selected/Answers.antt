-- An axis that is above ends the search.
use Rattle.std.proofs.Common.{arith, refl, sym, ap, ◌∙◌, ◌≡◌, List, ℕ}
use lib.Ieee.{Float, of_bits, round}
use Rattle.request.specs.Any.{any}
use Rattle.request.proofs.Anys.{any_next, any_found}
use Rattle.smoothing.specs.Round.{selected}
use Rattle.refinement.proofs.Locating.{test}
use Rattle.refinement.proofs.locations.is_selected.Goals as goal

pub loop-a-init : goal.loop-a-init
unfolding any
loop-a-init c = refl

pub returns-then-bounds-i : goal.returns-then-bounds-i
unfolding selected of_bits round
returns-then-bounds-i c =
    let a = c.args in
    let b = c.bounds-bounds in
    let l = c.loop-a in
    sym (any_found (test b.result.now a.i a.p.axes) a.p.axes l.a (omega arith) c.if-bounds-i.true)
    ∙ ap (λ (v : List Float). selected a.p.axes v a.i) b.ensures

pub loop-a-preserved : goal.loop-a-preserved
unfolding of_bits round
loop-a-preserved c =
    let l = c.loop-a in any_next (test c.bounds-bounds.result.now c.args.i c.args.p.axes) l.a l.invariant c.if-bounds-i.false

pub returns : goal.returns
unfolding selected
returns c =
    let a = c.args in
    let b = c.bounds-bounds in
    let l = c.loop-a in
    let e : l.a ≡ a.p.axes = omega (arith, l.auto.a-end, c.loop-a-test.false) in
    sym (ap (λ (k : ℕ). any k (test b.result.now a.i a.p.axes)) (sym e) ∙ l.invariant)
    ∙ ap (λ (v : List Float). selected a.p.axes v a.i) b.ensures
