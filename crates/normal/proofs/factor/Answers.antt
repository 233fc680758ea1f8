use Rattle.std.proofs.Common.{refl, sym, ap, ◌∙◌, arith}
use Rattle.arith.proofs.Loops.{till_done, till_next, till_stop}
use Rattle.normal.specs.Solve.{Factored, reduced_of, factor_of}
use Rattle.normal.proofs.Pivots.{pivot_stop, pivot_next}
use Rattle.std.proofs.Common.{List}
use lib.Ieee.{Float}
use Rattle.normal.proofs.factor.Goals as goal

pub loop-i-init : goal.loop-i-init
unfolding factor_of
loop-i-init c = refl

pub returns-then-unfit : goal.returns-then-unfit
returns-then-unfit c =
    let l = c.loop-i in
    let e = c.eliminate.ensures in
    let v = c.reduced-pivot.ensures ∙ ap (λ (g : List Float). reduced_of g l.i l.i) e in
    let t = sym c.unfit.ensures ∙ c.if-unfit.true in
    let f = sym (till_stop _ _ _ _ _ _ (omega arith) (pivot_stop l.i l.h _ v t)) ∙ l.invariant in
    record { value = ap (λ (x : Factored). x.whole) f; h_after = e ∙ ap (λ (x : Factored). x.band) f }

pub loop-i-preserved : goal.loop-i-preserved
loop-i-preserved c =
    let l = c.loop-i in
    let e = c.eliminate.ensures in
    let v = c.reduced-pivot.ensures ∙ ap (λ (g : List Float). reduced_of g l.i l.i) e in
    let t = sym c.unfit.ensures ∙ c.if-unfit.false in
    rw (c.sqrt.ensures.value, e) (sym (till_next _ _ _ _ _ _ (omega arith) (pivot_next l.i l.h _ v t)) ∙ l.invariant)

pub returns : goal.returns
returns c =
    let f = sym (till_done _ _ _ _ _ (omega arith)) ∙ c.loop-i.invariant in
    record { value = ap (λ (x : Factored). x.whole) f; h_after = ap (λ (x : Factored). x.band) f }
