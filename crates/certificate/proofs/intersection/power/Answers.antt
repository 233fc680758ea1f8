use Rattle.std.proofs.Common.{◌≡◌, ◌+◌, ◌-◌, Float, ap, ◌∙◌, arith}
use lib.Ieee.{of_bits, round}
use Rattle.window.specs.Cells.{at}
use Rattle.fraction.specs.Pair.{point}
use Rattle.figure.specs.Operations.{ends}
use Rattle.certificate.specs.Structs.{pair_at}
use Rattle.certificate.proofs.Sums.{total_more, total_none}
use Rattle.certificate.proofs.intersection.power.Invariants.{terms}
use Rattle.certificate.proofs.intersection.power.Goals as goal

pub loop-k-init : goal.loop-k-init
unfolding of_bits round
loop-k-init c = c.both-sum.ensures ∙ total_none ends _ _ _ (omega arith)

pub loop-k-preserved : goal.loop-k-preserved
loop-k-preserved c =
    let l = c.loop-k in
    let a = c.args in
    total_more ends a.j (l.k - a.j) (l.k + 1 - a.j) l.k (terms a.p a.u a.j) _ _ _ (omega arith) (omega arith) l.invariant
    (c.term.ensures ∙ ap (λ (z : Float). ends.times (ends.times (point z) (ends.number (at a.p l.k))) (pair_at a.u (l.k - a.j)))
    (c.requires.1 l.k (omega arith))) c.add-sum.ensures

pub returns : goal.returns
returns c =
    let e : c.loop-k.k ≡ 6 = omega arith in
    rw (c.multiply.ensures, c.loop-k.invariant, e)
