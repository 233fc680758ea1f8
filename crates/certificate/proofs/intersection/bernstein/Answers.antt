use Rattle.std.proofs.Common.{◌≡◌, ℕ, suc, ◌+◌, ap, ◌∙◌, arith}
use Rattle.figure.specs.Intersection.{bernstein, total}
use Rattle.figure.specs.Operations.{ends}
use Rattle.pairs.specs.Structs.{ends_of}
use Rattle.certificate.specs.Structs.{pair_at}
use Rattle.certificate.proofs.Sums.{total_more}
use Rattle.certificate.proofs.intersection.bernstein.Invariants.{terms}
use Rattle.certificate.proofs.intersection.bernstein.Goals as goal

pub loop-j-init : goal.loop-j-init
unfolding bernstein
loop-j-init c = c.requires.1

pub loop-j-preserved : goal.loop-j-preserved
loop-j-preserved c =
    let l = c.loop-j in
    let a = c.args in
    let f = terms (pair_at a.q) a.k in
    let t : ends_of c.divide_by.result ≡ f l.j = rw (
      c.divide_by.ensures,
      c.multiply_by-part.ensures,
      c.requires.2 l.j (omega arith),
      c.requires.3 l.j (omega arith),
    ) in
    total_more ends 0 l.j (l.j + 1) l.j f _ _ _ (omega arith) (omega arith) l.invariant t c.add-sum.ensures

pub returns : goal.returns
unfolding bernstein
returns c =
    let a = c.args in
    let e : c.loop-j.j ≡ suc a.k = omega arith in
    c.loop-j.invariant ∙ ap (λ (n : ℕ). total ends 0 n (terms (pair_at a.q) a.k)) e
