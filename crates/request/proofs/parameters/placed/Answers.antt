use Rattle.std.proofs.Common.{sym, ◌∙◌, arith}
use Rattle.request.specs.Parameters.{misplaced}
use Rattle.request.proofs.Counts.{counted}
use Rattle.request.proofs.parameters.placed.Goals as goal

pub returns-then-miscounted : goal.returns-then-miscounted
unfolding misplaced
returns-then-miscounted c = rw (sym (c.miscounted.ensures c.args.points.now c.args.d) ∙ c.if-miscounted.true)

pub tested-requires : goal.tested-requires
tested-requires c =
    let a = c.args in
    let e = counted a.spacing a.list.now a.points.now a.d a.n (sym (c.miscounted.ensures _ _) ∙ c.if-miscounted.false) in
    (omega arith, omega arith, omega arith, λ s. let l = e s in omega arith)

pub returns : goal.returns
unfolding misplaced
returns c = rw (sym (c.miscounted.ensures c.args.points.now c.args.d) ∙ c.if-miscounted.false) c.tested.ensures
