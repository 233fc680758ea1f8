use Rattle.std.proofs.Common.{◌≡◌, sym, ◌∙◌, arith}
use Rattle.arith.proofs.Loops.{each_next, each_done}
use Rattle.normal.specs.Add.{product_of}
use borrow.Author.Tests.{le-leb, lt-leb}
use Rattle.normal.proofs.add_products.Goals as goal

pub loop-j-preserved : goal.loop-j-preserved
unfolding product_of
loop-j-preserved c =
    let l = c.loop-j in
    let a = c.args in
    let e : c.if-a-start.h ≡ product_of a.a a.row a.i l.j l.h =
    elim c.if-a-start.branch [
      | goal.then-a-start w ↦ rw (le-leb _ _ w.if-a-start.true) w.h-is
      | goal.else-a-start w ↦ rw (lt-leb _ _ w.if-a-start.false) w.h-is
    ] in
    each_next _ _ _ (omega arith) e l.invariant

pub returns : goal.returns
returns c = sym (each_done _ _ _ _ (omega arith)) ∙ c.loop-j.invariant
