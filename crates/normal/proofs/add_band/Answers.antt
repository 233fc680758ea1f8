use Rattle.std.proofs.Common.{◌≡◌, ◌+◌, refl, sym, ◌∙◌, arith}
use Rattle.arith.proofs.Loops.{each_next, each_done}
use Rattle.normal.specs.Add.{products_of, add_band_of}
use Rattle.normal.proofs.Places.{active_from, active_to}
use Rattle.normal.proofs.add_band.Goals as goal

pub add_products-requires : goal.add_products-requires
add_products-requires c =
    let a = c.args in
    let control = a.row.start + c.loop-i.i in
    let t = sym c.is_active.ensures ∙ c.if-is_active.true in
    omega (arith, active_from a.a a.n control t, active_to a.a a.n control t)

pub loop-i-init : goal.loop-i-init
unfolding add_band_of
loop-i-init c = refl

pub loop-i-preserved : goal.loop-i-preserved
unfolding products_of
loop-i-preserved c =
    let l = c.loop-i in
    let a = c.args in
    let t = c.is_active.ensures in
    let e : c.if-is_active.h ≡ products_of a.a a.n a.row l.i l.h =
    elim c.if-is_active.branch [
      | goal.then-is_active w ↦ rw (sym t ∙ w.if-is_active.true) (w.h-is ∙ w.add_products.ensures)
      | goal.else-is_active w ↦ rw (sym t ∙ w.if-is_active.false) w.h-is
    ] in
    each_next _ _ _ (omega arith) e l.invariant

pub returns : goal.returns
returns c = sym (each_done _ _ _ _ (omega arith)) ∙ c.loop-i.invariant
