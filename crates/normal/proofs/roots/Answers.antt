use Rattle.std.proofs.Common.{◌*◌, refl, sym, ◌∙◌, arith}
use Rattle.arith.proofs.Loops.{each_next, each_done}
use Rattle.normal.specs.Solve.{root_of, roots_of}
use Rattle.normal.proofs.Region.{read_band, put_scale}
use Rattle.normal.proofs.roots.Goals as goal

pub loop-i-init : goal.loop-i-init
unfolding roots_of
loop-i-init c = refl

pub loop-i-preserved : goal.loop-i-preserved
unfolding root_of
loop-i-preserved c =
    let l = c.loop-i in
    let a = c.args in
    each_next _ _ _ (omega arith)
    (put_scale a.n a.d l.sys l.i c.sqrt.result (omega arith) ∙ rw (c.sqrt.ensures.value, read_band a.n a.d l.sys (6 * l.i) (omega arith)))
    l.invariant

pub returns : goal.returns
returns c = sym (each_done _ _ _ _ (omega arith)) ∙ c.loop-i.invariant
