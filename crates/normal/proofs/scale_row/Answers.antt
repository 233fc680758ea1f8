use Rattle.std.proofs.Common.{◌≡◌, ◌+◌, ◌-◌, ◌*◌, min, sym, ◌∙◌, arith}
use Rattle.arith.proofs.Loops.{each_next, each_done}
use Rattle.normal.specs.Solve.{scale_cell_of, scale_row_of}
use Rattle.normal.proofs.Region.{read_band, read_scale, put_band}
use Rattle.normal.proofs.scale_row.Goals as goal

pub loop-k-init : goal.loop-k-init
unfolding scale_row_of
loop-k-init c =
    let e : c.min-k-end.result ≡ min 5 c.args.i = omega arith in rw e

pub loop-k-preserved : goal.loop-k-preserved
unfolding scale_cell_of
loop-k-preserved c =
    let l = c.loop-k in
    let a = c.args in
    let e = put_band a.n a.d l.sys (6 * a.i + l.k) _ (omega arith) in
    each_next _ _ _ (omega arith)
    (e ∙ rw (
      read_band a.n a.d l.sys (6 * a.i + l.k) (omega arith),
      read_scale a.n a.d l.sys a.i (omega arith),
      read_scale a.n a.d l.sys (a.i - l.k) (omega arith),
    ))
    l.invariant

pub returns : goal.returns
returns c = sym (each_done _ _ _ _ (omega arith)) ∙ c.loop-k.invariant
