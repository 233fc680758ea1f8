use Rattle.std.proofs.Common.{◌≡◌, ◌+◌, ◌-◌, ◌*◌, ◌≤◌, length, refl, arith}
use Rattle.arith.specs.Operations.{floats}
use Rattle.bspline.specs.Insertion.{weight_at}
use Rattle.bspline.proofs.Inserted.{mixing_start, mixing_next, mixing_done}
use Rattle.bspline.proofs.insertion.insert_controls.Goals as goal

pub loop-i-init : goal.loop-i-init
loop-i-init c =
    let a = c.args in (
      omega arith,
      λ old room e. rw e (mixing_start floats (weight_at floats a.w a.k) a.d a.m a.k old (omega arith) (omega arith) room),
    )

pub loop-i-preserved : goal.loop-i-preserved
loop-i-preserved c =
    let l = c.loop-i in
    let a = c.args in
    let q : l.i - 1 + 1 ≡ l.i = omega arith in (
      omega arith,
      λ old room e. rw c.mix_row.ensures
          (mixing_next floats (weight_at floats a.w a.k) a.d a.m a.k old (omega arith) (omega arith) room (l.i - 1) l.c _
          (omega arith) (omega arith) refl (rw q (l.invariant.1 old room e))),
    )

pub returns : goal.returns
returns c =
    let l = c.loop-i in
    let a = c.args in
    let room : (a.m + 1) * a.d ≤ length a.c.now = omega arith in
    let e : l.i ≡ a.k - 4 = omega arith in
    mixing_done floats (weight_at floats a.w a.k) a.d a.m a.k a.c.now (omega arith) (omega arith) room l.c
    (rw e at (l.invariant.1 a.c.now room c.shift.ensures))
