use Rattle.std.proofs.Common.{◌+◌, ◌*◌, [], ◌∷◌, refl, ap, ◌∙◌, arith}
use Rattle.window.specs.Rows.{join}
use Rattle.query.specs.declared.segment.Derivatives.{Derivatives}
use Rattle.query.specs.Row.{outputs, filled, standing}
use Rattle.query.proofs.Filled.{as_long, room_for, filled_none, rows_next}
use Rattle.query.proofs.row.put_axes.Invariants.{axis}
use Rattle.query.proofs.row.put_axes.Goals as goal

pub loop-a-init : goal.loop-a-init
unfolding join
loop-a-init c = let g = c.args in filled_none g.order g.at (outputs g.q.now g.dq.now g.ddq.now g.dddq.now)

pub loop-a-preserved : goal.loop-a-preserved
loop-a-preserved c =
    let l = c.loop-a in
    let g = c.args in
    let d = g.k + g.m in
    let given = outputs g.q.now g.dq.now g.ddq.now g.dddq.now in
    let o = outputs l.q l.dq l.ddq l.dddq in
    let w = axis g.selected.now g.other.now g.k g.m g.table.now g.here g.there g.scale g.outside in
    (rows_next g.order g.at 1 l.a d (g.at + l.a) (λ part b. part (w b) ∷ []) given o _ (omega arith) (λ part j. refl)
    c.loop-a-test.true (room_for g.order (g.at + d * 1) (g.at + d) given given (omega arith) (as_long given) c.requires.room) l.invariant
    (c.put_axis.ensures ∙ ap (λ (x : Derivatives). filled g.order (g.at + l.a) (λ part. part x ∷ []) o)
    (c.stand.ensures ∙ ap (standing g.outside) c.axis-v.ensures))).1
