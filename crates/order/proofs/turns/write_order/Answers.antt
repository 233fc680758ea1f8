-- A place more.
use Rattle.std.proofs.Common.{arith, refl, sym, ap, ◌∙◌, List, ℕ, [], ◌∷◌, ◌++◌, drop}
use mathlib.Core.Option.{Option}
use Rattle.window.proofs.Filling.{write_more}
use Rattle.order.specs.Outcome.{placed}
use Rattle.order.proofs.Turning.{course_none, course_more, course_lane, course_done}
use Rattle.order.proofs.turns.write_order.Goals as goal

pub loop-place-init : goal.loop-place-init
loop-place-init c = let a = c.args in ([], course_none a.lanes a.pairs.now, refl)

pub insert-cut-requires : goal.insert-cut-requires
insert-cut-requires c =
    let l = c.loop-place in
    let i = l.invariant in
    let n = c.next-lane in
    let r = course_lane c.args.lanes c.args.pairs.now i.0 l.cut l.place n.result i.1 c.loop-place-test.true (n.ensures i.0 i.1.set) c.requires.3 in
    omega (arith, c.requires.1)

pub loop-place-preserved : goal.loop-place-preserved
loop-place-preserved c =
    let l = c.loop-place in
    let a = c.args in
    let i = l.invariant in
    let n = c.next-lane in
    let t = c.loop-place-test.true in
    let e = n.ensures i.0 i.1.set in
    let r = course_lane a.lanes a.pairs.now i.0 l.cut l.place n.result i.1 t e c.requires.3 in (
      i.0 ++ (n.result ∷ []),
      course_more a.lanes a.pairs.now i.0 l.cut l.place n.result i.1 t e c.insert-cut.result r c.insert-cut.ensures,
      rw i.2 (write_more i.0 a.order.now l.place n.result i.1.long (omega (arith, c.requires.2))),
    )

pub returns : goal.returns
returns c =
    let l = c.loop-place in
    let a = c.args in
    let i = l.invariant in
    let e = course_done a.lanes a.pairs.now i.0 l.cut l.place i.1 c.loop-place-test.false in
    i.2 ∙ ap (λ (n : ℕ). i.0 ++ drop n a.order.now) (sym i.1.long) ∙ sym (ap (λ (o : Option (List ℕ)). (placed o a.order.now).cells) e)
