-- A location that does not lie strictly inside its span ends the insertions; each other is one knot more.
use Rattle.std.proofs.Common.{arith, sym, ap, subst, ◌∙◌, ◌≡◌, ◌+◌, ◌≤◌, ℕ, List, length, drop}
use lib.Ieee.{Float}
use Rattle.smoothing.specs.Answer.Answer.{done}
use Rattle.smoothing.specs.Round.{insert_all}
use Rattle.refinement.specs.declared.plan.Plan.{Plan}
use Rattle.refinement.specs.Memory.{memory_at, spline_at, locations_at, sized, Roomy}
use Rattle.refinement.specs.Kept.{Beside}
use Rattle.refinement.proofs.Memories.{lengths}
use Rattle.refinement.proofs.Inserting.{beside_then, insert_next, insert_stopped, inserts_done}
use Rattle.refinement.proofs.insertions.insert_all.Goals as goal

-- there are as many locations as are asked for
many : (p : Plan) (w : List Float) (count : ℕ) → Roomy p (length w) → p.count + count + 7 ≤ p.room
    → count ≤ length (memory_at p w).locations
many p w count r h = omega (arith, (lengths p w r).locations)

pub returns-then-outside_at-clause-work_after : goal.returns-then-outside_at-clause-work_after
returns-then-outside_at-clause-work_after c =
    let a = c.args in
    let l = c.loop-i in
    let x = c.location_at-x in
    let q = sized a.p (a.p.count + l.i) in
    insert_stopped a.p.axes a.count (memory_at a.p a.work.now).locations (memory_at q l.work).locations l.i x.result
    (spline_at q l.work) _ (many a.p a.work.now a.count c.requires.0 c.requires.1) l.invariant.1.same_locations x.ensures
    l.invariant.2 (omega arith) (sym c.if-outside_at.true ∙ c.outside_at.ensures)

pub loop-i-preserved : goal.loop-i-preserved
loop-i-preserved c =
    let a = c.args in
    let w = a.work.now in
    let l = c.loop-i in
    let x = c.location_at-x in
    let v = c.insert_one in
    let q = sized a.p (a.p.count + l.i) in
    let s : a.p.count + l.i + 1 ≡ a.p.count + (l.i + 1) = omega arith in
    let P : ℕ → Type 0 = λ m. Beside (memory_at a.p w) (memory_at (sized a.p m) v.new.work)
    × (insert_all a.p.axes (drop (l.i + 1) (locations_at a.p a.count w)) (spline_at (sized a.p m) v.new.work)
    ≡ insert_all a.p.axes (locations_at a.p a.count w) (spline_at a.p w)) in
    let r = subst P s (
      beside_then l.invariant.1 v.ensures.beside,
      insert_next a.p.axes a.count (memory_at a.p w).locations (memory_at q l.work).locations l.i x.result
          (spline_at q l.work) _ (many a.p w a.count c.requires.0 c.requires.1) l.invariant.1.same_locations x.ensures
          l.invariant.2 (omega arith) (spline_at (sized a.p (a.p.count + l.i + 1)) v.new.work)
          (sym c.if-outside_at.false ∙ c.outside_at.ensures) v.ensures.work_after,
    ) in
    (omega arith, r.0, r.1)

pub returns-clause-work_after : goal.returns-clause-work_after
returns-clause-work_after c =
    let a = c.args in
    let l = c.loop-i in
    let e : l.i ≡ a.count = omega (arith, l.auto.i-end, c.loop-i-test.false) in
    ap (λ (i : ℕ). done (spline_at (sized a.p (a.p.count + i)) l.work)) (sym e)
    ∙ inserts_done a.p.axes a.count l.i (memory_at a.p a.work.now).locations (spline_at (sized a.p (a.p.count + l.i)) l.work) _
    (omega arith) l.invariant.2
