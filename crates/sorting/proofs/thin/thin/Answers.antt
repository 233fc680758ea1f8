use Rattle.std.proofs.Common.{◌≡◌, true, false, refl, sym, ◌∙◌, arith}
use Rattle.window.specs.Cells.{at}
use Rattle.sorting.specs.Thin.{last_of}
use Rattle.sorting.proofs.Thinning.{last_put, walked_none, walked_next, walked_count, walked_cells}
use Rattle.sorting.proofs.thin.thin.Goals as goal
use Rattle.sorting.proofs.thin.thin.Goals.{then-keeps, else-keeps}

pub loop-i-init : goal.loop-i-init
unfolding last_of
loop-i-init g c = (omega arith, refl, λ test h. walked_none test _)

pub loop-i-preserved : goal.loop-i-preserved
loop-i-preserved g c =
    let l = c.loop-i in
    let v = l.invariant in
    elim c.if-keeps.branch [
      | then-keeps w ↦ rw (w.s-is, w.kept-is, w.last-is) (
        omega arith,
        last_put l.s l.kept (at l.s l.i) (omega arith),
        λ test h. let t : test l.last (at l.s l.i) ≡ true = sym (h _ _ _ c.keeps.ensures) ∙ w.if-keeps.true in
            walked_next test _ l.s l.kept l.i true (v.2 test h) (omega arith) (rw v.1 at t),
      )
      | else-keeps w ↦ rw (w.s-is, w.kept-is, w.last-is) (
        omega arith,
        v.1,
        λ test h. let t : test l.last (at l.s l.i) ≡ false = sym (h _ _ _ c.keeps.ensures) ∙ w.if-keeps.false in
            walked_next test _ l.s l.kept l.i false (v.2 test h) (omega arith) (rw v.1 at t),
      )
    ]

pub returns : goal.returns
returns g c =
    λ test h. let l = c.loop-i in
    let w = l.invariant.2 test h in
    (walked_count test _ l.s l.kept l.i w (omega arith), walked_cells test _ l.s l.kept l.i w (omega arith))
