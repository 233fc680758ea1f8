use Rattle.std.proofs.Common.{◌≡◌, List, ◌∷◌, [], ◌++◌, ℕ, ◌+◌, ◌≤◌, ◌<◌, length, get_or, take, sym, ap, ◌∙◌, arith, add-one, take-suc}
use Rattle.forms.specs.Form.{groups, write_all}
use Rattle.forms.proofs.Putting.{Put, put_more, put_length, write_more}
use Rattle.lane_file.proofs.put.put_axes.Goals as goal

-- one axis more
one_more : (axes : List ℕ) (i : ℕ) → i < length axes
    → write_all groups (take i axes) ++ groups.write (get_or axes i 0) ≡ write_all groups (take (i + 1) axes)
one_more axes i h =
    let e : take i axes ++ (get_or axes i 0 ∷ []) ≡ take (i + 1) axes = rw (add-one, take-suc axes i 0 h) in
    sym (write_more groups (take i axes) (get_or axes i 0)) ∙ ap (write_all groups) e

pub loop-i-preserved : goal.loop-i-preserved
loop-i-preserved c =
    let l = c.loop-i in
    let e = c.put_number-next.ensures in
    let axes = c.args.axes.now in
    let one : Put l.next (groups.write (get_or axes l.i 0)) l.file _ _ = record { now = e.0; next = e.1 } in
    let room : l.next + 3 ≤ length l.file = omega (arith, l.invariant.0, l.invariant.1, c.requires.1) in (
      put_length (omega (arith, e.2, room)) one ∙ l.invariant.0,
      omega (arith, e.2, l.invariant.1),
      rw (← one_more axes l.i (omega (arith, c.requires.0))) (put_more (omega (arith, l.invariant.0, room)) l.invariant.2 one),
    )
