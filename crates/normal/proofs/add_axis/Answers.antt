use Rattle.std.proofs.Common.{◌≡◌, ℕ, true, ◌+◌, ◌-◌, ◌*◌, ◌≤◌, refl, sym, ◌∙◌, arith}
use Rattle.arith.proofs.Loops.{each_next, each_done}
use Rattle.arith.proofs.Rows.{row_end}
use Rattle.normal.specs.Add.{active, share_of, shares_of}
use Rattle.normal.proofs.Places.{active_from, active_to}
use Rattle.normal.proofs.add_axis.Goals as goal

-- the control is active, and its axes lie within the right sides
within : (a n d control : ℕ) → active a n control ≡ true → (a ≤ control) × ((control - a) * d + d ≤ n * d)
within a n d control t =
    let low = active_from a n control t in
    let high = active_to a n control t in
    (low, row_end (control - a) n d (n * d) (omega arith) (omega arith))

pub overflow_sub-k : goal.overflow_sub-k
overflow_sub-k c =
    let a = c.args in
    omega (arith, within a.a a.n a.d (a.row.start + c.loop-i.i) (sym c.is_active.ensures ∙ c.if-is_active.true))

pub overflow_mul-k : goal.overflow_mul-k
overflow_mul-k c =
    let a = c.args in
    omega (arith, within a.a a.n a.d (a.row.start + c.loop-i.i) (sym c.is_active.ensures ∙ c.if-is_active.true))

pub overflow_add-k-then-is_active : goal.overflow_add-k-then-is_active
overflow_add-k-then-is_active c =
    let a = c.args in
    omega (arith, within a.a a.n a.d (a.row.start + c.loop-i.i) (sym c.is_active.ensures ∙ c.if-is_active.true))

pub offset_bounds-r-k : goal.offset_bounds-r-k
offset_bounds-r-k c =
    let a = c.args in
    omega (arith, within a.a a.n a.d (a.row.start + c.loop-i.i) (sym c.is_active.ensures ∙ c.if-is_active.true))

pub bounds-r-k : goal.bounds-r-k
bounds-r-k c =
    let a = c.args in
    omega (arith, within a.a a.n a.d (a.row.start + c.loop-i.i) (sym c.is_active.ensures ∙ c.if-is_active.true))

pub offset_bounds-r-k-then-is_active : goal.offset_bounds-r-k-then-is_active
offset_bounds-r-k-then-is_active c =
    let a = c.args in
    omega (arith, within a.a a.n a.d (a.row.start + c.loop-i.i) (sym c.is_active.ensures ∙ c.if-is_active.true))

pub bounds-r-k-then-is_active : goal.bounds-r-k-then-is_active
bounds-r-k-then-is_active c =
    let a = c.args in
    omega (arith, within a.a a.n a.d (a.row.start + c.loop-i.i) (sym c.is_active.ensures ∙ c.if-is_active.true))

pub loop-i-init : goal.loop-i-init
unfolding shares_of
loop-i-init c = refl

pub loop-i-preserved : goal.loop-i-preserved
unfolding share_of
loop-i-preserved c =
    let l = c.loop-i in
    let a = c.args in
    let t = c.is_active.ensures in
    let e : c.if-is_active.r ≡ share_of a.a a.n a.d a.row a.axis l.i l.r =
    elim c.if-is_active.branch [
      | goal.then-is_active w ↦ rw (sym t ∙ w.if-is_active.true) w.r-is
      | goal.else-is_active w ↦ rw (sym t ∙ w.if-is_active.false) w.r-is
    ] in
    each_next _ _ _ (omega arith) e l.invariant

pub returns : goal.returns
returns c = sym (each_done _ _ _ _ (omega arith)) ∙ c.loop-i.invariant
