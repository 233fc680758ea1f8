-- The audit from interval i on: it begins with the cells as they are, takes an interval in, or ends there.
use Rattle.std.proofs.Common.{arith, refl, sym, ap, ◌∙◌, ◌≡◌, ◌+◌, ◌-◌, ◌*◌, List, length, set}
use lib.ListN.{length-set}
use lib.Ieee.{Float}
use Rattle.arith.proofs.Loops.{till_done, till_next, till_stop}
use Rattle.window.proofs.Windows.{length_window}
use Rattle.polynomial.specs.Outcome.{is_done}
use Rattle.polynomial.specs.Audit.{Audit, bounds_with, audit_of}
use Rattle.polynomial.specs.Placed.{bounds_at, witness_at, with_bounds}
use Rattle.polynomial.proofs.Counts.{goes_on, stops}
use Rattle.polynomial.proofs.Placed.{bounds_length, bounds_own, bounds_keep, bounds_next, interval_same}
use Rattle.polynomial.proofs.audit.audit_with.Goals as goal

pub loop-i-init : goal.loop-i-init
loop-i-init c =
    let a = c.args in
    let p = a.p in
    let w = a.work.now in
    let x = length_window p.bounds (p.bounds + (p.samples - 1) * p.axes) w (omega arith) (omega arith) in
    let z = length_window p.witness (p.witness + (p.samples - 1)) w (omega arith) (omega arith) in (
      omega arith,
      omega arith,
      refl,
      refl,
      (bounds_at p w, witness_at p w, omega arith, omega arith, sym (bounds_own p w), unfold audit_of in rw c.span_at-k.ensures.0),
    )

pub returns-in-Err : goal.returns-in-Err
returns-in-Err c =
    let l = c.loop-i in
    let a = c.args in
    let v = l.invariant.4 in
    let f = c.in-Err.ensures.ends in
    let r = interval_same a.p a.work.now v.0 v.1 c.requires.0 v.2 v.3 l.i l.k v.4 refl in
    let e = sym (till_stop _ _ _ _ _ _ (omega arith) (stops _ _ _ _ _ _ _ _ r (sym (ap is_done f.1)))) ∙ v.5 in (
      f.1 ∙ ap (λ (x : Audit). x.outcome) e,
      ap (λ (x : Audit). x.checked) e,
      v.4 ∙ ap (λ (x : Audit). with_bounds a.p x.bounds x.witness a.work.now) e,
    )

pub loop-i-preserved : goal.loop-i-preserved
loop-i-preserved c =
    let l = c.loop-i in
    let a = c.args in
    let p = a.p in
    let laid = c.requires.0 in
    let v = l.invariant.4 in
    let r = c.in-Ok.r in
    let found = c.interval_at.new.bounds in
    let is = interval_same p a.work.now v.0 v.1 laid v.2 v.3 l.i l.k v.4 c.in-Ok.ensures.ends in
    let g : List Float → List Float = λ b. bounds_with (l.i * p.axes) p.axes found b in
    let h : List Float → List Float = λ b. set b l.i r.witness in
    let n : length (g v.0) ≡ (p.samples - 1) * p.axes = bounds_length (l.i * p.axes) p.axes found v.0 ∙ v.2 in
    let m : length (h v.1) ≡ p.samples - 1 = simp length-set v.3 in
    let w = bounds_next p a.work.now v.0 v.1 laid v.2 v.3 g h n v.4 c.put.ensures in (
      c.in-Ok.ensures.inside,
      omega arith,
      ap length w ∙ bounds_keep p a.work.now (g v.0) (h v.1) laid n m,
      omega arith,
      (g v.0, h v.1, n, m, w, sym (till_next _ _ _ _ _ _ (omega arith) (goes_on _ _ _ _ _ _ _ _ is refl)) ∙ v.5),
    )

pub returns : goal.returns
returns c =
    let v = c.loop-i.invariant.4 in
    let e = sym v.5 ∙ till_done _ _ _ _ _ (omega arith) in
    rw e (refl, refl, v.4)
