-- 8 refuses, or the chord is put and the first state follows.
use Rattle.std.proofs.Common.{arith, ◌≡◌, ◌+◌, length}
use Rattle.std.proofs.lemmas.Result.{err_from_is_err_and}
use Prim.Native.Nat.{◌≤◌}
use Rattle.smoothing.specs.Answer.Answer.{done}
use Rattle.smoothing.specs.Refusal.{refused_by}
use Rattle.smoothing.proofs.SegmentsRise.{wide}
use Rattle.refinement.specs.Memory.{memory_at, task_at, state_at, sized}
use Rattle.running_report.specs.Counted.{counts_of}
use Rattle.refinement.proofs.Memories.{roomy_few}
use Rattle.selected_axes.proofs.Starting.{start_many, Chord, bent_is, start_rises, start_made, start_keeps}
use Rattle.selected_axes.proofs.start.start.Goals as goal

pub returns-then-segments-k-clause-work_after : goal.returns-then-segments-k-clause-work_after
returns-then-segments-k-clause-work_after c =
    let a = c.args in
    let k = c.put_knots-k in
    start_many a.segments k.result (task_at a.p a.work.now) k.ensures.value c.if-segments-k.true

pub first_state-requires-clause-roomy : goal.first_state-requires-clause-roomy
first_state-requires-clause-roomy c =
    let a = c.args in
    let k = c.put_knots-k in
    let b = c.is_curved-bent in
    let m = k.result + 6 in
    let e : Chord a.p k.result a.work.now k.new.work (memory_at (sized a.p m) c.begin.new.work) = record {
      inner = k.ensures.work_after;
      many = k.ensures.value;
      task = k.ensures.work_unchanged;
      chord = c.begin.ensures.work_after;
      task₂ = c.begin.ensures.work_unchanged;
    } in
    let less = c.if-segments-k.false in
    let same : length c.begin.new.work ≡ length a.work.now = omega arith in
    let roomy = roomy_few a.p (length a.work.now) m a.segments c.requires.0 (omega arith) (omega (arith, less)) c.requires.1 in
    (rw same roomy, bent_is e b.result b.ensures, wide _ _ (start_rises e c.slice_known-1.given))

pub returns-in_err-first_state-clause-work_after : goal.returns-in_err-first_state-clause-work_after
returns-in_err-first_state-clause-work_after c =
    let a = c.args in
    let k = c.put_knots-k in
    let m = k.result + 6 in
    let v = c.in_err-first_state in
    let p = err_from_is_err_and c.from_residual.result c.from_residual.ensures.1 in
    let e : Chord a.p k.result a.work.now k.new.work (memory_at (sized a.p m) c.begin.new.work) = record {
      inner = k.ensures.work_after;
      many = k.ensures.value;
      task = k.ensures.work_unchanged;
      chord = c.begin.ensures.work_after;
      task₂ = c.begin.ensures.work_unchanged;
    } in
    let less : k.result + 1 ≤ a.segments = omega (arith, c.if-segments-k.false) in
    rw (p.1, p.2) (start_made e a.segments (refused_by v.field-0.0) less v.ensures.work_after)

pub returns-clause-work_after : goal.returns-clause-work_after
returns-clause-work_after c =
    let a = c.args in
    let k = c.put_knots-k in
    let m = k.result + 6 in
    let f = c.first_state in
    let e : Chord a.p k.result a.work.now k.new.work (memory_at (sized a.p m) c.begin.new.work) = record {
      inner = k.ensures.work_after;
      many = k.ensures.value;
      task = k.ensures.work_unchanged;
      chord = c.begin.ensures.work_after;
      task₂ = c.begin.ensures.work_unchanged;
    } in
    let less : k.result + 1 ≤ a.segments = omega (arith, c.if-segments-k.false) in
    start_made e a.segments (done (state_at (sized a.p m) (counts_of f.new.report) f.new.work)) less
    c.in_ok-first_state.ensures.work_after

pub returns-clause-stored : goal.returns-clause-stored
returns-clause-stored c =
    let a = c.args in
    let k = c.put_knots-k in
    let m = k.result + 6 in
    let f = c.first_state in
    let e : Chord a.p k.result a.work.now k.new.work (memory_at (sized a.p m) c.begin.new.work) = record {
      inner = k.ensures.work_after;
      many = k.ensures.value;
      task = k.ensures.work_unchanged;
      chord = c.begin.ensures.work_after;
      task₂ = c.begin.ensures.work_unchanged;
    } in
    let less = c.if-segments-k.false in
    let same : length f.new.work ≡ length a.work.now = omega arith in
    let roomy = roomy_few a.p (length a.work.now) m a.segments c.requires.0 (omega arith) (omega (arith, less)) c.requires.1 in
    let t = start_keeps e (memory_at (sized a.p m) f.new.work) c.slice_known-1.given c.in_ok-first_state.ensures.stored in
    (t.0, t.1, t.2, rw same roomy, omega (arith, less))
