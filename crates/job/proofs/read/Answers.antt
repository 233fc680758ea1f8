-- At each return the definition gives what the code answers.
use Rattle.std.proofs.Common.{◌≡◌, ◌+◌, ◌*◌, false, drop, sym, ◌∙◌, arith}
use lib.ListN.{length-drop}
use Rattle.job.specs.Job.{above_limits}
use Rattle.job.proofs.Places.{few_points, job_unread, job_above, job_bad, job_read, refused_read, done_read, put_numbers}
use Rattle.job.proofs.read.Goals as goal

pub returns-in_default : goal.returns-in_default
returns-in_default c =
    let l = c.args.bytes.now in
    let p = refused_read l c.args.cells.now 25 (job_unread l (sym c.in_default.ensures.result_value)) in
    record { result_value = p.0; cells_after = p.1 }

pub returns-then-above_limits : goal.returns-then-above_limits
returns-then-above_limits c =
    let l = c.args.bytes.now in
    let f = c.in-Some in
    let p = refused_read l c.args.cells.now 18
    (job_above l f.field-0.counts (drop f.field-0.next l) (sym f.ensures.result_value) (sym c.above_limits.ensures ∙ c.if-above_limits.true)) in
    record { result_value = p.0; cells_after = p.1 }

pub overflow_mul-numbers : goal.overflow_mul-numbers
overflow_mul-numbers c = omega (arith, few_points c.in-Some.field-0.counts (sym c.above_limits.ensures ∙ c.if-above_limits.false))

pub overflow_add-numbers : goal.overflow_add-numbers
overflow_add-numbers c = omega (arith, few_points c.in-Some.field-0.counts (sym c.above_limits.ensures ∙ c.if-above_limits.false))

pub overflow_mul-numbers-2 : goal.overflow_mul-numbers-2
overflow_mul-numbers-2 c = omega (arith, few_points c.in-Some.field-0.counts (sym c.above_limits.ensures ∙ c.if-above_limits.false))

pub slice_bounds-floats-end-2 : goal.slice_bounds-floats-end-2
slice_bounds-floats-end-2 c =
    omega (arith, few_points c.in-Some.field-0.counts (sym c.above_limits.ensures ∙ c.if-above_limits.false), c.requires)

pub returns-then-bytes-next : goal.returns-then-bytes-next
returns-then-bytes-next c =
    let l = c.args.bytes.now in
    let f = c.in-Some in
    let p = refused_read l c.args.cells.now 25
    (job_bad l f.field-0.counts (drop f.field-0.next l) (sym f.ensures.result_value) (sym c.above_limits.ensures ∙ c.if-above_limits.false)
    (λ e. omega (arith, length-drop f.field-0.next l, e, c.if-bytes-next.true))) in
    record { result_value = p.0; cells_after = p.1 }

pub returns : goal.returns
returns c =
    let l = c.args.bytes.now in
    let h = c.in-Some.field-0 in
    let rest = drop h.next l in
    let within : above_limits h.counts ≡ false = sym c.above_limits.ensures ∙ c.if-above_limits.false in
    let few = few_points h.counts within in
    let p = done_read l c.args.cells.now h.counts rest _
    (job_read l h.counts rest (sym c.in-Some.ensures.result_value) within (omega (arith, length-drop h.next l, c.if-bytes-next.false)))
    (put_numbers l h.next (1 + h.counts.d * h.counts.n) c.args.cells.now _ (omega (arith, few, c.requires)) c.in-Some.ensures.result_in_bounds
    c.floats.ensures) in
    record { result_value = p.0; cells_after = p.1 }
