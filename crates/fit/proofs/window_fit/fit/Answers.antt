-- Either `solve` refused, or its solution was added to the controls.
use Rattle.std.proofs.Common.{arith, ◌∙◌}
use Rattle.std.proofs.lemmas.Result.{err_from_is_err_and}
use Rattle.normal.specs.Solve.{refusal_number}
use Rattle.normal.proofs.Outcomes.{refusal_told}
use Rattle.fit.proofs.Fitting.{after_refusal, after_solution}
use Rattle.fit.proofs.RowCounts.{answer_bounded}
use Rattle.fit.proofs.window_fit.fit.Goals as goal

pub returns-in_err-solve : goal.returns-in_err-solve
returns-in_err-solve c =
    let a = c.args in
    let m = c.assemble-counts in
    let v = c.in_err-solve in
    let e = v.field-0.0 in
    let p = err_from_is_err_and c.from_residual.result c.from_residual.ensures.1 in
    let r =
    answer_bounded a.p a.a a.z a.strength a.work.now c.requires
    (after_refusal a.p a.a a.z a.strength a.work.now m.new.work c.solve.new.sys m.result.rows m.ensures.work_unchanged
    m.ensures.work_after v.ensures.sys_after (omega arith) (omega arith) (omega arith) (refusal_number e)
    v.ensures.result_value (refusal_told e)) in
    rw (p.1, p.2) (record { result_value = r.0; work_after = r.1.0; bounded = r.1.1 })

pub returns : goal.returns
returns c =
    let a = c.args in
    let m = c.assemble-counts in
    let v = c.in_ok-solve in
    let s =
    after_solution a.p a.a a.z a.strength a.work.now m.new.work c.solve.new.sys m.result.rows m.ensures.work_unchanged
    m.ensures.work_after v.ensures.sys_after (omega arith) (omega arith) (omega arith)
    m.result.first m.result.last m.ensures.first_value.0 m.ensures.first_value.1 v.ensures.result_value in
    let r = answer_bounded a.p a.a a.z a.strength a.work.now c.requires (s.0, c.add_solution.ensures ∙ s.1) in
    record { result_value = r.0; work_after = r.1.0; bounded = r.1.1 }
