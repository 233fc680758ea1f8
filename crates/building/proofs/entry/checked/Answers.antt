-- A check stops the request, or it is gathered.
use Rattle.std.proofs.Common.{ap, sym, ◌∙◌}
use Rattle.std.proofs.lemmas.Result.{err_from_is_err_and}
use Rattle.smoothing.specs.Answer.Answer.{refused}
use Rattle.checks.specs.Request.{limits_of, lane_of}
use Rattle.checks.proofs.Passed.{refusal_known}
use Rattle.building.proofs.Passing.{stops_early}
use Rattle.building.proofs.entry.checked.Goals as goal

pub returns-in_err-refusal_before : goal.returns-in_err-refusal_before
returns-in_err-refusal_before c =
    let r = c.args.r.now in
    let v = c.in_err-refusal_before in
    let g = err_from_is_err_and c.from_residual.result c.from_residual.ensures.1 in
    rw (g.1, g.2) (record {
      is = ap refused v.ensures ∙ sym (stops_early (lane_of r) (limits_of r.limits) (rw (← v.ensures) (refusal_known v.field-0.0).0));
      places = tt;
    })
