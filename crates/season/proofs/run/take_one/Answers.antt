use Rattle.std.proofs.Common.{sym, subst}
use Rattle.lane_totals.specs.declared.sums.Sums.{Sums}
use Rattle.season.specs.Run.{WentOn}
use Rattle.season.proofs.Running.{limit_reached, run_takes_in}
use Rattle.season.proofs.run.take_one.Goals as goal

pub returns-then-before-ge65535-clause-taken_in : goal.returns-then-before-ge65535-clause-taken_in
returns-then-before-ge65535-clause-taken_in c =
    let a = c.args in
    limit_reached a.bytes.now a.at a.last a.before c.requires.at_in_bounds.0 c.requires.at_in_bounds.1 c.if-before-ge65535.true

pub returns-in-File-clause-taken_in : goal.returns-in-File-clause-taken_in
returns-in-File-clause-taken_in c =
    let a = c.args in
    subst (λ (x : Sums). WentOn a.bytes.now a.at a.last a.before (record { at = c.in-File.to; sums = x })) (sym c.merged-sums.ensures)
    (run_takes_in a.bytes.now a.at a.last a.before c.requires.at_in_bounds.0 c.requires.at_in_bounds.1 _ _ c.in_file-one.result
    c.if-before-ge65535.false c.in-File.ensures c.in_file-one.ensures.0 c.in_file-one.ensures.1)
