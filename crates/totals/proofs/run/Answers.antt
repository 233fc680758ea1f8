use Rattle.std.proofs.Common.{◌++◌, rules}
use Rattle.totals.proofs.run.Goals as goal

pub tell-requires : goal.tell-requires
tell-requires c =
    let l = c.loop-outcome.invariant in
    let m = c.in-Ended.ensures.by_index l.2.seen l.2.reached in
    (search rules, c.in-Ended.ensures.running, record { input = l.2.seen ++ m.part; run = m.told })

pub loop-outcome-preserved : goal.loop-outcome-preserved
loop-outcome-preserved c =
    let l = c.loop-outcome.invariant in
    let m = c.in-Goes.ensures.by_index l.2.seen l.2.reached in
    let r = c.in-Goes.ensures.running in
    (r.1, r.0, record { seen = l.2.seen ++ m.part; reached = m.told })
