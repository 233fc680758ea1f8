use Rattle.season.proofs.Turns.{turn_goes, turn_ends}
use Rattle.season.proofs.parts.take_part.Goals as goal

pub returns-then-last-clause-by_index : goal.returns-then-last-clause-by_index
returns-then-last-clause-by_index c seen r rest f =
    let a = c.args in
    turn_ends a.buffer.now a.end a.last a.before c.in-Some.taken c.in-Some.ensures.taken_in seen r c.if-last.true c.in-Some.ensures.rests rest
    (f c.if-last.true)

pub returns-clause-by_index : goal.returns-clause-by_index
returns-clause-by_index c seen r =
    let a = c.args in
    turn_goes a.buffer.now a.end a.last a.before c.in-Some.taken c.in-Some.ensures.taken_in seen r c.if-last.false _ c.move_front.ensures
