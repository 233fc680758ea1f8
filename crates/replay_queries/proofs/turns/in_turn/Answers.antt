use Rattle.std.proofs.Common.{refl, arith}
use Rattle.query.specs.Query.{evaluate_of}
use Rattle.replay_queries.proofs.Telling.{no_turns, turns_next, turns_end, same_asked}
use Rattle.replay_queries.proofs.turns.in_turn.Goals as goal

pub loop-i-init : goal.loop-i-init
loop-i-init c = (no_turns _ _, refl, refl, refl, refl)

pub loop-i-preserved : goal.loop-i-preserved
loop-i-preserved c =
    let v = c.loop-i.invariant in (
      turns_next _ _ _ c.loop-i.i v.0
          (same_asked (evaluate_of _ _ _) _ c.byte_of.ensures v.1 v.2 v.3 v.4 c.next-kept.ensures),
      omega (arith, c.next-kept.auto, v.1),
      omega (arith, c.next-kept.auto, v.2),
      omega (arith, c.next-kept.auto, v.3),
      omega (arith, c.next-kept.auto, v.4),
    )

pub returns : goal.returns
returns c = turns_end _ _ (omega arith) c.loop-i.invariant.0
