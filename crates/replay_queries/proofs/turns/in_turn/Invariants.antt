-- The first i queries are printed, and the slices are as long as before.
use Rattle.std.proofs.Common.{◌≡◌, ◌%◌, length, get_or}
use lib.Ieee.{nan}
use Rattle.curve.specs.Form.{slices}
use Rattle.query.specs.Query.{evaluate_of}
use Rattle.listing.specs.Axes.{byte_of}
use Rattle.listing.specs.Output.{printed}
use Rattle.replay_queries.specs.Told.{marked_outputs, turns_text}
use Rattle.replay_queries.proofs.turns.in_turn.Given as goal

abbrev pub invariant-loop-i : goal.invariant-loop-i
invariant-loop-i l =
    (l.out ≡ printed l.fn.out (turns_text l.i (λ j. evaluate_of l.curve
    (slices l.p.breaks.now l.p.coefficients.now l.p.other_breaks.now l.p.other_coefficients.now) (get_or l.p.rest.now j nan) (byte_of l.orders (j % 4))
    (marked_outputs (length l.fn.q) (length l.fn.dq) (length l.fn.ddq) (length l.fn.dddq)))))
    × (length l.q ≡ length l.fn.q) × (length l.dq ≡ length l.fn.dq) × (length l.ddq ≡ length l.fn.ddq) × (length l.dddq ≡ length l.fn.dddq)
