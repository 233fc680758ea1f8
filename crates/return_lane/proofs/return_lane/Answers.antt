-- By the checks, in their order.
use Rattle.std.proofs.Common.{arith, ◌≡◌, sym, ◌∙◌}
use borrow.Author.Tests.{lt-ltb, le-ltb}
use Rattle.curve.specs.Form.{slices}
use Rattle.curve.proofs.Formed.{formed}
use Rattle.return_lane.specs.Return.{short_for}
use Rattle.return_lane.proofs.Answered.{Roomy, malformed, too_short, not_rising, done}
use Rattle.return_lane.proofs.Answered.{selected_cells, others_cells, used_well_formed}
use Rattle.return_lane.proofs.return_lane.Goals as goal
use Rattle.return_lane.proofs.return_lane.Goals.{
  then-lent_breaks-breaks-via-then-lent_breaks-breaks,
  then-lent_breaks-breaks-via-else-lent_breaks-breaks+then-lent_coefficients-coefficients,
  then-lent_breaks-breaks-via-else-lent_breaks-breaks+else-lent_coefficients-coefficients+then-lent_other_breaks-other_breaks,
  then-lent_breaks-breaks-via-else-lent_breaks-breaks+else-lent_coefficients-coefficients+else-lent_other_breaks-other_breaks+then-lent_other_coefficients-other_coefficients,
  then-not-rise_back-via-then-not-rise_back,
  then-not-rise_back-via-else-not-rise_back+then-not-rise_back-2,
}

pub returns-then-not-well_formed-clause-lent_other_coefficients_after : goal.returns-then-not-well_formed-clause-lent_other_coefficients_after
returns-then-not-well_formed-clause-lent_other_coefficients_after c =
    let a = c.args in
    malformed a.curve (slices a.breaks.now a.coefficients.now a.other_breaks.now a.other_coefficients.now)
    (slices a.lent_breaks.now a.lent_coefficients.now a.lent_other_breaks.now a.lent_other_coefficients.now) (sym c.well_formed-2.ensures ∙ c.if-not-well_formed.true)

pub returns-then-lent_breaks-breaks-clause-lent_other_coefficients_after :
    goal.returns-then-lent_breaks-breaks-clause-lent_other_coefficients_after
unfolding short_for
returns-then-lent_breaks-breaks-clause-lent_other_coefficients_after c =
    let a = c.args in
    let s = (slices a.breaks.now a.coefficients.now a.other_breaks.now a.other_coefficients.now) in
    let lent = (slices a.lent_breaks.now a.lent_coefficients.now a.lent_other_breaks.now a.lent_other_coefficients.now) in
    let f = sym c.well_formed-2.ensures ∙ c.if-not-well_formed.false in
    elim c.then-lent_breaks-breaks.branch [
      | then-lent_breaks-breaks-via-then-lent_breaks-breaks w ↦
          too_short a.curve s lent f (rw (lt-ltb _ _ w.if-lent_breaks-breaks.true))
      | then-lent_breaks-breaks-via-else-lent_breaks-breaks+then-lent_coefficients-coefficients w ↦
          too_short a.curve s lent f (rw (le-ltb _ _ w.if-lent_breaks-breaks.false, lt-ltb _ _ w.if-lent_coefficients-coefficients.true))
      | then-lent_breaks-breaks-via-else-lent_breaks-breaks+else-lent_coefficients-coefficients+then-lent_other_breaks-other_breaks w ↦
          too_short a.curve s lent f
          (rw (
            le-ltb _ _ w.if-lent_breaks-breaks.false,
            le-ltb _ _ w.if-lent_coefficients-coefficients.false,
            lt-ltb _ _ w.if-lent_other_breaks-other_breaks.true,
          ))
      | then-lent_breaks-breaks-via-else-lent_breaks-breaks+else-lent_coefficients-coefficients+else-lent_other_breaks-other_breaks+then-lent_other_coefficients-other_coefficients w ↦
          too_short a.curve s lent f
          (rw (
            le-ltb _ _ w.if-lent_breaks-breaks.false,
            le-ltb _ _ w.if-lent_coefficients-coefficients.false,
            le-ltb _ _ w.if-lent_other_breaks-other_breaks.false,
            lt-ltb _ _ w.if-lent_other_coefficients-other_coefficients.true,
          ))
    ]

pub returns-then-not-rise_back-clause-lent_other_coefficients_after : goal.returns-then-not-rise_back-clause-lent_other_coefficients_after
returns-then-not-rise_back-clause-lent_other_coefficients_after c =
    let a = c.args in
    let s = slices a.breaks.now a.coefficients.now a.other_breaks.now a.other_coefficients.now in
    let lent = slices a.lent_breaks.now a.lent_coefficients.now a.lent_other_breaks.now a.lent_other_coefficients.now in
    let room : Roomy a.curve s lent = record {
      formed = sym c.well_formed-2.ensures ∙ c.if-not-well_formed.false;
      breaks = c.if-lent_breaks-breaks.false;
      coefficients = c.if-lent_coefficients-coefficients.false;
      other_breaks = c.if-lent_other_breaks-other_breaks.false;
      other_coefficients = c.if-lent_other_coefficients-other_coefficients.false;
    } in
    elim c.then-not-rise_back.branch [
      | then-not-rise_back-via-then-not-rise_back w ↦ not_rising a.curve s lent room (rw (sym c.rise_back.ensures ∙ w.if-not-rise_back.true))
      | then-not-rise_back-via-else-not-rise_back+then-not-rise_back-2 w ↦
          not_rising a.curve s lent room
          (rw (
            sym c.rise_back.ensures ∙ w.if-not-rise_back.false,
            sym w.rise_back-else-not-rise_back.ensures ∙ w.if-not-rise_back-2.true,
          ))
    ]

pub overflow_sub-m : goal.overflow_sub-m
overflow_sub-m c =
    omega (arith, (formed _ _ (sym c.well_formed-2.ensures ∙ c.if-not-well_formed.false)).k_high)

pub put_set-requires : goal.put_set-requires
put_set-requires c =
    let a = c.args in
    let s = slices a.breaks.now a.coefficients.now a.other_breaks.now a.other_coefficients.now in
    let k = selected_cells a.curve s (sym c.well_formed-2.ensures ∙ c.if-not-well_formed.false) in
    (c.if-lent_breaks-breaks.false, omega (arith, k), omega (arith, k, c.if-lent_coefficients-coefficients.false))

pub put_set-requires-2 : goal.put_set-requires-2
put_set-requires-2 c =
    let a = c.args in
    let s = slices a.breaks.now a.coefficients.now a.other_breaks.now a.other_coefficients.now in
    let k = others_cells a.curve s (sym c.well_formed-2.ensures ∙ c.if-not-well_formed.false) in
    (c.if-lent_other_breaks-other_breaks.false, omega (arith, k), omega (arith, k, c.if-lent_other_coefficients-other_coefficients.false))

pub returns : goal.returns
returns c =
    let a = c.args in
    let s = slices a.breaks.now a.coefficients.now a.other_breaks.now a.other_coefficients.now in
    let lent = slices a.lent_breaks.now a.lent_coefficients.now a.lent_other_breaks.now a.lent_other_coefficients.now in
    let room : Roomy a.curve s lent = record {
      formed = sym c.well_formed-2.ensures ∙ c.if-not-well_formed.false;
      breaks = c.if-lent_breaks-breaks.false;
      coefficients = c.if-lent_coefficients-coefficients.false;
      other_breaks = c.if-lent_other_breaks-other_breaks.false;
      other_coefficients = c.if-lent_other_coefficients-other_coefficients.false;
    } in
    let r = sym c.rise_back.ensures ∙ c.if-not-rise_back.false in
    let q = sym c.rise_back-else-not-rise_back.ensures ∙ c.if-not-rise_back-2.false in
    let after : _ ≡ _ =
    λ i. slices (c.put_set.ensures.lent_breaks_after i) (c.put_set.ensures.lent_coefficients_after i)
    (c.put_set-2.ensures.lent_breaks_after i) (c.put_set-2.ensures.lent_coefficients_after i) in
    record {
      lent_other_coefficients_after = done a.curve s lent room _ r q after;
      lent_other_coefficients_after_2 = λ z. used_well_formed a.curve s room.formed lent _ r q after;
    }
