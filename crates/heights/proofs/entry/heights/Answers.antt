-- By the checks, in their order.
use Rattle.std.proofs.Common.{arith, sym, ◌∙◌}
use Rattle.curve.specs.Form.{slices}
use Rattle.curve.proofs.Formed.{formed}
use Rattle.heights.proofs.Answered.{malformed, no_such_axis, selected_answer, others_answer, selected_sized, others_sized, answered}
use Rattle.heights.proofs.entry.heights.Goals as goal

pub returns-then-not-well_formed : goal.returns-then-not-well_formed
returns-then-not-well_formed c =
    let a = c.args in
    let s = slices a.breaks.now a.coefficients.now a.other_breaks.now a.other_coefficients.now in
    let e = malformed a.curve s a.axis a.out.now (sym c.well_formed-2.ensures ∙ c.if-not-well_formed.true) in
    record { out_after = e; each_within_half = (answered a.curve s a.axis _ a.out.now e).1 }

pub returns-then-d-axis : goal.returns-then-d-axis
returns-then-d-axis c =
    let a = c.args in
    let s = slices a.breaks.now a.coefficients.now a.other_breaks.now a.other_coefficients.now in
    let w = sym c.well_formed-2.ensures ∙ c.if-not-well_formed.false in
    let e = no_such_axis a.curve s a.axis a.out.now w c.if-d-axis.true in
    record { out_after = e; each_within_half = (answered a.curve s a.axis _ a.out.now e).1 }

pub axis_place-at-requires : goal.axis_place-at-requires
axis_place-at-requires c =
    let a = c.args in
    let s = slices a.breaks.now a.coefficients.now a.other_breaks.now a.other_coefficients.now in
    let f = formed a.curve s (sym c.well_formed-2.ensures ∙ c.if-not-well_formed.false) in
    let k = f.k_high in
    let d = f.d_high in
    (omega (arith, k, d), omega (arith, c.if-d-axis.false, d))

pub in_set-requires : goal.in_set-requires
in_set-requires c =
    let a = c.args in
    let s = slices a.breaks.now a.coefficients.now a.other_breaks.now a.other_coefficients.now in
    let w = sym c.well_formed-2.ensures ∙ c.if-not-well_formed.false in
    selected_sized a.curve s a.axis w c.if-d-axis.false c.axis_place-at.result c.axis_place-at.ensures c.if-at-k.true

pub overflow_sub-d : goal.overflow_sub-d
overflow_sub-d c =
    let a = c.args in
    let s = slices a.breaks.now a.coefficients.now a.other_breaks.now a.other_coefficients.now in
    omega (arith, (formed a.curve s (sym c.well_formed-2.ensures ∙ c.if-not-well_formed.false)).k_high)

pub in_set-requires-else-at-k : goal.in_set-requires-else-at-k
in_set-requires-else-at-k c =
    let a = c.args in
    let s = slices a.breaks.now a.coefficients.now a.other_breaks.now a.other_coefficients.now in
    let w = sym c.well_formed-2.ensures ∙ c.if-not-well_formed.false in
    others_sized a.curve s a.axis w c.if-d-axis.false c.axis_place-at.result c.axis_place-at.ensures c.if-at-k.false

pub returns-then-at-k : goal.returns-then-at-k
returns-then-at-k c =
    let a = c.args in
    let s = slices a.breaks.now a.coefficients.now a.other_breaks.now a.other_coefficients.now in
    let w = sym c.well_formed-2.ensures ∙ c.if-not-well_formed.false in
    let e = selected_answer a.curve s a.axis w c.if-d-axis.false c.axis_place-at.result c.axis_place-at.ensures _ a.out.now
    c.if-at-k.true c.in_set.ensures in
    record { out_after = e; each_within_half = (answered a.curve s a.axis _ a.out.now e).1 }

pub returns-else-at-k : goal.returns-else-at-k
returns-else-at-k c =
    let a = c.args in
    let s = slices a.breaks.now a.coefficients.now a.other_breaks.now a.other_coefficients.now in
    let w = sym c.well_formed-2.ensures ∙ c.if-not-well_formed.false in
    let e = others_answer a.curve s a.axis w c.if-d-axis.false c.axis_place-at.result c.axis_place-at.ensures _ a.out.now
    c.if-at-k.false c.in_set-else-at-k.ensures in
    record { out_after = e; each_within_half = (answered a.curve s a.axis _ a.out.now e).1 }
