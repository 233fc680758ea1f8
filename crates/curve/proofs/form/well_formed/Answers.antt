-- What does not ask for each segment, then the segments of each set.
use Rattle.std.proofs.Common.{arith, sym, ◌∙◌}
use Rattle.curve.specs.Form.{slices}
use Rattle.curve.proofs.Shaped.{shape_and_segments, shaped}
use Rattle.curve.proofs.form.well_formed.Goals as goal

pub returns-then-not-well_shaped : goal.returns-then-not-well_shaped
returns-then-not-well_shaped c =
    let a = c.args in
    sym (shape_and_segments a.curve (slices a.breaks.now a.coefficients.now a.other_breaks.now a.other_coefficients.now)
    ∙ rw (sym c.well_shaped.ensures ∙ c.if-not-well_shaped.true))

pub overflow_mul-n : goal.overflow_mul-n
overflow_mul-n c = omega (arith, (shaped _ _ _ _ _ (sym c.well_shaped.ensures ∙ c.if-not-well_shaped.false)).set_few)

pub overflow_mul-n-2 : goal.overflow_mul-n-2
overflow_mul-n-2 c = omega (arith, (shaped _ _ _ _ _ (sym c.well_shaped.ensures ∙ c.if-not-well_shaped.false)).set_few)

pub segments_formed-requires : goal.segments_formed-requires
segments_formed-requires c =
    let z = shaped _ _ _ _ _ (sym c.well_shaped.ensures ∙ c.if-not-well_shaped.false) in (z.set.enough, z.set.room)

pub overflow_sub-d : goal.overflow_sub-d
overflow_sub-d c = (shaped _ _ _ _ _ (sym c.well_shaped.ensures ∙ c.if-not-well_shaped.false)).k_high

pub overflow_mul-others : goal.overflow_mul-others
overflow_mul-others c = omega (arith, (shaped _ _ _ _ _ (sym c.well_shaped.ensures ∙ c.if-not-well_shaped.false)).others_few)

pub overflow_mul-others-then-segments_formed : goal.overflow_mul-others-then-segments_formed
overflow_mul-others-then-segments_formed c =
    omega (arith, (shaped _ _ _ _ _ (sym c.well_shaped.ensures ∙ c.if-not-well_shaped.false)).others_few)

pub segments_formed-requires-then-segments_formed : goal.segments_formed-requires-then-segments_formed
segments_formed-requires-then-segments_formed c =
    let z = shaped _ _ _ _ _ (sym c.well_shaped.ensures ∙ c.if-not-well_shaped.false) in (z.others.enough, z.others.room)

pub returns-then-segments_formed : goal.returns-then-segments_formed
returns-then-segments_formed c =
    let a = c.args in
    c.segments_formed-then-segments_formed.ensures
    ∙ sym (shape_and_segments a.curve (slices a.breaks.now a.coefficients.now a.other_breaks.now a.other_coefficients.now)
    ∙ rw (sym c.well_shaped.ensures ∙ c.if-not-well_shaped.false, sym c.segments_formed.ensures ∙ c.if-segments_formed.true))

pub returns-else-segments_formed : goal.returns-else-segments_formed
returns-else-segments_formed c =
    let a = c.args in
    c.if-segments_formed.false
    ∙ sym (shape_and_segments a.curve (slices a.breaks.now a.coefficients.now a.other_breaks.now a.other_coefficients.now)
    ∙ rw (sym c.well_shaped.ensures ∙ c.if-not-well_shaped.false, sym c.segments_formed.ensures ∙ c.if-segments_formed.false))
