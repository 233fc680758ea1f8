use Rattle.std.proofs.Common.{◌∙◌, refl, false, arith}
use mathlib.Core.Path.{subst}
use lib.Ieee.{binary64, of_bits, round}
use Rattle.window.specs.Cells.{at}
use Rattle.fraction.specs.Binomial.{choose}
use Rattle.fraction.specs.Pair as pairs
use Rattle.figure.specs.Intersection.{offset, raised, scale}
use Rattle.figure.specs.Operations.{ends}
use Rattle.estimate.specs.Structs.{intersection_of}
use Rattle.certificate.specs.Structs.{Holds}
use Rattle.certificate.proofs.Sums.{held_power, holds_six, six_at}
use Rattle.certificate.proofs.intersection.difference_powers.Goals as goal

pub returns : goal.returns
returns c =
    let x = intersection_of c.args.x in
    let u = c.powers_of-u.result in
    let w = c.powers_of-w.result in
    let hu : Holds u (raised ends (offset ends x)) =
    subst (λ (e : pairs.Ends). Holds u (raised ends e)) c.offset.ensures c.powers_of-u.ensures in
    let hw : Holds w (raised ends (scale ends x)) =
    subst (λ (e : pairs.Ends). Holds w (raised ends e)) c.scale.ensures c.powers_of-w.ensures in
    let p = at c.args.x.coefficients in
    holds_six _ _ _ _ _ _ _
    (rw (
      c.subtract.ensures,
      c.line_at_left.ensures,
      c.power.ensures ∙ held_power p u (offset ends x) (scale ends x) _ 0 (omega arith) hu (hw 0 (omega arith)),
    ))
    (rw (
      c.subtract-2.ensures,
      c.line_rise.ensures,
      c.power-2.ensures ∙ held_power p u (offset ends x) (scale ends x) _ 1 (omega arith) hu (hw 1 (omega arith)),
    ))
    (c.power-3.ensures ∙ held_power p u (offset ends x) (scale ends x) _ 2 (omega arith) hu (hw 2 (omega arith)))
    (c.power-4.ensures ∙ held_power p u (offset ends x) (scale ends x) _ 3 (omega arith) hu (hw 3 (omega arith)))
    (c.power-5.ensures ∙ held_power p u (offset ends x) (scale ends x) _ 4 (omega arith) hu (hw 4 (omega arith)))
    (c.power-6.ensures ∙ held_power p u (offset ends x) (scale ends x) _ 5 (omega arith) hu (hw 5 (omega arith)))

pub power-requires : goal.power-requires
unfolding of_bits round
power-requires c = (omega arith, six_at _ _ _ _ _ _ (λ k. round binary64 false (choose k 0) 1) refl refl refl refl refl refl)

pub power-requires-2 : goal.power-requires-2
unfolding of_bits round
power-requires-2 c = (omega arith, six_at _ _ _ _ _ _ (λ k. round binary64 false (choose k 1) 1) refl refl refl refl refl refl)

pub power-requires-3 : goal.power-requires-3
unfolding of_bits round
power-requires-3 c = (omega arith, six_at _ _ _ _ _ _ (λ k. round binary64 false (choose k 2) 1) refl refl refl refl refl refl)

pub power-requires-4 : goal.power-requires-4
unfolding of_bits round
power-requires-4 c = (omega arith, six_at _ _ _ _ _ _ (λ k. round binary64 false (choose k 3) 1) refl refl refl refl refl refl)

pub power-requires-5 : goal.power-requires-5
unfolding of_bits round
power-requires-5 c = (omega arith, six_at _ _ _ _ _ _ (λ k. round binary64 false (choose k 4) 1) refl refl refl refl refl refl)

pub power-requires-6 : goal.power-requires-6
unfolding of_bits round
power-requires-6 c = (omega arith, six_at _ _ _ _ _ _ (λ k. round binary64 false (choose k 5) 1) refl refl refl refl refl refl)
