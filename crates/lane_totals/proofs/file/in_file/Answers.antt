use Rattle.std.proofs.Common.{◌≡◌, refl, ap, ◌∙◌, arith}
use Rattle.lane_file.specs.Curves.{cells}
use Rattle.lane_file.specs.Outcome.{ReadOutcome, refusal_number}
use Rattle.lane_file.specs.declared.refusal.Refusal.{Refusal}
use Rattle.lane_file.specs.declared.refusal.Refusal.TheVariants.{DoesNotRead, NotWellFormed, TooShort}
use Rattle.lane_file.proofs.EnoughRoom.{never_short_slices}
use Rattle.lane_file.proofs.Whole.{bytes_of}
use Rattle.lane_totals.proofs.Keeping.{kept_wider}
use Rattle.lane_totals.proofs.Answers.{file_away, file_read}
use Rattle.lane_totals.proofs.file.in_file.Goals as goal

pub returns-in-Err : goal.returns-in-Err
returns-in-Err c =
    let a = c.args in
    let lent = cells a.breaks.now a.coefficients.now a.other_breaks.now a.other_coefficients.now in
    let n = ap (λ (o : ReadOutcome). o.number) c.in-Err.ensures.other_coefficients_after in (
      c.one_away.ensures.0
          ∙ file_away a.file.now lent (λ z. not_done _ (n ∙ z))
          (never_short_slices a.file.now lent (bytes_of a.file.now (λ i. omega (arith, c.type_inv.file i)))
          c.requires.lent.0 c.requires.lent.1 c.requires.lent.2 c.requires.lent.3),
      kept_wider 1 0 20000 _ (omega arith) c.one_away.ensures.1,
    )
  where
    not_done : (r : Refusal) → refusal_number r ≡ 0 → ⊥
    not_done DoesNotRead e = omega arith
    not_done NotWellFormed e = omega arith
    not_done TooShort e = omega arith

pub in_curve-requires : goal.in_curve-requires
in_curve-requires c = record {
  other_coefficients_value = (c.in-Ok.ensures.read_promised refl).formed;
  weights_value = c.requires.weights_value;
}

pub returns-in-Ok : goal.returns-in-Ok
returns-in-Ok c =
    let a = c.args in
    let lent = cells a.breaks.now a.coefficients.now a.other_breaks.now a.other_coefficients.now in
    (c.in_curve.ensures.0 ∙ file_read a.file.now lent _ c.in-Ok.ensures.other_coefficients_after refl, c.in_curve.ensures.1)
