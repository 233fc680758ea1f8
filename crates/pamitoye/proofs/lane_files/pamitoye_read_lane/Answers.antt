use Rattle.std.proofs.Common.{refl, sym, subst}
use Rattle.curve.specs.declared.Curve.{Curve}
use Rattle.lane_file.specs.Curves.{cells}
use Rattle.lane_file.specs.Outcome.{ReadPromised}
use Rattle.pamitoye.proofs.Told.{told_read, refused_number, no_promise}
use Rattle.pamitoye.proofs.lane_files.pamitoye_read_lane.Goals as goal

pub returns-in-Ok : goal.returns-in-Ok
returns-in-Ok c = record {
  other_coefficients_after = told_read 0 _ _ _ _ _ c.put_numbers.ensures c.in-Ok.ensures.other_coefficients_after;
  read_promised = λ z. subst (λ (d : Curve). ReadPromised c.args.file.now d
      (cells c.read.new.breaks c.read.new.coefficients c.read.new.other_breaks c.read.new.other_coefficients)) (sym c.put_numbers.ensures) (c.in-Ok.ensures.read_promised refl);
}

pub returns-in-Err : goal.returns-in-Err
returns-in-Err c =
    let n = c.number.ensures in
    record {
      other_coefficients_after = rw n (told_read _ _ _ _ _ _ (rw (refused_number c.in-Err.refusal)) c.in-Err.ensures.other_coefficients_after);
      read_promised = λ z. absurd (no_promise c.in-Err.refusal _ n z);
    }
