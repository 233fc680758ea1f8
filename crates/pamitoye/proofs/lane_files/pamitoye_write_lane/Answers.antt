use Rattle.std.proofs.Common.{refl, ap, subst, ◌∙◌, take}
use Rattle.curve.specs.declared.Curve.{Curve}
use Rattle.lane_file.specs.Curves.{cells}
use Rattle.lane_file.specs.Outcome.{write_of, WritePromised}
use Rattle.pamitoye.proofs.Told.{told_write, refused_number, no_promise}
use Rattle.pamitoye.proofs.lane_files.pamitoye_write_lane.Goals as goal

pub returns-in-Ok : goal.returns-in-Ok
returns-in-Ok c =
    let a = c.args in
    let s = cells a.breaks.now a.coefficients.now a.other_breaks.now a.other_coefficients.now in
    record {
      file_after = told_write 0 _ _ a.count.now _ _ refl
          (c.in-Ok.ensures.file_after ∙ ap (λ (d : Curve). write_of d s a.file.now) c.curve.ensures);
      write_promised = λ z. subst (λ (d : Curve). WritePromised d s (take c.in-Ok.n c.write-written.new.file)) c.curve.ensures (c.in-Ok.ensures.write_promised refl);
    }

pub returns-in-Err : goal.returns-in-Err
returns-in-Err c =
    let a = c.args in
    let s = cells a.breaks.now a.coefficients.now a.other_breaks.now a.other_coefficients.now in
    let n = c.number.ensures in
    record {
      file_after = rw n (told_write _ 0 _ a.count.now _ _ (rw (refused_number c.in-Err.refusal))
          (c.in-Err.ensures.file_after ∙ ap (λ (d : Curve). write_of d s a.file.now) c.curve.ensures));
      write_promised = λ z. absurd (no_promise c.in-Err.refusal _ n z);
    }
