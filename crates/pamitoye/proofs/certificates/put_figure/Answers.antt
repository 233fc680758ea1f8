use Rattle.std.proofs.Common.{refl}
use Rattle.pamitoye.proofs.GivenFigure.{given_kept}
use Rattle.pamitoye.proofs.certificates.put_figure.Goals as goal

pub returns-in-Err : goal.returns-in-Err
returns-in-Err c = let a = c.in-Err in
    rw a.is (record { value = c.number.ensures; given_after = given_kept a.refusal c.args.given.now; figure_after = refl })
