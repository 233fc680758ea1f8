-- `choices::tolerances_of` meets its contract: by cases on the tolerance.
use mathlib.Core.Path.{sym, ap, ◌∙◌}
use lib.ListN.{length}
use lib.Seq.{length-take-le, take_at}
use Rattle.seed.proofs.Narrowing.{take_replicate}
use Rattle.smoothing.specs.Request.{tolerances_of}
use Rattle.checks.specs.Request.{tolerance_of}
use Rattle.checks.proofs.choices.tolerances_of.Goals as goal

pub copy_from_slice-requires : goal.copy_from_slice-requires
unfolding tolerance_of tolerances_of
copy_from_slice-requires c =
    let h = rw c.in-PerAxis.is at c.requires.1 in
    length-take-le c.args.k _ c.requires.0 ∙ sym h

pub returns-in-Uniform : goal.returns-in-Uniform
unfolding tolerance_of tolerances_of
returns-in-Uniform c = rw c.in-Uniform.is (take_replicate c.args.k 16 _ c.requires.0)

pub returns-in-PerAxis : goal.returns-in-PerAxis
unfolding tolerance_of tolerances_of
returns-in-PerAxis c =
    let h = rw c.in-PerAxis.is at c.requires.1 in
    let e = c.copy_from_slice.ensures.after in
    rw c.in-PerAxis.is (take_at c.copy_from_slice.new.self _ c.args.k (ap length e ∙ h) ∙ e)
