-- All that a call writes, put together.
use mathlib.Core.Path.{◌≡◌, ap, ◌∙◌}
use mathlib.Core.List.{List}
use Prim.Native.Nat.{ℕ}
use lib.Ieee.{Float}
use Rattle.curve.specs.declared.Curve.{Curve}
use Rattle.curve.specs.declared.Mode.{Mode}
use Rattle.smoothing.specs.Answer.{Answer, number_of}
use Rattle.smoothing.specs.Build.{Result}
use Rattle.building.specs.declared.Report.{Report}
use Rattle.building.specs.Outcome.{reported, Results, results_after, work_after, curve_after}
use Rattle.pamitoye.specs.Builds.{counts_after, ratio_after, Outline, outline_after, BuildOutputs, build_outputs, build_outputs_after}

-- the answer y, the code's outcome o, curve k and number n
module _ (mode : Mode) (d : ℕ) (y : Answer Result) (o : Answer Report) (k : Curve) (n : ℕ) (told : o ≡ reported y)
    (curve : k ≡ curve_after mode d y) (number : n ≡ number_of o) (w : BuildOutputs) where
  pub all_written : {work : List Float} {results : Results} {counts : List ℕ} {ratio : Float} {ends : Outline}
      → work ≡ work_after y w.work → results ≡ results_after y w.results → counts ≡ counts_after o w.counts
      → ratio ≡ ratio_after o w.ratio → ends ≡ outline_after n k w.curve
      → build_outputs work results counts ratio ends ≡ build_outputs_after mode d y w
  all_written a b c r e =
      let told_number : n ≡ number_of (reported y) = number ∙ ap number_of told in
      λ i. build_outputs (a i) (b i) ((c ∙ ap (λ (x : Answer Report). counts_after x w.counts) told) i)
      ((r ∙ ap (λ (x : Answer Report). ratio_after x w.ratio) told) i)
      ((e ∙ (λ j. outline_after (told_number j) (curve j) w.curve)) i)
