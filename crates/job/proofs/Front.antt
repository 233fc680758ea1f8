-- The first 1,621 bytes tell whether some bytes are a job, and which: four counts have at most 12 bytes, the numbers of a job at most
-- 1,608, and one byte more is left over.
use mathlib.Core.Path.{◌≡◌, refl, sym, ap, ◌∙◌}
use mathlib.Core.Bool.{Bool, true, false}
use mathlib.Core.List.{List, ◌++◌}
use Prim.Native.Nat.{ℕ, ◌≤◌}
use native.Mathlib.Omega.{arith}
use borrow.Author.Tests.{leb-true, leb-false}
use lib.Dec.{leb}
use lib.ListN.{length, take, drop, length-append, take-append-drop}
use lib.Seq.{take_all, length-take-le}
use Rattle.smoothing.specs.Answer.Answer.{refused}
use Rattle.forms.specs.Read.{Read, got, bad}
use Rattle.forms.specs.Form.{read_whole}
use Rattle.forms.proofs.Longer.{more, Left, Within, groups_within, then_within, through_within}
use Rattle.job.specs.declared.Counts.{Counts}
use Rattle.job.specs.Job.{counts_of, four_of, counts_form, numbers_form, above_limits, numbered, counted, job_of}
use Rattle.job.proofs.Places.{few_points, numbers_bad}

counts_within : Within 12 counts_form
counts_within =
    through_within counts_of four_of
    (then_within groups_within (λ d. then_within groups_within (λ n. then_within groups_within (λ refinements. groups_within))))

longer : (a b : List ℕ) → 1621 ≤ length a → job_of (a ++ b) ≡ job_of a
unfolding job_of counted numbered
longer a b h = rw (counts_within.longer a b (omega arith)) (go (counts_form.read a) (counts_within.left a))
  where
    over : (c : Counts) (r : List ℕ) → above_limits c ≡ false → 1609 ≤ length r → numbered c (read_whole (numbers_form c) r) ≡ refused 25
    over c r w i = rw (numbers_bad c r (λ e. omega (arith, few_points c w, e)))

    both : (c : Counts) (r : List ℕ) → 1609 ≤ length r → (w : Bool) → above_limits c ≡ w → counted (got c (r ++ b)) ≡ counted (got c r)
    both c r i true e = rw e
    both c r i false e = rw (e, over c (r ++ b) e (rw (length-append r b) (omega arith)), over c r e i)

    go : (o : Read Counts) → Left 12 a o → counted (more b o) ≡ counted o
    go bad i = refl
    go (got c r) i = both c r (omega arith) (above_limits c) refl

pub enough : (l : List ℕ) → job_of (take 1621 l) ≡ job_of l
enough l = go (leb (length l) 1621) refl
  where
    go : (b : Bool) → leb (length l) 1621 ≡ b → job_of (take 1621 l) ≡ job_of l
    go true e = ap job_of (take_all 1621 l (leb-true _ _ e))
    go false e =
        let h = leb-false (length l) 1621 e in
        sym (longer (take 1621 l) (drop 1621 l) (rw (length-take-le 1621 l (omega arith)) (omega arith)))
        ∙ ap job_of (take-append-drop 1621 l)
