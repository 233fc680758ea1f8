-- A job has one spelling: what is written for a job reads back to it, and what reads as a job is what is written for it.
use mathlib.Core.Path.{◌≡◌, refl, sym, ap, ◌∙◌, subst}
use mathlib.Core.Bool.{false}
use mathlib.Core.List.{List, ◌++◌}
use Prim.Native.Nat.{ℕ, ◌*◌}
use Rattle.smoothing.specs.Answer.Answer.{done}
use Rattle.smoothing.proofs.Accepted.{refused_done, done_same, not_refused}
use Rattle.forms.specs.Read.{Read, got, bad, Bytes}
use Rattle.forms.specs.Form.{bytes, read_whole}
use Rattle.forms.proofs.Exact.{Exact, groups_exact, bytes_exact, then_exact, many_exact, through_exact, whole_back, whole_only, bytes_rest}
use Rattle.job.specs.declared.Counts.{Counts}
use Rattle.job.specs.Job.{Job, counts_of, four_of, counts_form, Numbers, numbers_form, job_form, above_limits, numbered, counted, job_of}

pub counts_exact : Exact counts_form
counts_exact =
    through_exact counts_of four_of (λ c. refl) (λ p. refl) _
    (then_exact _ _ groups_exact (λ d. then_exact _ _ groups_exact (λ n. then_exact _ _ groups_exact (λ refinements. groups_exact))))

pub numbers_exact : (c : Counts) → Exact (numbers_form c)
numbers_exact c = then_exact _ _ (bytes_exact 8) (λ tolerance. many_exact (bytes 8) (bytes_exact 8) (c.d * c.n))

abbrev numbers_of : Job → Numbers
numbers_of j = record { first = j.tolerance; second = j.points }

-- a job within the limits, written, reads back
pub reads_back : (j : Job) → job_form.Good j → above_limits j.counts ≡ false → job_of (job_form.write j) ≡ done j
unfolding job_of counted numbered
reads_back j g w =
    rw (
      counts_exact.back j.counts ((numbers_form j.counts).write (numbers_of j)) g.0,
      w,
      whole_back (numbers_form j.counts) (numbers_exact j.counts) (numbers_of j) g.1,
    )

-- the bytes of a job, and that it has bytes and lies within the limits
abbrev pub Written : Job → List ℕ → Type 0
Written j l = (l ≡ job_form.write j) × job_form.Good j × (above_limits j.counts ≡ false)

pub one_spelling : (j : Job) (l : List ℕ) → Bytes l → job_of l ≡ done j → Written j l
unfolding job_of counted numbered
one_spelling j l B e = first (counts_form.read l) refl e
  where
    second : (c : Counts) (rest : List ℕ) → (l ≡ counts_form.write c ++ rest) × counts_form.Good c → above_limits c ≡ false
        → (o : Read Numbers) → read_whole (numbers_form c) rest ≡ o → numbered c o ≡ done j → Written j l
    second c rest i w bad f e = absurd (refused_done e)
    second c rest i w (got p r) f e =
        let k = whole_only (numbers_form c) (numbers_exact c) p rest r (bytes_rest (counts_form.write c) rest (subst Bytes i.0 B)) f in
        subst (λ (j : Job). Written j l) (done_same e) (i.0 ∙ ap (λ (z : List ℕ). counts_form.write c ++ z) k.0, (i.1, k.1), w)

    first : (o : Read Counts) → counts_form.read l ≡ o → counted o ≡ done j → Written j l
    first bad f e = absurd (refused_done e)
    first (got c rest) f e =
        let p = not_refused (above_limits c) 18 (numbered c (read_whole (numbers_form c) rest)) j e in
        second c rest (counts_exact.only c l rest B f) p.0 (read_whole (numbers_form c) rest) refl p.1

-- bytes that read as one job are the same
pub same_bytes : (j : Job) (a b : List ℕ) → Bytes a → Bytes b → job_of a ≡ done j → job_of b ≡ done j → a ≡ b
same_bytes j a b A B e f = (one_spelling j a A e).0 ∙ sym (one_spelling j b B f).0
