-- A job: document 01, "The program `lane` reads a job from standard input: d, n, max_refinements, max_segments in groups of seven bits ..
-- one tolerance, then points, eight bytes each, low byte first".
use Rattle.std.specs.Prelude.{Bool, cond, ◌||◌, List, ℕ, ◌*◌, ltb}
use Rattle.smoothing.specs.Answer.{Answer}
use Rattle.smoothing.specs.Answer.Answer.{done, refused}
use Rattle.forms.specs.Read.{Read, got, bad}
use Rattle.forms.specs.Form.{Form, Both, groups, bytes, then, many, through, read_whole}
use Rattle.job.specs.declared.Counts.{Counts}

-- a job; its numbers are bit patterns
pub record Job : Type 0 where
  pub counts : Counts
  pub tolerance : ℕ
  pub points : List ℕ

-- the four counts, one after the other
abbrev pub Four : Type 0
Four = Both ℕ (λ d. Both ℕ (λ n. Both ℕ (λ refinements. ℕ)))

abbrev pub counts_of : Four → Counts
counts_of p =
    record { d = p.first; n = p.second.first; refinements = p.second.second.first; segments = p.second.second.second }

abbrev pub four_of : Counts → Four
four_of c =
    record { first = c.d; second = record { first = c.n; second = record { first = c.refinements; second = c.segments } } }

abbrev pub counts_form : Form Counts
counts_form = through counts_of four_of (then groups (λ d. then groups (λ n. then groups (λ refinements. groups))))

-- the tolerance and the points of a job with these counts
abbrev pub Numbers : Type 0
Numbers = Both ℕ (λ tolerance. List ℕ)

abbrev pub numbers_form : Counts → Form Numbers
numbers_form c = then (bytes 8) (λ tolerance. many (bytes 8) (c.d * c.n))

-- the counts, then the numbers
abbrev pub job_with : Counts → Numbers → Job
job_with c p = record { counts = c; tolerance = p.first; points = p.second }

abbrev pub job_form : Form Job
job_form =
    through (λ p. job_with p.first p.second)
    (λ j. record { first = j.counts; second = record { first = j.tolerance; second = j.points } })
    (then counts_form numbers_form)

-- "Its limits are d 2, n 100, max_refinements 200, max_segments 100"
unfoldable pub above_limits : Counts → Bool
above_limits c = ltb 2 c.d || ltb 100 c.n || ltb 200 c.refinements || ltb 100 c.segments

-- "then anything short or left over gives 25"
unfoldable pub numbered : Counts → Read Numbers → Answer Job
numbered c (got p rest) = done (job_with c p)
numbered c bad = refused 25

-- "Four counts that do not read give 25; then a count above its limit gives 18"
unfoldable pub counted : Read Counts → Answer Job
counted (got c rest) =
    let job = numbered c (read_whole (numbers_form c) rest) in cond (above_limits c) (refused 18) job
counted bad = refused 25

-- the job that the bytes are, or the number of its refusal
unfoldable pub job_of : List ℕ → Answer Job
job_of l = counted (counts_form.read l)
