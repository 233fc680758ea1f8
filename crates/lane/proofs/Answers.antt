-- The answer to some bytes, as the code finds it.
use mathlib.Core.Path.{◌≡◌, refl, sym, ap, subst, ◌∙◌}
use mathlib.Core.List.{List}
use Prim.Native.Nat.{ℕ, ◌-◌, ◌≤◌}
use native.Mathlib.Omega.{arith}
use lib.ListN.{length, take, drop, length-take}
use lib.Ieee.{Float}
use Rattle.smoothing.specs.Answer.{Answer, and_then}
use Rattle.smoothing.specs.Answer.Answer.{done, refused, exhausted}
use Rattle.smoothing.specs.Build.{build_of}
use Rattle.smoothing.proofs.Accepted.{refused_done, exhausted_done, done_same}
use Rattle.job.specs.declared.Counts.{Counts}
use Rattle.job.specs.Job.{Job, job_of}
use Rattle.job.specs.Reading.{cells_of, cells_after}
use Rattle.job.proofs.Places.{point_count, job_within}
use Rattle.job.proofs.Front.{enough}
use Rattle.lane.specs.Lane.{request_of, request_in, lane_of}
use Rattle.lane.specs.Printed.{printed_of}
use Rattle.lane.specs.Room.{Small}
use Rattle.lane.proofs.Requests.{request_stands}

-- what `job::read` tells: the counts, or a refusal
abbrev pub told : List ℕ → Answer Counts
told l = and_then (job_of l) (λ j. done j.counts)

module _ (l : List ℕ) where
  pub refused_lane : (n : ℕ) → refused n ≡ told l → lane_of l ≡ refused n
  unfolding and_then
  refused_lane n e = go (job_of l) e
    where
      go : (o : Answer Job) → refused n ≡ and_then o (λ j. done j.counts) → and_then o (λ j. build_of (request_of j)) ≡ refused n
      go (done j) f = absurd (refused_done f)
      go (refused m) f = let e : m ≡ n = cc in ap refused e
      go (exhausted x) f = absurd (let z : ◌≡◌ {A = ℕ} 0 1 = cc in omega arith)

  pub small : (c : Counts) → done c ≡ told l → Small c
  unfolding and_then
  small c e = go (job_of l) refl e
    where
      go : (o : Answer Job) → job_of l ≡ o → done c ≡ and_then o (λ j. done j.counts) → Small c
      go (done j) f e = subst Small (sym (done_same e)) (job_within l j f)
      go (refused n) f e = absurd (refused_done (sym e))
      go (exhausted x) f e = absurd (exhausted_done (sym e))

  pub read_lane : (c : Counts) (cells cells' : List Float) → done c ≡ told l → cells' ≡ cells_after (job_of l) cells
      → build_of (request_in c cells') ≡ lane_of l
  unfolding and_then cells_after
  read_lane c cells cells' e h = go (job_of l) refl e h
    where
      go : (o : Answer Job) → job_of l ≡ o → done c ≡ and_then o (λ j. done j.counts) → cells' ≡ cells_after o cells
          → build_of (request_in c cells') ≡ and_then o (λ j. build_of (request_of j))
      go (done j) f e h =
          let same = done_same e in
          ap (λ (k : Counts). build_of (request_in k cells')) same
          ∙ ap (λ (t : List Float). build_of (request_in j.counts t)) h
          ∙ ap build_of (request_stands j (drop (length (cells_of j)) cells) (point_count l j f))
      go (refused n) f e h = absurd (refused_done (sym e))
      go (exhausted x) f e h = absurd (exhausted_done (sym e))

  -- the text is that of every input that begins so
  pub every_input : (t : List ℕ) → t ≡ printed_of (lane_of l)
      → (t ≡ printed_of (lane_of l)) × ((input : List ℕ) → take 1621 input ≡ l → t ≡ printed_of (lane_of input))
  every_input t e = (
    e,
    λ input f.
        e ∙ ap (λ (b : List ℕ). printed_of (lane_of b)) (sym f)
        ∙ ap (λ (x : Answer Job). printed_of (and_then x (λ j. build_of (request_of j)))) (enough input),
  )

-- the errors of at most two axes
pub two_errors : (d : ℕ) (l : List Float) → d ≤ 2 → length (take (d - 0) l) ≤ 2
two_errors d l h = rw (length-take (d - 0) l) (omega arith)

pub same_errors : (d : ℕ) (l : List Float) → take (d - 0) l ≡ take d l
same_errors d l = let e : d - 0 ≡ d = omega arith in rw e
